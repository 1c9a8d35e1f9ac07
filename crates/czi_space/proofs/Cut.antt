-- Extents below a length.
use Rattle.std.proofs.Common.{◌≡◌, ℕ, suc, ◌+◌, ◌<◌, ◌≤◌, List, [], ◌∷◌, ◌++◌, take, true, false, refl, ap, sym, ◌∙◌, subst, arith, inl, inr}
use Rattle.std.specs.List.{prefix_len}
use Rattle.std.proofs.lemmas.Bool.{cases_Bool, leb-true, leb-false}
use Rattle.std.proofs.lemmas.Bool.Decides.{nat_tests}
use Rattle.czi_format.specs.Span.{Span, end_of, IsWhole}
use Rattle.czi_format.specs.Space.{cut_to}
use Rattle.czi_space.specs.State.{AreExtents, ends_by}

-- a longer image
pub longer : (from to more : ℕ) (es : List Span) → to ≤ more → AreExtents from to es → AreExtents from more es
longer from to more [] h es = omega arith
longer from to more (x ∷ rest) h es = (es.0, es.1, longer (end_of x) to more rest h es.2)

stays : (n : ℕ) (x : Span) (rest : List Span) → ends_by n x ≡ true → cut_to n (x ∷ rest) ≡ x ∷ cut_to n rest
stays n x rest e = rw e

goes_out : (n : ℕ) (x : Span) (rest : List Span) → ends_by n x ≡ false → cut_to n (x ∷ rest) ≡ cut_to n rest
goes_out n x rest e = rw e

none_left : (from to n : ℕ) (es : List Span) → AreExtents from to es → n < from → cut_to n es ≡ []
none_left from to n [] es h = refl
none_left from to n (x ∷ rest) es h =
    let past : n < end_of x = omega (arith, es.0, es.1.some) in
    let test : ends_by n x ≡ false = grind (arith, nat_tests) in
    goes_out n x rest test ∙ none_left (end_of x) to n rest es.2 past

pub cut_at : (from to n : ℕ) (es : List Span) → AreExtents from to es → cut_to n es ≡ take (prefix_len (ends_by n) es) es
cut_at from to n [] es = refl
cut_at from to n (x ∷ rest) es = elim (cases_Bool (ends_by n x)) [
  | inl e ↦ let p : ℕ = prefix_len (ends_by n) rest in
      let one : 1 + p ≡ suc p = omega arith in
      stays n x rest e ∙ (ap (λ l. x ∷ l) (cut_at (end_of x) to n rest es.2) ∙ sym (ap (λ k. take k (x ∷ rest)) (goes e ∙ one)))
  | inr e ↦ goes_out n x rest e ∙ (none_left (end_of x) to n rest es.2 (leb-false _ _ e) ∙ sym (ap (λ k. take k (x ∷ rest)) (stops e)))
]
  where
    goes : ends_by n x ≡ true → prefix_len (ends_by n) (x ∷ rest) ≡ 1 + prefix_len (ends_by n) rest
    goes e = rw e

    stops : ends_by n x ≡ false → prefix_len (ends_by n) (x ∷ rest) ≡ 0
    stops e = rw e

pub cut_extents : (from to n : ℕ) (es : List Span) → from ≤ n → AreExtents from to es → AreExtents from n (cut_to n es)
cut_extents from to n [] h es = h
cut_extents from to n (x ∷ rest) h es = elim (cases_Bool (ends_by n x)) [
  | inl e ↦ subst (AreExtents from n) (sym (stays n x rest e)) (es.0, es.1, cut_extents (end_of x) to n rest (leb-true _ _ e) es.2)
  | inr e ↦ subst (AreExtents from n) (sym (goes_out n x rest e ∙ none_left (end_of x) to n rest es.2 (leb-false _ _ e))) h
]

-- one more extent, behind all others
pub one_behind : (from to : ℕ) (es : List Span) (s : Span) → AreExtents from s.at es → IsWhole s → end_of s ≤ to → AreExtents from to (es ++ s ∷ [])
one_behind from to [] s es whole inside = (es, whole, inside)
one_behind from to (x ∷ rest) s es whole inside = (es.0, es.1, one_behind (end_of x) to rest s es.2 whole inside)
