-- Few extents are new after an edit, so its links are few.
use Rattle.std.proofs.Common.{◌≡◌, ℕ, ◌+◌, ◌-◌, ◌*◌, ◌≤◌, List, [], ◌∷◌, ◌++◌, filter, length, Bool, true, false, cond, not, ◌==◌, nat_lt, refl, ap, arith, inl, inr}
use Rattle.std.specs.List.{AllByRecursion, flat_map, list_any}
use Rattle.std.proofs.lemmas.Bool.{cases_Bool}
use Rattle.czi_format.specs.Layout.{Place}
use Rattle.czi_format.specs.Span.{Span, end_of, meets, span_le, inserted, sorted, LiesInOne}
use Rattle.czi_format.specs.Space.{from_to, left_of, together, without, with_next, with_freed, with_all_freed, deleted_after, same_span}
use Rattle.czi_machine.specs.State.{spans_of}
use Rattle.czi_machine.proofs.Leaving.{among_themselves}
use Rattle.czi_space.specs.State.{AreExtents}
use Rattle.czi_space.proofs.Taken.{left_apart, miss, all_apart, without_extents}
use Rattle.czi_plan.specs.Geometry.{AreUsed}
use Rattle.czi_plan.specs.Marks.{is_new}
use Rattle.czi_plan.proofs.Order.{untouched}
use Rattle.czi_machine.proofs.Tiled.{All-weaken}

-- how many of some spans pass a test
abbrev pub times : (Span → Bool) → List Span → ℕ
times q [] = 0
times q (s ∷ xs) = cond (q s) 1 0 + times q xs

pub one_at_most : (b : Bool) → cond b 1 0 ≤ 1
one_at_most true = omega arith
one_at_most false = omega arith

times-append : (q : Span → Bool) (xs ys : List Span) → times q (xs ++ ys) ≡ times q xs + times q ys
times-append q [] ys = omega arith
times-append q (x ∷ xs) ys = omega (arith, times-append q xs ys)

times-with_next : (q : Span → Bool) (s : Span) (es : List Span) → times q (with_next s es) ≤ 1 + times q es
times-with_next q s [] = omega (arith, one_at_most (q s))
times-with_next q s (e ∷ es) = elim (cases_Bool (end_of s == e.at)) [
  | inl f ↦ rw f (omega (arith, one_at_most (q (together s e))))
  | inr f ↦ rw f (omega (arith, one_at_most (q s)))
]

times-with_freed : (q : Span → Bool) (s : Span) (es : List Span) → times q (with_freed s es) ≤ 1 + times q es
times-with_freed q s [] = omega (arith, one_at_most (q s))
times-with_freed q s (e ∷ es) = elim (cases_Bool (nat_lt s.at e.at)) [
  | inl f ↦ rw f (times-with_next q s (e ∷ es))
  | inr f ↦ elim (cases_Bool (end_of e == s.at)) [
    | inl g ↦ rw (f, g) (omega (arith, times-with_next q (together e s) es))
    | inr g ↦ rw (f, g) (omega (arith, times-with_freed q s es))
  ]
]

times-with_all_freed : (q : Span → Bool) (freed es : List Span) → times q (with_all_freed freed es) ≤ length freed + times q es
times-with_all_freed q [] es = omega arith
times-with_all_freed q (s ∷ freed) es = omega (arith, times-with_all_freed q freed (with_freed s es), times-with_freed q s es)

length-inserted : (s : Span) (xs : List Span) → length (inserted span_le s xs) ≡ 1 + length xs
length-inserted s [] = omega arith
length-inserted s (x ∷ xs) = elim (cases_Bool (span_le s x)) [ inl e ↦ rw e (omega arith) | inr e ↦ rw e (omega (arith, length-inserted s xs)) ]

pub length-sorted : (xs : List Span) → length (sorted span_le xs) ≡ length xs
length-sorted [] = refl
length-sorted (x ∷ xs) = omega (arith, length-inserted x (sorted span_le xs), length-sorted xs)

times-from_to : (q : Span → Bool) (a b : ℕ) → times q (from_to a b) ≤ 1
times-from_to q a b = elim (cases_Bool (nat_lt a b)) [ inl e ↦ rw e (omega (arith, one_at_most (q (record { at = a; len = b - a })))) | inr e ↦ rw e (omega arith) ]

-- of a span come two parts at most
times-left_of : (q : Span → Bool) (t s : Span) → times q (left_of t s) ≤ 2
times-left_of q t s = elim (cases_Bool (meets t s)) [
  | inl e ↦ rw e (omega (arith, times-append q (from_to s.at t.at) (from_to (end_of t) (end_of s)), times-from_to q s.at t.at, times-from_to q (end_of t) (end_of s)))
  | inr e ↦ rw e (omega (arith, one_at_most (q s)))
]

pub lies_from : (from to : ℕ) (t : Span) (es : List Span) → AreExtents from to es → LiesInOne t es → from ≤ t.at
lies_from from to t [] rise lies = absurd lies
lies_from from to t (e ∷ es) rise (inl i) = omega (arith, rise.0, i.0)
lies_from from to t (e ∷ es) rise (inr i) = omega (arith, rise.0, lies_from (end_of e) to t es rise.2 i)

times-taken : (q : Span → Bool) (from to : ℕ) (t : Span) (es : List Span) → AreExtents from to es → LiesInOne t es → times q (flat_map (left_of t) es) ≤ 2 + times q es
times-taken q from to t [] rise lies = absurd lies
times-taken q from to t (e ∷ es) rise (inl i) =
    let rest : flat_map (left_of t) es ≡ es = all_apart (end_of e) to t es rise.2 i.1 in
    omega (arith, times-append q (left_of t e) (flat_map (left_of t) es), times-left_of q t e, ap (times q) rest)
times-taken q from to t (e ∷ es) rise (inr i) =
    let one : left_of t e ≡ e ∷ [] = left_apart t e (miss t e (inr (lies_from (end_of e) to t es rise.2 i))) in
    omega (arith, times-append q (left_of t e) (flat_map (left_of t) es), ap (times q) one, times-taken q (end_of e) to t es rise.2 i)

times-without : (q : Span → Bool) (n : ℕ) (used es : List Span) → AreExtents 0 n es → AreUsed n used es → times q (without used es) ≤ 2 * length used + times q es
times-without q n [] es rise all = omega arith
times-without q n (t ∷ used) es rise all =
    let left : AreExtents 0 n (flat_map (left_of t) es) = without_extents 0 n t es all.0.at all.0.len rise in
    let one : times q (flat_map (left_of t) es) ≤ 2 + times q es = elim all.1 [ inl i ↦ times-taken q 0 n t es rise i | inr p ↦ omega (arith, ap (times q) (untouched 0 n t es rise p)) ] in
    omega (arith, one, times-without q n used (flat_map (left_of t) es) left all.2)

times-none : (q : Span → Bool) (xs : List Span) → AllByRecursion (λ s. q s ≡ false) xs → times q xs ≡ 0
times-none q [] all = refl
times-none q (x ∷ xs) all = let none : q x ≡ false = all.0 in rw none (omega (arith, times-none q xs all.1))

pub counted : (q : Span → Bool) (xs : List Span) → length (filter q xs) ≡ times q xs
counted q [] = refl
counted q (x ∷ xs) = elim (cases_Bool (q x)) [ inl e ↦ rw e (omega (arith, counted q xs)) | inr e ↦ rw e (omega (arith, counted q xs)) ]

-- few of the extents after an edit weren't there before it
pub few_marks : (n : ℕ) (used freed before : List Span) → AreExtents 0 n before → AreUsed n used before → length (filter (is_new before) (deleted_after used freed before)) ≤ 2 * length used + length freed
few_marks n used freed before rise all =
    let none : times (is_new before) before ≡ 0 = times-none (is_new before) before (All-weaken (λ s. list_any (same_span s) before ≡ true) (λ s. is_new before s ≡ false) (λ s e. ap not e) before (among_themselves before)) in
    omega (arith, counted (is_new before) (deleted_after used freed before), times-with_all_freed (is_new before) (sorted span_le freed) (without used before), length-sorted freed, times-without (is_new before) n used before rise all, none)

-- all extents
pub few_extents : (n : ℕ) (used freed before : List Span) → AreExtents 0 n before → AreUsed n used before → length (deleted_after used freed before) ≤ length before + (2 * length used + length freed)
few_extents n used freed before rise all =
    omega (arith, every (deleted_after used freed before), every before, times-with_all_freed (λ s. true) (sorted span_le freed) (without used before), length-sorted freed, times-without (λ s. true) n used before rise all)
  where
    every : (xs : List Span) → times (λ s. true) xs ≡ length xs
    every [] = refl
    every (x ∷ xs) = omega (arith, every xs)

-- places that pass a test, and those that don't
pub spans_both : (q : Place → Bool) (G : List Place) → length (spans_of (filter q G)) + length (spans_of (filter (λ p. not (q p)) G)) ≡ length G
spans_both q [] = refl
spans_both q (g ∷ G) = elim (cases_Bool (q g)) [ inl e ↦ rw e (omega (arith, spans_both q G)) | inr e ↦ rw e (omega (arith, spans_both q G)) ]
