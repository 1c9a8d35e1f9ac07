-- A span is freed among the extents.
use Rattle.std.proofs.Common.{◌≡◌, ℕ, zero, suc, ◌+◌, ◌<◌, ◌≤◌, List, [], ◌∷◌, ◌++◌, map, take, drop, get_or, max, min, true, false, nat_lt, ◌==◌, refl, ap, sym, ◌∙◌, subst, arith, inl, inr}
use Rattle.std.specs.List.{prefix_len}
use Rattle.std.proofs.lemmas.Bool.{cases_lt, cases_Bool, leb-true, leb-false, lt-ltb, le-ltb, ltb-false, eqb-true}
use Rattle.std.proofs.lemmas.Bool.Decides.{nat_tests}
use Rattle.czi_format.specs.Span.{Span, end_of, meets, IsWhole}
use Rattle.czi_format.specs.Space.{together, with_next, with_freed}
use Rattle.czi_space.specs.State.{AreExtents, MeetsNone, ends_by}

freed_before : (s x : Span) (rest : List Span) → s.at < x.at → with_freed s (x ∷ rest) ≡ with_next s (x ∷ rest)
freed_before s x rest h = let test : nat_lt s.at x.at ≡ true = lt-ltb _ _ h in rw test

freed_joined : (s x : Span) (rest : List Span) → x.at ≤ s.at → end_of x ≡ s.at → with_freed s (x ∷ rest) ≡ with_next (together x s) rest
freed_joined s x rest h e =
    let test : nat_lt s.at x.at ≡ false = le-ltb _ _ h in
    let same : (end_of x == s.at) ≡ true = grind (arith, nat_tests) in
    rw (test, same)

freed_later : (s x : Span) (rest : List Span) → x.at ≤ s.at → (end_of x ≡ s.at → ⊥) → with_freed s (x ∷ rest) ≡ x ∷ with_freed s rest
freed_later s x rest h e =
    let test : nat_lt s.at x.at ≡ false = le-ltb _ _ h in
    let same : (end_of x == s.at) ≡ false = grind (arith, nat_tests) in
    rw (test, same)

-- an extent that the span doesn't meet and that ends behind it stands behind it
pub behind : (s x : Span) → 0 < s.len → 0 < x.len → meets s x ≡ false → s.at < end_of x → end_of s ≤ x.at
behind s x p q test h = let none : min (end_of s) (end_of x) ≤ max s.at x.at = ltb-false _ _ test in omega arith

no_ends : (from to place : ℕ) (es : List Span) → AreExtents from to es → place ≤ from → prefix_len (ends_by place) es ≡ 0
no_ends from to place [] es h = refl
no_ends from to place (x ∷ rest) es h = stops (le_false (end_of x) place (omega (arith, es.0, es.1.some)))
  where
    le_false : (a b : ℕ) → b < a → ends_by b (record { at = a; len = 0 }) ≡ false
    le_false a b k = grind (arith, nat_tests)

    stops : ends_by place (record { at = end_of x; len = 0 }) ≡ false → prefix_len (ends_by place) (x ∷ rest) ≡ 0
    stops e = let f : ends_by place x ≡ false = grind (arith, nat_tests, es.0, es.1.some, h) in rw f

pub record FreedAt {X : Type 0} (f : X → Span) (xs : List X) (s : Span) (i : ℕ) : Type 0 where
  pub apart : ((d : X) (j : ℕ) → i ≡ suc j → end_of (f (get_or xs j d)) ≡ s.at → ⊥) → with_freed s (map f xs) ≡ take i (map f xs) ++ with_next s (drop i (map f xs))
  pub joined : (d : X) (j : ℕ) → i ≡ suc j → end_of (f (get_or xs j d)) ≡ s.at → with_freed s (map f xs) ≡ take j (map f xs) ++ with_next (together (f (get_or xs j d)) s) (drop (suc j) (map f xs))

later : {X : Type 0} (f : X → Span) (x : X) (xs : List X) (s : Span) (i : ℕ) → (f x).at ≤ s.at → (end_of (f x) ≡ s.at → ⊥) → FreedAt f xs s i → FreedAt f (x ∷ xs) s (suc i)
later {X} f x xs s i low other t = record {
  apart = λ none. freed_later s (f x) (map f xs) low other ∙ ap (λ l. f x ∷ l) (t.apart (λ d j is e. none d (suc j) (ap (λ n. suc n) is) e));
  joined = at_last;
}
  where
    at_last : (d : X) (j : ℕ) → suc i ≡ suc j → end_of (f (get_or (x ∷ xs) j d)) ≡ s.at → with_freed s (f x ∷ map f xs) ≡ take j (f x ∷ map f xs) ++ with_next (together (f (get_or (x ∷ xs) j d)) s) (drop (suc j) (f x ∷ map f xs))
    at_last d zero is e = absurd (other e)
    at_last d (suc j) is e = freed_later s (f x) (map f xs) low other ∙ ap (λ l. f x ∷ l) (t.joined d j (omega arith) e)

pub freed_at : {X : Type 0} (f : X → Span) (from to : ℕ) (xs : List X) (s : Span) → AreExtents from to (map f xs) → 0 < s.len → MeetsNone s (map f xs) → FreedAt f xs s (prefix_len (ends_by s.at) (map f xs))
freed_at f from to [] s es some none = record { apart = λ n. refl; joined = λ d j is e. absurd (omega arith) }
freed_at {X} f from to (x ∷ xs) s es some none = elim (cases_Bool (ends_by s.at (f x))) [
  | inl e ↦ let p : ℕ = prefix_len (ends_by s.at) (map f xs) in
      let one : 1 + p ≡ suc p = omega arith in
      let ends : end_of (f x) ≤ s.at = leb-true _ _ e in
      subst (FreedAt f (x ∷ xs) s) (sym (goes e ∙ one)) (elim (cases_lt (end_of (f x)) s.at) [
        | inl h ↦ later f x xs s p (omega (arith, ends)) (λ k. omega arith) (freed_at f (end_of (f x)) to xs s es.2 some none.1)
        | inr h ↦ let same : end_of (f x) ≡ s.at = omega arith in
            let zero_p : p ≡ 0 = no_ends (end_of (f x)) to s.at (map f xs) es.2 h in
            subst (λ n. FreedAt f (x ∷ xs) s (suc n)) (sym zero_p) (record {
              apart = λ n. absurd (n x 0 (omega arith) same);
              joined = λ d j is q. at_first d j is same;
            })
      ])
  | inr e ↦ let past : s.at < end_of (f x) = leb-false _ _ e in
      let back : end_of s ≤ (f x).at = behind s (f x) some es.1.some none.0 past in
      subst (FreedAt f (x ∷ xs) s) (sym (stops e)) (record {
        apart = λ n. freed_before s (f x) (map f xs) (omega arith);
        joined = λ d j is q. absurd (omega arith);
      })
]
  where
    at_first : (d : X) (j : ℕ) → suc 0 ≡ suc j → end_of (f x) ≡ s.at → with_freed s (f x ∷ map f xs) ≡ take j (f x ∷ map f xs) ++ with_next (together (f (get_or (x ∷ xs) j d)) s) (drop (suc j) (f x ∷ map f xs))
    at_first d zero is same = freed_joined s (f x) (map f xs) (omega (arith, same)) same
    at_first d (suc j) is same = absurd (omega arith)

    goes : ends_by s.at (f x) ≡ true → prefix_len (ends_by s.at) (f x ∷ map f xs) ≡ 1 + prefix_len (ends_by s.at) (map f xs)
    goes e = rw e

    stops : ends_by s.at (f x) ≡ false → prefix_len (ends_by s.at) (f x ∷ map f xs) ≡ 0
    stops e = rw e

next_extents : (from to : ℕ) (s : Span) (es : List Span) → from ≤ s.at → IsWhole s → AreExtents (end_of s) to es → AreExtents from to (with_next s es)
next_extents from to s [] low whole es = (low, whole, es)
next_extents from to s (x ∷ rest) low whole es = elim (cases_Bool (end_of s == x.at)) [
  | inr e ↦ subst (AreExtents from to) (sym (other e)) (low, whole, es)
  | inl e ↦ let next : end_of s ≡ x.at = eqb-true _ _ e in
      let ends : end_of x ≡ end_of (together s x) = omega (arith, next) in
      subst (AreExtents from to) (sym (same e)) (low, record { at = whole.at; len = omega (arith, whole.len, es.1.len); some = omega (arith, whole.some) }, subst (λ n. AreExtents n to rest) ends es.2)
]
  where
    other : (end_of s == x.at) ≡ false → with_next s (x ∷ rest) ≡ s ∷ x ∷ rest
    other e = rw e

    same : (end_of s == x.at) ≡ true → with_next s (x ∷ rest) ≡ together s x ∷ rest
    same e = rw e

-- a place below the first extent may be any lower one
lower : (a b c : ℕ) (es : List Span) → b ≤ a → AreExtents a c es → AreExtents b c es
lower a b c [] h es = omega arith
lower a b c (x ∷ rest) h es = (omega (arith, es.0, h), es.1, es.2)

rest_behind : (from to : ℕ) (s : Span) (es : List Span) → AreExtents from to es → 0 < s.len → MeetsNone s es → s.at ≤ from → end_of s ≤ to → AreExtents (end_of s) to es
rest_behind from to s [] es some none low high = high
rest_behind from to s (x ∷ rest) es some none low high = (behind s x some es.1.some none.0 (omega (arith, es.0, low, es.1.some)), es.1, es.2)

pub freed_extents : (from to : ℕ) (s : Span) (es : List Span) → AreExtents from to es → IsWhole s → MeetsNone s es → from ≤ s.at → end_of s ≤ to → AreExtents from to (with_freed s es)
freed_extents from to s [] es whole none low high = (low, whole, high)
freed_extents from to s (x ∷ rest) es whole none low high = elim (cases_lt s.at (end_of x)) [
  | inl h ↦ let back : end_of s ≤ x.at = behind s x whole.some es.1.some none.0 h in
      subst (AreExtents from to) (sym (freed_before s x rest (omega (arith, back, whole.some)))) (next_extents from to s (x ∷ rest) low whole (back, es.1, es.2))
  | inr h ↦ elim (cases_lt (end_of x) s.at) [
    | inl k ↦ subst (AreExtents from to) (sym (freed_later s x rest (omega arith) (λ q. omega arith))) (es.0, es.1, freed_extents (end_of x) to s rest es.2 whole none.1 h high)
    | inr k ↦ let same : end_of x ≡ s.at = omega arith in
        let ends : end_of s ≡ end_of (together x s) = omega (arith, same) in
        subst (AreExtents from to) (sym (freed_joined s x rest (omega arith) same))
        (next_extents from to (together x s) rest es.0 (record { at = es.1.at; len = omega (arith, es.1.len, whole.len); some = omega (arith, es.1.some) })
        (subst (λ n. AreExtents n to rest) ends (rest_behind (end_of x) to s rest es.2 whole.some none.1 k high)))
  ]
]
