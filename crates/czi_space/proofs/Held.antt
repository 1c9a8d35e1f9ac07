-- Spans are held and released.
use Rattle.std.proofs.Common.{◌≡◌, ℕ, suc, ◌+◌, ◌<◌, ◌≤◌, List, [], ◌∷◌, ◌++◌, take, drop, length, Bool, true, false, not, ◌==◌, refl, ap, sym, ◌∙◌, subst, arith, inl, inr}
use Rattle.std.specs.List.{prefix_len, AllByRecursion}
use Rattle.std.proofs.lemmas.Bool.{cases_lt, cases_Bool}
use Rattle.std.proofs.lemmas.Bool.Decides.{nat_tests}
use Rattle.czi_format.specs.Span.{Span, span_le}
use Rattle.czi_format.specs.Space.{with_held, released, same_span}
use Rattle.czi_space.specs.State.{IsInOrder, IsHeld, comes_before}
use Rattle.czi_space.proofs.Ordered.{ordered, in_order, le_trans, not_true}

goes : (s x : Span) (hs : List Span) → comes_before s x ≡ true → prefix_len (comes_before s) (x ∷ hs) ≡ 1 + prefix_len (comes_before s) hs
goes s x hs e = rw e

stops : (s x : Span) (hs : List Span) → comes_before s x ≡ false → prefix_len (comes_before s) (x ∷ hs) ≡ 0
stops s x hs e = rw e

not_false : (b : Bool) → not b ≡ false → b ≡ true
not_false true e = refl
not_false false e = cc

put_first : (s x : Span) (hs : List Span) → span_le s x ≡ true → with_held s (x ∷ hs) ≡ s ∷ x ∷ hs
put_first s x hs e = rw e

put_later : (s x : Span) (hs : List Span) → span_le s x ≡ false → with_held s (x ∷ hs) ≡ x ∷ with_held s hs
put_later s x hs e = rw e

pub held_at : (s : Span) (hs : List Span) → with_held s hs ≡ take (prefix_len (comes_before s) hs) hs ++ (s ∷ drop (prefix_len (comes_before s) hs) hs)
held_at s [] = refl
held_at s (x ∷ hs) = elim (cases_Bool (comes_before s x)) [
  | inl e ↦ let p : ℕ = prefix_len (comes_before s) hs in
      let one : 1 + p ≡ suc p = omega arith in
      put_later s x hs (not_true _ e) ∙ (ap (λ l. x ∷ l) (held_at s hs) ∙ sym (ap (λ n. take n (x ∷ hs) ++ (s ∷ drop n (x ∷ hs))) (goes s x hs e ∙ one)))
  | inr e ↦ put_first s x hs (not_false _ e) ∙ sym (ap (λ n. take n (x ∷ hs) ++ (s ∷ drop n (x ∷ hs))) (stops s x hs e))
]

-- of two spans one comes first
total : (a b : Span) → span_le a b ≡ false → span_le b a ≡ true
total a b e = elim (cases_lt b.at a.at) [
  | inl h ↦ in_order b a (inl h)
  | inr h ↦ elim (cases_lt a.at b.at) [
    | inl k ↦ absurd (let yes : span_le a b ≡ true = in_order a b (inl k) in cc (yes, e))
    | inr k ↦ elim (cases_lt b.len a.len) [
      | inl l ↦ in_order b a (inr (omega arith, omega arith))
      | inr l ↦ absurd (let yes : span_le a b ≡ true = in_order a b (inr (omega arith, l)) in cc (yes, e))
    ]
  ]
]

all_with : (x s : Span) (hs : List Span) → span_le x s ≡ true → AllByRecursion (λ t. span_le x t ≡ true) hs → AllByRecursion (λ t. span_le x t ≡ true) (with_held s hs)
all_with x s [] le all = (le, tt)
all_with x s (y ∷ hs) le all = elim (cases_Bool (span_le s y)) [
  | inl e ↦ subst (AllByRecursion (λ t. span_le x t ≡ true)) (sym (put_first s y hs e)) (le, (all.0, all.1))
  | inr e ↦ subst (AllByRecursion (λ t. span_le x t ≡ true)) (sym (put_later s y hs e)) (all.0, all_with x s hs le all.1)
]

all_after : (s x : Span) (hs : List Span) → span_le s x ≡ true → AllByRecursion (λ t. span_le x t ≡ true) hs → AllByRecursion (λ t. span_le s t ≡ true) hs
all_after s x [] le all = tt
all_after s x (y ∷ hs) le all = (le_trans s x y le all.0, all_after s x hs le all.1)

pub held_in_order : (s : Span) (hs : List Span) → IsInOrder hs → IsInOrder (with_held s hs)
held_in_order s [] order = (tt, tt)
held_in_order s (x ∷ hs) order = elim (cases_Bool (span_le s x)) [
  | inl e ↦ subst IsInOrder (sym (put_first s x hs e)) ((e, all_after s x hs e order.0), (order.0, order.1))
  | inr e ↦ subst IsInOrder (sym (put_later s x hs e)) (all_with x s hs (total s x e) order.0, held_in_order s hs order.1)
]

is_same : (a b : Span) → a ≡ b → same_span a b ≡ true
is_same a b e =
    let at : (a.at == b.at) ≡ true = grind (arith, nat_tests, ap (λ (z : Span). z.at) e) in
    let len : (a.len == b.len) ≡ true = grind (arith, nat_tests, ap (λ (z : Span). z.len) e) in
    rw (at, len)

release_first : (s x : Span) (hs : List Span) → same_span x s ≡ true → released s (x ∷ hs) ≡ hs
release_first s x hs e = rw e

release_later : (s x : Span) (hs : List Span) → same_span x s ≡ false → released s (x ∷ hs) ≡ x ∷ released s hs
release_later s x hs e = rw e

reflexive : (s : Span) → span_le s s ≡ true
reflexive s = in_order s s (inr (refl, omega arith))

both_ways : (a b : Span) → span_le a b ≡ true → span_le b a ≡ true → a ≡ b
both_ways a b p q =
    let at : a.at ≡ b.at = elim (ordered a b p) [ inl h ↦ elim (ordered b a q) [ inl k ↦ absurd (omega arith) | inr k ↦ absurd (omega (arith, k.0)) ] | inr h ↦ h.0 ] in
    let len : a.len ≡ b.len = elim (ordered a b p) [
      | inl h ↦ absurd (omega arith)
      | inr h ↦ elim (ordered b a q) [ inl k ↦ absurd (omega arith) | inr k ↦ omega (arith, h.1, k.1) ]
    ] in
    λ i. record { at = at i; len = len i }

above : (x s : Span) (hs : List Span) → AllByRecursion (λ t. span_le x t ≡ true) hs → IsHeld s hs → span_le x s ≡ true
above x s [] all held = absurd held
above x s (y ∷ hs) all (inl e) = subst (λ t. span_le x t ≡ true) (sym e) all.0
above x s (y ∷ hs) all (inr h) = above x s hs all.1 h

pub record ReleasedAt (s : Span) (hs : List Span) (i : ℕ) : Type 0 where
  pub inside : i < length hs
  pub left : released s hs ≡ take i hs ++ drop (suc i) hs

pub released_at : (s : Span) (hs : List Span) → IsInOrder hs → IsHeld s hs → ReleasedAt s hs (prefix_len (comes_before s) hs)
released_at s [] order held = absurd held
released_at s (x ∷ hs) order held = elim (cases_Bool (comes_before s x)) [
  | inl e ↦ let p : ℕ = prefix_len (comes_before s) hs in
      let one : 1 + p ≡ suc p = omega arith in
      let r : ReleasedAt s hs p = released_at s hs order.1 (in_rest e held) in
      subst (ReleasedAt s (x ∷ hs)) (sym (goes s x hs e ∙ one)) (record {
        inside = omega (arith, r.inside);
        left = release_later s x hs (other e) ∙ ap (λ l. x ∷ l) r.left;
      })
  | inr e ↦ let same : x ≡ s = first e held in
      subst (ReleasedAt s (x ∷ hs)) (sym (stops s x hs e)) (record { inside = omega arith; left = release_first s x hs (is_same x s same) })
]
  where
    in_rest : comes_before s x ≡ true → IsHeld s (x ∷ hs) → IsHeld s hs
    in_rest e (inl h) = absurd (let no : span_le s x ≡ false = not_true _ e in let yes : span_le s x ≡ true = subst (λ t. span_le s t ≡ true) h (reflexive s) in cc (no, yes))
    in_rest e (inr h) = h

    other : comes_before s x ≡ true → same_span x s ≡ false
    other e = elim (cases_Bool (same_span x s)) [
      | inr f ↦ f
      | inl f ↦ absurd (let no : span_le s x ≡ false = not_true _ e in let yes : span_le s x ≡ true = in_order s x (inr (equal_at f, equal_len f)) in cc (no, yes))
    ]
      where
        equal_at : same_span x s ≡ true → s.at ≡ x.at
        equal_at f = grind (arith, nat_tests)

        equal_len : same_span x s ≡ true → s.len ≤ x.len
        equal_len f = grind (arith, nat_tests)

    first : comes_before s x ≡ false → IsHeld s (x ∷ hs) → x ≡ s
    first e (inl h) = sym h
    first e (inr h) = both_ways x s (above x s hs order.0 h) (not_false _ e)

all_without : (x s : Span) (hs : List Span) → AllByRecursion (λ t. span_le x t ≡ true) hs → AllByRecursion (λ t. span_le x t ≡ true) (released s hs)
all_without x s [] all = tt
all_without x s (y ∷ hs) all = elim (cases_Bool (same_span y s)) [
  | inl e ↦ subst (AllByRecursion (λ t. span_le x t ≡ true)) (sym (release_first s y hs e)) all.1
  | inr e ↦ subst (AllByRecursion (λ t. span_le x t ≡ true)) (sym (release_later s y hs e)) (all.0, all_without x s hs all.1)
]

pub released_in_order : (s : Span) (hs : List Span) → IsInOrder hs → IsInOrder (released s hs)
released_in_order s [] order = tt
released_in_order s (x ∷ hs) order = elim (cases_Bool (same_span x s)) [
  | inl e ↦ subst IsInOrder (sym (release_first s x hs e)) order.1
  | inr e ↦ subst IsInOrder (sym (release_later s x hs e)) (all_without x s hs order.0, released_in_order s hs order.1)
]
