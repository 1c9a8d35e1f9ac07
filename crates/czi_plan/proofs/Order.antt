-- Extents that are searched, used and freed, and spans in order of place.
use Rattle.std.proofs.Common.{◌≡◌, ◌⊎◌, ℕ, zero, suc, ◌+◌, ◌<◌, ◌≤◌, List, [], ◌∷◌, ◌++◌, map, drop, length, get_or, Bool, true, false, ◌&&◌, ◌==◌, nat_lt, refl, ap, ◌∙◌, arith, inl, inr, take, append-nil}
use Rattle.std.specs.List.{flat_map, list_any, AllByRecursion}
use Rattle.std.proofs.lemmas.Bool.{cases_Bool, ne_eqb, ltb-true, ltb-false, cases_lt}
use Rattle.std.proofs.lemmas.Bool.Decides.{nat_tests}
use Rattle.std.proofs.lemmas.List.{take_all, drop_all}
use Rattle.czi_format.specs.Span.{Span, end_of, meets, span_le, inserted, sorted}
use Rattle.czi_format.specs.Space.{same_span, without, left_of}
use Rattle.czi_spans.specs.Apart.{AreApart}
use Rattle.czi_spans.proofs.Apart.{apart_at, apart_two}
use Rattle.czi_space.specs.State.{AreExtents, IsInOrder}
use Rattle.czi_space.proofs.Taken.{left_apart, miss, without_extents}
use Rattle.czi_machine.specs.Cover.{between, cover, Chained}
use Rattle.czi_machine.proofs.Cover.{between_in, cover-sorted, between_low, between_high}
use Rattle.czi_spans.proofs.Sorting.{all_sorted}
use Rattle.czi_space.proofs.Held.{held_in_order}
use Rattle.czi_plan.specs.Geometry.{AreUsed}

pub extents_apart : (from to : ℕ) (es : List Span) → AreExtents from to es → AreApart from es
extents_apart from to [] es = tt
extents_apart from to (s ∷ rest) es = (es.0, es.1.some, extents_apart (end_of s) to rest es.2)

none_passes : {X Y : Type 0} (f : X → Y) (p : Y → Bool) (xs : List X) → ((k : ℕ) (d : X) → k < length xs → p (f (get_or xs k d)) ≡ false) → list_any p (map f xs) ≡ false
none_passes f p [] none = refl
none_passes f p (x ∷ xs) none = let first : p (f x) ≡ false = none 0 x (omega arith) in rw first (none_passes f p xs (λ k d h. none (suc k) d (omega arith)))

decided : {X Y : Type 0} (f : X → Y) (p : Y → Bool) (xs : List X) (i : ℕ) (d : X) → i < length xs
    → ((k : ℕ) (e : X) → k < i → p (f (get_or xs k e)) ≡ false) → ((k : ℕ) (e : X) → i < k → k < length xs → p (f (get_or xs k e)) ≡ false)
    → list_any p (map f xs) ≡ p (f (get_or xs i d))
decided f p [] i d h before behind = absurd (omega arith)
decided f p (x ∷ xs) zero d h before behind = elim (cases_Bool (p (f x))) [
  | inl e ↦ rw e
  | inr e ↦ rw e (none_passes f p xs (λ k c l. behind (suc k) c (omega arith) (omega arith)))
]
decided f p (x ∷ xs) (suc i) d h before behind =
    let first : p (f x) ≡ false = before 0 x (omega arith) in
    rw first (decided f p xs i d (omega arith) (λ k e l. before (suc k) e (omega arith)) (λ k e l m. behind (suc k) e (omega arith) (omega arith)))

other_place : (s x : Span) → (s.at ≡ x.at → ⊥) → same_span s x ≡ false
other_place s x h = let e : (s.at == x.at) ≡ false = ne_eqb _ _ h in rw e

pub span_decided : {X : Type 0} (f : X → Span) (s : Span) (xs : List X) (i : ℕ) (d : X) → AreApart 0 (map f xs) → i < length xs
    → ((k : ℕ) (e : X) → k < i → nat_lt (f (get_or xs k e)).at s.at ≡ true) → ((e : X) → nat_lt (f (get_or xs i e)).at s.at ≡ false)
    → list_any (same_span s) (map f xs) ≡ same_span s (f (get_or xs i d))
span_decided f s xs i d apart h before here =
    decided f (same_span s) xs i d h
    (λ k e l. other_place s _ (λ same. omega (arith, same, ltb-true _ _ (before k e l))))
    (λ k e l m. other_place s _ (λ same. omega (arith, same, ltb-false _ _ (here e), apart_two f 0 xs i k e apart l m, (apart_at f 0 xs i e apart h).1)))

pub span_nowhere : {X : Type 0} (f : X → Span) (s : Span) (xs : List X) → ((k : ℕ) (e : X) → k < length xs → nat_lt (f (get_or xs k e)).at s.at ≡ true)
    → list_any (same_span s) (map f xs) ≡ false
span_nowhere f s xs before = none_passes f (same_span s) xs (λ k e l. other_place s _ (λ same. omega (arith, same, ltb-true _ _ (before k e l))))

pub same_turned : (a b : Span) → ((a.at == b.at) && (a.len == b.len)) ≡ same_span b a
same_turned a b = grind (arith, nat_tests)

-- what lies past the extents takes nothing of them
pub untouched : (from to : ℕ) (s : Span) (es : List Span) → AreExtents from to es → to ≤ s.at → flat_map (left_of s) es ≡ es
untouched from to s [] es past = refl
untouched from to s (x ∷ rest) es past =
    let low : end_of x ≤ s.at = omega (arith, ends (end_of x) to rest es.2, past) in
    let apart : meets s x ≡ false = miss s x (inr low) in
    let one : left_of s x ≡ x ∷ [] = left_apart s x apart in
    ap (λ l. l ++ flat_map (left_of s) rest) one ∙ ap (λ l. x ∷ l) (untouched (end_of x) to s rest es.2 past)
  where
    ends : (a b : ℕ) (xs : List Span) → AreExtents a b xs → a ≤ b
    ends a b [] e = e
    ends a b (y ∷ ys) e = omega (arith, e.0, ends (end_of y) b ys e.2)

-- the extents once some are used
pub used_stay : (n : ℕ) (used es : List Span) → AreExtents 0 n es → AreUsed n used es → AreExtents 0 n (without used es)
used_stay n [] es rise all = rise
used_stay n (s ∷ used) es rise all = used_stay n used (without (s ∷ []) es) (without_extents 0 n s es all.0.at all.0.len rise) all.2

-- where a place stands to a span
pub at_place : (a b q : ℕ) → ((between a b q ≡ 1) × (a ≤ q) × (q < b)) ⊎ (((between a b q ≡ 0) × (q < a)) ⊎ ((between a b q ≡ 0) × (b ≤ q)))
at_place a b q = elim (cases_lt q a) [
  | inl h ↦ inr (inl (between_low a b q h, h))
  | inr h ↦ elim (cases_lt q b) [ inl k ↦ inl (between_in a b q h k, h, k) | inr k ↦ inr (inr (between_high a b q k, k)) ]
]

inserted_chained : (s : Span) (xs : List Span) (from : ℕ) → 0 < s.len → AllByRecursion (λ (x : Span). 0 < x.len) xs → ((p : ℕ) → between s.at (end_of s) p + cover xs p ≤ 1) → from ≤ s.at → Chained from xs → Chained from (inserted span_le s xs)
inserted_chained s [] from some all once low chain = (low, tt)
inserted_chained s (x ∷ xs) from some all once low chain = elim (cases_Bool (span_le s x)) [
  | inl e ↦ rw e (low, (omega (arith, le_begins s x e, some, all.0, once x.at, at_place), chain.1))
  | inr e ↦ rw e (chain.0, inserted_chained s xs (end_of x) some all.1 (λ p. omega (arith, once p)) (omega (arith, not_le_begins s x e, some, all.0, once s.at, at_place)) chain.1)
]
  where
    le_begins : (a b : Span) → span_le a b ≡ true → a.at ≤ b.at
    le_begins a b h = grind (arith, nat_tests)

    not_le_begins : (a b : Span) → span_le a b ≡ false → b.at ≤ a.at
    not_le_begins a b h = grind (arith, nat_tests)

-- spans without a place in common, in order, stand one behind another
pub sorted_chained : (from : ℕ) (xs : List Span) → AllByRecursion (λ (x : Span). from ≤ x.at) xs → AllByRecursion (λ (x : Span). 0 < x.len) xs → ((p : ℕ) → cover xs p ≤ 1) → Chained from (sorted span_le xs)
sorted_chained from [] low some once = tt
sorted_chained from (x ∷ xs) low some once =
    inserted_chained x (sorted span_le xs) from some.0 (all_sorted span_le (λ (y : Span). 0 < y.len) xs some.1) (λ p. omega (arith, once p, cover-sorted xs p)) low.0
    (sorted_chained from xs low.1 some.1 (λ p. omega (arith, once p)))

pub taken_whole : {X : Type 0} (n : ℕ) (xs ys : List X) → length xs ≡ length ys → n ≡ length ys → take n (xs ++ drop (length xs) ys) ≡ xs
taken_whole n xs ys long whole =
    let none : drop (length xs) ys ≡ [] = drop_all (length xs) ys (omega (arith, long)) in
    ap (λ l. take n (xs ++ l)) none ∙ (ap (take n) (append-nil xs) ∙ take_all n xs (omega (arith, long, whole)))

-- what is in order stays as it is where it is sorted
put_first : (s : Span) (xs : List Span) → AllByRecursion (λ t. span_le s t ≡ true) xs → inserted span_le s xs ≡ s ∷ xs
put_first s [] all = refl
put_first s (x ∷ xs) all = let first : span_le s x ≡ true = all.0 in rw first refl

sorted_stays : (xs : List Span) → IsInOrder xs → sorted span_le xs ≡ xs
sorted_stays [] order = refl
sorted_stays (x ∷ xs) order = ap (inserted span_le x) (sorted_stays xs order.1) ∙ put_first x xs order.0

sorted_order : (xs : List Span) → IsInOrder (sorted span_le xs)
sorted_order [] = tt
sorted_order (x ∷ xs) = held_in_order x (sorted span_le xs) (sorted_order xs)

pub sorted_again : (xs : List Span) → sorted span_le (sorted span_le xs) ≡ sorted span_le xs
sorted_again xs = sorted_stays (sorted span_le xs) (sorted_order xs)
