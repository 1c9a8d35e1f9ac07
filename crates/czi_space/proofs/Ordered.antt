-- The order of extents and of held spans, as a binary search needs it.
use Rattle.std.proofs.Common.{◌≡◌, ℕ, zero, suc, ◌<◌, ◌≤◌, ◌⊎◌, List, [], ◌∷◌, map, length, get_or, Bool, true, false, not, ◌&&◌, ◌==◌, nat_le, nat_lt, refl, arith, inl, inr}
use Rattle.std.specs.List.{AllByRecursion}
use Rattle.std.proofs.lemmas.Bool.{cases_Bool, leb-true, le-leb, lt-ltb, ltb-true, eqb-true}
use Rattle.std.proofs.lemmas.Bool.Decides.{nat_tests}
use Rattle.czi_format.specs.Span.{Span, end_of, span_le}
use Rattle.czi_space.specs.State.{AreExtents, IsInOrder, ends_by, comes_before}

-- an extent behind a place ends behind it
pub from_on : {X : Type 0} (f : X → Span) (from to : ℕ) (xs : List X) (i : ℕ) (d : X) → AreExtents from to (map f xs) → i < length xs → from ≤ (f (get_or xs i d)).at
from_on f from to [] i d es h = absurd (omega arith)
from_on f from to (x ∷ xs) zero d es h = es.0
from_on f from to (x ∷ xs) (suc i) d es h = omega (arith, from_on f (end_of (f x)) to xs i d es.2 (omega arith), es.0)

pub ends_parted : {X : Type 0} (f : X → Span) (from to place : ℕ) (xs : List X) → AreExtents from to (map f xs)
    → (i j : ℕ) (d : X) → i ≤ j → j < length xs → ends_by place (f (get_or xs j d)) ≡ true → ends_by place (f (get_or xs i d)) ≡ true
ends_parted f from to place [] es i j d le h test = absurd (omega arith)
ends_parted f from to place (x ∷ xs) es zero zero d le h test = test
ends_parted f from to place (x ∷ xs) es zero (suc j) d le h test =
    le-leb _ _ (omega (arith, from_on f (end_of (f x)) to xs j d es.2 (omega arith), leb-true _ _ test))
ends_parted f from to place (x ∷ xs) es (suc i) zero d le h test = absurd (omega arith)
ends_parted f from to place (x ∷ xs) es (suc i) (suc j) d le h test = ends_parted f (end_of (f x)) to place xs es.2 i j d (omega arith) (omega arith) test

-- what the order of two spans means
pub ordered : (a b : Span) → span_le a b ≡ true → (a.at < b.at) ⊎ ((a.at ≡ b.at) × (a.len ≤ b.len))
ordered a b e = elim (cases_Bool (nat_lt a.at b.at)) [
  | inl f ↦ inl (ltb-true _ _ f)
  | inr f ↦ let rest : ((a.at == b.at) && nat_le a.len b.len) ≡ true = rw f at e in
      inr (eqb-true _ _ (first _ _ rest), leb-true _ _ (second _ _ rest))
]
  where
    first : (s t : Bool) → (s && t) ≡ true → s ≡ true
    first true t h = refl
    first false t h = h

    second : (s t : Bool) → (s && t) ≡ true → t ≡ true
    second true t h = h
    second false t h = cc

pub in_order : (a b : Span) → (a.at < b.at) ⊎ ((a.at ≡ b.at) × (a.len ≤ b.len)) → span_le a b ≡ true
in_order a b (inl h) = let test : nat_lt a.at b.at ≡ true = lt-ltb _ _ h in rw test
in_order a b (inr h) =
    let test : nat_lt a.at b.at ≡ false = grind (arith, nat_tests, h.0) in
    let same : (a.at == b.at) ≡ true = grind (arith, nat_tests, h.0) in
    let short : nat_le a.len b.len ≡ true = le-leb _ _ h.1 in
    rw (test, same, short)

pub not_true : (b : Bool) → not b ≡ true → b ≡ false
not_true true e = cc
not_true false e = refl

pub le_trans : (a b c : Span) → span_le a b ≡ true → span_le b c ≡ true → span_le a c ≡ true
le_trans a b c p q = elim (ordered a b p) [
  | inl h ↦ elim (ordered b c q) [ inl k ↦ in_order a c (inl (omega arith)) | inr k ↦ in_order a c (inl (omega (arith, k.0))) ]
  | inr h ↦ elim (ordered b c q) [ inl k ↦ in_order a c (inl (omega (arith, h.0))) | inr k ↦ in_order a c (inr (omega (arith, h.0, k.0), omega (arith, h.1, k.1))) ]
]

-- what comes before a span that comes before s comes before s
pub before_le : (s x y : Span) → span_le x y ≡ true → comes_before s y ≡ true → comes_before s x ≡ true
before_le s x y le test = elim (cases_Bool (span_le s x)) [
  | inl e ↦ absurd (let both : span_le s y ≡ true = le_trans s x y e le in let none : span_le s y ≡ false = not_true _ test in cc (both, none))
  | inr e ↦ rw e
]

in_all : {X : Type 0} (f : X → Span) (x : X) (xs : List X) (j : ℕ) (d : X) → AllByRecursion (λ t. span_le (f x) t ≡ true) (map f xs) → j < length xs → span_le (f x) (f (get_or xs j d)) ≡ true
in_all f x [] j d all h = absurd (omega arith)
in_all f x (y ∷ xs) zero d all h = all.0
in_all f x (y ∷ xs) (suc j) d all h = in_all f x xs j d all.1 (omega arith)

pub held_parted : {X : Type 0} (f : X → Span) (s : Span) (xs : List X) → IsInOrder (map f xs)
    → (i j : ℕ) (d : X) → i ≤ j → j < length xs → comes_before s (f (get_or xs j d)) ≡ true → comes_before s (f (get_or xs i d)) ≡ true
held_parted f s [] order i j d le h test = absurd (omega arith)
held_parted f s (x ∷ xs) order zero zero d le h test = test
held_parted f s (x ∷ xs) order zero (suc j) d le h test = before_le s (f x) (f (get_or xs j d)) (in_all f x xs j d order.0 (omega arith)) test
held_parted f s (x ∷ xs) order (suc i) zero d le h test = absurd (omega arith)
held_parted f s (x ∷ xs) order (suc i) (suc j) d le h test = held_parted f s xs order.1 i j d (omega arith) (omega arith) test
