-- Spans by place and length are a total order.
use Rattle.std.proofs.Common.{◌≡◌, ◌⊎◌, ℕ, suc, ◌+◌, ◌<◌, ◌≤◌, List, [], ◌∷◌, map, length, get_or, true, false, ◌==◌, nat_le, nat_lt, Ordering, sym, subst, arith, inl, inr}
use Rattle.std.specs.Ordering.{is_lt, nat_cmp, ordering_then, MatchOrdering}
use Rattle.std.specs.declared.cmp.Ordering.TheVariants.{Less, Equal, Greater}
use Rattle.std.specs.List.{AllByRecursion}
use Rattle.std.specs.List.Sorted.{IsPermutation, IsSortedByKey}
use Rattle.std.proofs.lemmas.Bool.{cases_Bool, and_parts, leb-true, le-leb, lt-ltb, ltb-true, eqb-true, eq-eqb}
use Rattle.std.proofs.lemmas.Bool.Decides.{nat_tests}
use Rattle.std.proofs.lemmas.List.Sorted.{IsPermutation-map}
use Rattle.czi_format.specs.Span.{Span, span_le, sorted}
use Rattle.czi_spans.proofs.Sorting.{IsOrder, Ascending, sorted_is}

-- what the order of two spans means
pub ordered : (a b : Span) → span_le a b ≡ true → (a.at < b.at) ⊎ ((a.at ≡ b.at) × (a.len ≤ b.len))
ordered a b e = elim (cases_Bool (nat_lt a.at b.at)) [
  | inl f ↦ inl (ltb-true _ _ f)
  | inr f ↦ let rest = and_parts (a.at == b.at) (nat_le a.len b.len) (rw f at e) in inr (eqb-true _ _ rest.0, leb-true _ _ rest.1)
]

pub in_order : (a b : Span) → (a.at < b.at) ⊎ ((a.at ≡ b.at) × (a.len ≤ b.len)) → span_le a b ≡ true
in_order a b (inl h) = let test : nat_lt a.at b.at ≡ true = lt-ltb _ _ h in rw test
in_order a b (inr h) =
    let test : nat_lt a.at b.at ≡ false = grind (arith, nat_tests, h.0) in
    let same : (a.at == b.at) ≡ true = eq-eqb _ _ h.0 in
    let short : nat_le a.len b.len ≡ true = le-leb _ _ h.1 in
    rw (test, same, short)

le_total : (a b : Span) → span_le a b ≡ false → span_le b a ≡ true
le_total a b e = grind (arith, nat_tests)

le_transitive : (a b c : Span) → span_le a b ≡ true → span_le b c ≡ true → span_le a c ≡ true
le_transitive a b c p q = elim (ordered a b p) [
  | inl h ↦ elim (ordered b c q) [ inl k ↦ in_order a c (inl (omega arith)) | inr k ↦ in_order a c (inl (omega (arith, k.0))) ]
  | inr h ↦ elim (ordered b c q) [ inl k ↦ in_order a c (inl (omega (arith, h.0))) | inr k ↦ in_order a c (inr (omega (arith, h.0, k.0), omega (arith, h.1, k.1))) ]
]

same_span : (a b : Span) → a.at ≡ b.at → a.len ≡ b.len → a ≡ b
same_span a b p q = λ i. record { at = p i; len = q i }

le_antisymmetric : (a b : Span) → span_le a b ≡ true → span_le b a ≡ true → a ≡ b
le_antisymmetric a b p q = elim (ordered a b p) [
  | inl h ↦ elim (ordered b a q) [ inl k ↦ absurd (omega arith) | inr k ↦ absurd (omega (arith, k.0)) ]
  | inr h ↦ elim (ordered b a q) [ inl k ↦ absurd (omega (arith, h.0)) | inr k ↦ same_span a b h.0 (omega (arith, h.1, k.1)) ]
]

pub span_order : IsOrder span_le
span_order = record { total = le_total; antisymmetric = le_antisymmetric; transitive = le_transitive }

compared : (x y : ℕ) → MatchOrdering (nat_cmp x y) (x < y) (x ≡ y) (y < x)
compared x y = grind (arith, nat_tests)

-- what a sort by place and length answers of neighbours
not_less : (a b : Span) (o p : Ordering) → MatchOrdering o (b.at < a.at) (b.at ≡ a.at) (a.at < b.at) → MatchOrdering p (b.len < a.len) (b.len ≡ a.len) (a.len < b.len)
    → is_lt (ordering_then o p) ≡ false → span_le a b ≡ true
not_less a b Less p places lens e = cc
not_less a b Equal Less places lens e = cc
not_less a b Equal Equal places lens e = in_order a b (inr (sym places, omega (arith, lens)))
not_less a b Equal Greater places lens e = in_order a b (inr (sym places, omega (arith, lens)))
not_less a b Greater p places lens e = in_order a b (inl places)

abbrev key_cmp : ℕ × ℕ → ℕ × ℕ → Ordering
key_cmp x y = ordering_then (nat_cmp x.0 y.0) (nat_cmp x.1 y.1)

abbrev pub key : {X : Type 0} → (X → Span) → X → ℕ × ℕ
key f x = ((f x).at, (f x).len)

all_from : (a b : Span) (xs : List Span) → span_le a b ≡ true → AllByRecursion (λ t. span_le b t ≡ true) xs → AllByRecursion (λ t. span_le a t ≡ true) xs
all_from a b [] le all = tt
all_from a b (x ∷ xs) le all = (le_transitive a b x le all.0, all_from a b xs le all.1)

module _ {X : Type 0} (f : X → Span) where
  -- a list whose neighbours are in order
  risen : (xs : List X) → ((k : ℕ) (d : X) → suc k < length xs → span_le (f (get_or xs k d)) (f (get_or xs (suc k) d)) ≡ true) → Ascending span_le (map f xs)
  risen [] up = tt
  risen (a ∷ []) up = (tt, tt)
  risen (a ∷ b ∷ rest) up =
      let more = risen (b ∷ rest) (λ k d h. up (suc k) d (omega arith)) in
      let here : span_le (f a) (f b) ≡ true = up 0 a (omega arith) in
      ((here, all_from (f a) (f b) (map f rest) here more.0), more)

  -- what a sort by place and length leaves is the sorted list
  pub sorted_by_key : (xs ys : List X) → IsPermutation xs ys → IsSortedByKey (key f) key_cmp ys → map f ys ≡ sorted span_le (map f xs)
  sorted_by_key xs ys moved up =
      sorted_is span_order (map f xs) (map f ys) (IsPermutation-map f xs ys moved) (risen ys (λ k d h.
      let next : k + 1 ≡ suc k = omega arith in
      let neighbours : is_lt (key_cmp (key f (get_or ys (k + 1) d)) (key f (get_or ys k d))) ≡ false = up k d (omega arith) (omega arith) in
      let a : Span = f (get_or ys k d) in
      let b : Span = f (get_or ys (suc k) d) in
      not_less a b (nat_cmp b.at a.at) (nat_cmp b.len a.len) (compared b.at a.at) (compared b.len a.len)
      (subst (λ n. is_lt (key_cmp (key f (get_or ys n d)) (key f (get_or ys k d))) ≡ false) next neighbours)))
