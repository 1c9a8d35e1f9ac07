-- Which patches are active, as the rows go on.
use Rattle.std.proofs.Common.{◌≡◌, ◌⊎◌, ℕ, zero, suc, ◌+◌, ◌-◌, ◌<◌, ◌≤◌, List, [], ◌∷◌, ◌++◌, length, take, drop, get_or, filter, Bool, true, false, not, ◌||◌, nat_eq, nat_le, nat_lt, refl, ap, sym, subst, ◌∙◌, arith, inl, inr, length-drop}
use Rattle.std.specs.List.{All, Contains, range_with_len}
use Rattle.std.specs.List.Sorted.{IsNonDecreasing, IsNonDecreasingBy, IsPermutation, IsPartitionPoint}
use Rattle.std.specs.Cmp.{nat_eq_equiv}
use Rattle.std.proofs.lemmas.Bool.{cases_Bool}
use Rattle.std.proofs.lemmas.Bool.Decides.{nat_tests}
use Rattle.std.proofs.lemmas.List.{drop-drop, take-append-drop, get_or-drop}
use Rattle.std.proofs.lemmas.List.Elements.{All-append, All-contains, All-drop, All-filter, All-take, Contains-append_cases, Contains-append_left, Contains-append_right, filter_passes}
use Rattle.std.proofs.lemmas.List.FromFn.{get_or-range_with_len, length-range_with_len}
use Rattle.std.proofs.lemmas.List.Kept.{IsNonDecreasingBy-filter}
use Rattle.std.proofs.lemmas.List.Sorted.{All-permutation, Contains-permutation, IsNonDecreasingBy-short, IsPermutation-filter_both}
use Rattle.std.proofs.lemmas.Map.Views.{Contains-from_any, list_any-from_Contains}
use Rattle.czi_paint.specs.declared.patch.Patch.{Patch}
use Rattle.czi_paint.specs.declared.sweep.Sweep.{Sweep}
use Rattle.czi_paint.specs.Meeting.{first_row, end_row, Meets, AreActive}
use Rattle.czi_paint.specs.Sweep.{has, IsSweep, HasEntered}

-- ---- two lists of places

same_number : (x y : ℕ) → nat_eq x y ≡ true → x ≡ y
same_number x y e = grind (arith, nat_tests)

is_in : (xs : List ℕ) (k : ℕ) → Contains xs k → has xs k ≡ true
is_in xs k there = list_any-from_Contains nat_eq_equiv k xs there

found : (xs : List ℕ) (k : ℕ) → has xs k ≡ true → Contains xs k
found xs k e = Contains-from_any same_number k xs e

in_one : (xs ys : List ℕ) (k : ℕ) → Contains xs k ⊎ Contains ys k → (has xs k || has ys k) ≡ true
in_one xs ys k (inl there) = ap (λ b. b || has ys k) (is_in xs k there)
in_one xs ys k (inr there) = ap (λ b. has xs k || b) (is_in ys k there) ∙ late (has xs k)
  where
    late : (b : Bool) → (b || true) ≡ true
    late true = refl
    late false = refl

one_of : (xs ys : List ℕ) (k : ℕ) → (has xs k || has ys k) ≡ true → Contains xs k ⊎ Contains ys k
one_of xs ys k e = elim (cases_Bool (has xs k)) [
  | inl here ↦ inl (found xs k here)
  | inr elsewhere ↦ inr (found ys k (sym (ap (λ b. b || has ys k) elsewhere) ∙ e))
]

-- ---- the first places

range_suc : (a n : ℕ) → range_with_len a (suc n) ≡ range_with_len a n ++ (a + n) ∷ []
range_suc a zero = let e : a ≡ a + 0 = omega arith in ap (λ k. k ∷ []) e
range_suc a (suc n) = let e : a + 1 + n ≡ a + suc n = omega arith in ap (λ l. a ∷ l) (range_suc (a + 1) n ∙ ap (λ k. range_with_len (a + 1) n ++ k ∷ []) e)

-- one more
pub range_more : (n : ℕ) → range_with_len 0 (n + 1) ≡ range_with_len 0 n ++ n ∷ []
range_more n =
    let e : n + 1 ≡ suc n = omega arith in
    let f : 0 + n ≡ n = omega arith in
    ap (range_with_len 0) e ∙ (range_suc 0 n ∙ ap (λ k. range_with_len 0 n ++ k ∷ []) f)

range_has : (n k : ℕ) → k < n → Contains (range_with_len 0 n) k
range_has n k low =
    let long : length (range_with_len 0 n) ≡ n = length-range_with_len 0 n in
    let is : get_or (range_with_len 0 n) k k ≡ 0 + k = get_or-range_with_len 0 n k k low in
    let same : 0 + k ≡ k = omega arith in
    (k, omega (arith, long, low), is ∙ same)

range_below : (n : ℕ) → All (λ k. k < n) (range_with_len 0 n)
range_below n i d low =
    let long : length (range_with_len 0 n) ≡ n = length-range_with_len 0 n in
    let is : get_or (range_with_len 0 n) i d ≡ 0 + i = get_or-range_with_len 0 n i d (omega (arith, low, long)) in
    omega (arith, is, low, long)

-- before the first row none was reached
pub none_reached : (patches : List Patch) (order : List ℕ) (sweep : Sweep) → IsPermutation (range_with_len 0 (length patches)) order → IsNonDecreasingBy (first_row patches) order
    → sweep.order.items ≡ order → sweep.reached ≡ 0 → sweep.active.items ≡ [] → IsSweep patches 0 sweep
none_reached patches order sweep moved up is start none = record {
  ordered = subst (λ l. All (λ k. k < length patches) l) (sym is) (All-permutation (λ k. k < length patches) (range_with_len 0 (length patches)) order moved (range_below (length patches)));
  by_first = subst (λ l. IsNonDecreasingBy (first_row patches) l) (sym is) up;
  there = subst (λ l. All (λ k. k < length patches) l) (sym none) (λ i d low. absurd (omega (arith, low)));
  rising = subst (λ l. IsNonDecreasing l) (sym none) (IsNonDecreasingBy-short (λ x. x) [] (omega arith));
  all = λ k i low from meets. in_one sweep.active.items (drop sweep.reached sweep.order.items) k (inr (subst (λ n. Contains (drop n sweep.order.items) k) (sym start) (subst (λ l. Contains l k) (sym is) (Contains-permutation (range_with_len 0 (length patches)) order k moved (range_has (length patches) k low)))));
}

-- ---- a row more

kept : {X : Type 0} (p : X → Bool) (xs : List X) (x : X) → Contains xs x → p x ≡ true → Contains (filter p xs) x
kept p xs x there passes = elim (Contains-append_cases (filter p xs) (filter (λ y. not (p y)) xs) x (Contains-permutation xs (filter p xs ++ filter (λ y. not (p y)) xs) x (IsPermutation-filter_both p (λ y. not (p y)) (λ y. refl) xs) there)) [
  | inl among ↦ among
  | inr fails ↦
      let no : not (p x) ≡ true = All-contains (λ y. not (p y) ≡ true) (filter (λ y. not (p y)) xs) x (filter_passes (λ y. not (p y)) xs) fails in
      let clash : false ≡ true = sym (ap not passes) ∙ no in cc
]

-- what stands behind a place stands before or behind a later one
parted : (xs : List ℕ) (n m k : ℕ) → n ≤ m → Contains (drop n xs) k → Contains (take (m - n) (drop n xs)) k ⊎ Contains (drop m xs) k
parted xs n m k le there =
    let whole : take (m - n) (drop n xs) ++ drop (m - n) (drop n xs) ≡ drop n xs = take-append-drop (m - n) (drop n xs) in
    let e : n + (m - n) ≡ m = omega arith in
    let rest : drop (m - n) (drop n xs) ≡ drop m xs = drop-drop (m - n) n xs ∙ ap (λ i. drop i xs) e in
    elim (Contains-append_cases (take (m - n) (drop n xs)) (drop (m - n) (drop n xs)) k (subst (λ l. Contains l k) (sym whole) there)) [
      | inl before ↦ inl before
      | inr behind ↦ inr (subst (λ l. Contains l k) rest behind)
    ]

-- those that stand from the partition point on begin behind the row
behind : (patches : List Patch) (j : ℕ) (order : List ℕ) (to n : ℕ) → IsPartitionPoint (λ k. nat_le (first_row patches k) j ≡ true) (λ k. nat_le (first_row patches k) j ≡ false) order to → to ≤ n
    → All (λ k. j < first_row patches k) (drop n order)
behind patches j order to n point le i d low =
    let inside : n + i < length order = omega (arith, low, length-drop n order) in
    let same : get_or (drop n order) i d ≡ get_or order (n + i) d = get_or-drop n order i d in
    let test : nat_le (first_row patches (get_or order (n + i) d)) j ≡ false = point.1 (n + i) d (omega (arith, le)) inside in
    subst (λ k. j < first_row patches k) (sym same) (grind (arith, nat_tests))

-- the patches that go on
abbrev pub going_on : List Patch → ℕ → List ℕ → List ℕ
going_on patches j active = filter (λ k. nat_lt j (end_row patches k)) active

goes_on : (patches : List Patch) (j i k : ℕ) → j ≤ i → Meets patches k i → nat_lt j (end_row patches k) ≡ true
goes_on patches j i k le meets = let low : i < end_row patches k = meets.1 in grind (arith, nat_tests)

module _ (patches : List Patch) (i j to : ℕ) (old new : Sweep) (le : i ≤ j) (was : IsSweep patches i old)
    (point : IsPartitionPoint (λ k. nat_le (first_row patches k) j ≡ true) (λ k. nat_le (first_row patches k) j ≡ false) old.order.items to)
    (order : new.order.items ≡ old.order.items) where
  -- none begins there
  pub none_more : to ≤ old.reached → new.reached ≡ old.reached → new.active.items ≡ going_on patches j old.active.items → HasEntered patches j new
  none_more short reached active = record {
    is_sweep = record {
      ordered = subst (λ l. All (λ k. k < length patches) l) (sym order) was.ordered;
      by_first = subst (λ l. IsNonDecreasingBy (first_row patches) l) (sym order) was.by_first;
      there = subst (λ l. All (λ k. k < length patches) l) (sym active) (All-filter (λ k. nat_lt j (end_row patches k)) (λ k. k < length patches) old.active.items was.there);
      rising = subst (λ l. IsNonDecreasing l) (sym active) (IsNonDecreasingBy-filter (λ x. x) (λ k. nat_lt j (end_row patches k)) old.active.items was.rising);
      all = λ k r low from meets. in_one new.active.items (drop new.reached new.order.items) k (elim (one_of old.active.items (drop old.reached old.order.items) k (was.all k r low (omega (arith, le, from)) meets)) [
        | inl goes ↦ inl (subst (λ l. Contains l k) (sym active) (kept (λ k. nat_lt j (end_row patches k)) old.active.items k goes (goes_on patches j r k from meets)))
        | inr waits ↦ inr (subst (λ n. Contains (drop n new.order.items) k) (sym reached) (subst (λ l. Contains (drop old.reached l) k) (sym order) waits))
      ]);
    };
    later = subst (λ n. All (λ k. j < first_row patches k) (drop n new.order.items)) (sym reached)
        (subst (λ l. All (λ k. j < first_row patches k) (drop old.reached l)) (sym order) (behind patches j old.order.items to old.reached point short));
  }

  -- those up to the partition point begin at or before it
  pub some_more : old.reached ≤ to → new.reached ≡ to → IsPermutation (going_on patches j old.active.items ++ take (to - old.reached) (drop old.reached old.order.items)) new.active.items
      → IsNonDecreasing new.active.items → HasEntered patches j new
  some_more long reached moved up = record {
    is_sweep = record {
      ordered = subst (λ l. All (λ k. k < length patches) l) (sym order) was.ordered;
      by_first = subst (λ l. IsNonDecreasingBy (first_row patches) l) (sym order) was.by_first;
      there = All-permutation (λ k. k < length patches) (going_on patches j old.active.items ++ take (to - old.reached) (drop old.reached old.order.items)) new.active.items moved
          (All-append (λ k. k < length patches) (going_on patches j old.active.items) (take (to - old.reached) (drop old.reached old.order.items))
          (All-filter (λ k. nat_lt j (end_row patches k)) (λ k. k < length patches) old.active.items was.there)
          (All-take (λ k. k < length patches) (to - old.reached) (drop old.reached old.order.items) (All-drop (λ k. k < length patches) old.reached old.order.items was.ordered)));
      rising = up;
      all = λ k r low from meets. in_one new.active.items (drop new.reached new.order.items) k (elim (one_of old.active.items (drop old.reached old.order.items) k (was.all k r low (omega (arith, le, from)) meets)) [
        | inl goes ↦ inl (Contains-permutation (going_on patches j old.active.items ++ take (to - old.reached) (drop old.reached old.order.items)) new.active.items k moved
            (Contains-append_left (going_on patches j old.active.items) (take (to - old.reached) (drop old.reached old.order.items)) k
            (kept (λ k. nat_lt j (end_row patches k)) old.active.items k goes (goes_on patches j r k from meets))))
        | inr waits ↦ elim (parted old.order.items old.reached to k long waits) [
          | inl begins ↦ inl (Contains-permutation (going_on patches j old.active.items ++ take (to - old.reached) (drop old.reached old.order.items)) new.active.items k moved
              (Contains-append_right (going_on patches j old.active.items) (take (to - old.reached) (drop old.reached old.order.items)) k begins))
          | inr waits_still ↦ inr (subst (λ n. Contains (drop n new.order.items) k) (sym reached) (subst (λ l. Contains (drop to l) k) (sym order) waits_still))
        ]
      ]);
    };
    later = subst (λ n. All (λ k. j < first_row patches k) (drop n new.order.items)) (sym reached)
        (subst (λ l. All (λ k. j < first_row patches k) (drop to l)) (sym order) (behind patches j old.order.items to to point (omega arith)));
  }

-- the active ones at a row that was entered
pub are_active : (patches : List Patch) (j : ℕ) (sweep : Sweep) → HasEntered patches j sweep → AreActive patches j sweep.active.items
are_active patches j sweep entered = record {
  there = entered.is_sweep.there;
  rising = entered.is_sweep.rising;
  all = λ k low meets. elim (one_of sweep.active.items (drop sweep.reached sweep.order.items) k (entered.is_sweep.all k j low (omega arith) meets)) [
    | inl goes ↦ goes
    | inr waits ↦
        let far : j < first_row patches k = All-contains (λ k. j < first_row patches k) (drop sweep.reached sweep.order.items) k entered.later waits in
        let near : first_row patches k ≤ j = meets.0 in
        absurd (omega (arith, far, near))
  ];
}
