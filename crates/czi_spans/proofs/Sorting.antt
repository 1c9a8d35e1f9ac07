-- A list in order with the elements of another one is that one sorted.
use Rattle.std.proofs.Common.{◌≡◌, ℕ, zero, suc, ◌+◌, ◌≤◌, List, [], ◌∷◌, Bool, true, false, cond, ◌&&◌, ◌||◌, refl, ap, sym, ◌∙◌, subst, arith, inl, inr, if◌then◌else◌}
use Rattle.std.specs.Bool.{⊤}
use Rattle.std.specs.List.{All, AllByRecursion, list_any}
use Rattle.std.specs.List.Sorted.{IsPermutation}
use Rattle.std.proofs.lemmas.Bool.{cases_Bool, and_parts}
use Rattle.std.proofs.lemmas.List.Recursion.{is_sum_by}
use Rattle.std.proofs.lemmas.List.Sorted.{All-permutation, sum_by-IsPermutation}
use Rattle.czi_format.specs.Span.{inserted, sorted}

-- a total order
pub record IsOrder {X : Type 0} (le : X → X → Bool) : Type 0 where
  pub total : (a b : X) → le a b ≡ false → le b a ≡ true
  pub antisymmetric : (a b : X) → le a b ≡ true → le b a ≡ true → a ≡ b
  pub transitive : (a b c : X) → le a b ≡ true → le b c ≡ true → le a c ≡ true

-- each comes before all later ones
abbrev pub Ascending : {X : Type 0} → (X → X → Bool) → List X → Type 0
Ascending le [] = ⊤
Ascending le (x ∷ xs) = AllByRecursion (λ y. le x y ≡ true) xs × Ascending le xs

-- how often x is in a list
abbrev count : {X : Type 0} → (X → X → Bool) → X → List X → ℕ
count le x [] = 0
count le x (y ∷ ys) = cond (le x y && le y x) 1 0 + count le x ys

all_weaken : {X : Type 0} (P Q : X → Type 0) → ((x : X) → P x → Q x) → (xs : List X) → AllByRecursion P xs → AllByRecursion Q xs
all_weaken P Q f [] all = tt
all_weaken P Q f (x ∷ xs) all = (f x all.0, all_weaken P Q f xs all.1)

all_inserted : {X : Type 0} (le : X → X → Bool) (P : X → Type 0) (x : X) (ys : List X) → P x → AllByRecursion P ys → AllByRecursion P (inserted le x ys)
all_inserted le P x [] px all = (px, tt)
all_inserted le P x (y ∷ ys) px all =
    let rest = all_inserted le P x ys px all.1 in
    elim (le x y) as (λ b. AllByRecursion P (if b then x ∷ y ∷ ys else y ∷ inserted le x ys)) [ true ↦ (px, all) | false ↦ (all.0, rest) ]

-- what holds of each holds of each of the sorted list
pub all_sorted : {X : Type 0} (le : X → X → Bool) (P : X → Type 0) (xs : List X) → AllByRecursion P xs → AllByRecursion P (sorted le xs)
all_sorted le P [] all = tt
all_sorted le P (x ∷ xs) all = all_inserted le P x (sorted le xs) all.0 (all_sorted le P xs all.1)

at_each : {X : Type 0} (P : X → Type 0) (xs : List X) → AllByRecursion P xs → All P xs
at_each P [] all k d h = absurd (omega arith)
at_each P (x ∷ xs) all zero d h = all.0
at_each P (x ∷ xs) all (suc k) d h = at_each P xs all.1 k d (omega arith)

from_each : {X : Type 0} (P : X → Type 0) (xs : List X) → All P xs → AllByRecursion P xs
from_each P [] all = tt
from_each P (x ∷ xs) all = (all 0 x (omega arith), from_each P xs (λ k d h. all (suc k) d (omega arith)))

-- what holds of each holds of each in another order
pub all_moved : {X : Type 0} (P : X → Type 0) (xs ys : List X) → IsPermutation xs ys → AllByRecursion P xs → AllByRecursion P ys
all_moved P xs ys moved all = from_each P ys (All-permutation P xs ys moved (at_each P xs all))

swap_or : (a b c : Bool) → (a || (b || c)) ≡ (b || (a || c))
swap_or true true c = refl
swap_or true false c = refl
swap_or false b c = refl

any_inserted : {X : Type 0} (le : X → X → Bool) (p : X → Bool) (x : X) (ys : List X) → list_any p (inserted le x ys) ≡ (p x || list_any p ys)
any_inserted le p x [] = refl
any_inserted le p x (y ∷ ys) =
    let rest = ap (λ b. p y || b) (any_inserted le p x ys) ∙ swap_or (p y) (p x) (list_any p ys) in
    elim (le x y) as (λ b. list_any p (if b then x ∷ y ∷ ys else y ∷ inserted le x ys) ≡ (p x || (p y || list_any p ys))) [ true ↦ refl | false ↦ rest ]

-- sorting doesn't change whether one passes
pub any_sorted : {X : Type 0} (le : X → X → Bool) (p : X → Bool) (xs : List X) → list_any p (sorted le xs) ≡ list_any p xs
any_sorted le p [] = refl
any_sorted le p (x ∷ xs) = any_inserted le p x (sorted le xs) ∙ ap (λ b. p x || b) (any_sorted le p xs)

module _ {X : Type 0} {le : X → X → Bool} (order : IsOrder le) where
  itself : (x : X) → le x x ≡ true
  itself x = elim (cases_Bool (le x x)) [ inl e ↦ e | inr e ↦ order.total x x e ]

  ascending_inserted : (x : X) (ys : List X) → Ascending le ys → Ascending le (inserted le x ys)
  ascending_inserted x [] up = (tt, tt)
  ascending_inserted x (y ∷ ys) up =
      let rest = ascending_inserted x ys up.1 in
      (elim (le x y) as (λ b. le x y ≡ b → Ascending le (if b then x ∷ y ∷ ys else y ∷ inserted le x ys)) [
        | true ↦ λ e. ((e, all_weaken (λ t. le y t ≡ true) (λ t. le x t ≡ true) (λ t h. order.transitive x y t e h) ys up.0), up)
        | false ↦ λ e. (all_inserted le (λ t. le y t ≡ true) x ys (order.total x y e) up.0, rest)
      ]) refl

  pub ascending_sorted : (xs : List X) → Ascending le (sorted le xs)
  ascending_sorted [] = tt
  ascending_sorted (x ∷ xs) = ascending_inserted x (sorted le xs) (ascending_sorted xs)

  count_inserted : (z x : X) (ys : List X) → count le z (inserted le x ys) ≡ cond (le z x && le x z) 1 0 + count le z ys
  count_inserted z x [] = refl
  count_inserted z x (y ∷ ys) =
      let one : ℕ = cond (le z y && le y z) 1 0 in
      let more : ℕ = cond (le z x && le x z) 1 0 in
      let rest : one + count le z (inserted le x ys) ≡ more + (one + count le z ys) = omega (arith, count_inserted z x ys) in
      elim (le x y) as (λ b. count le z (if b then x ∷ y ∷ ys else y ∷ inserted le x ys) ≡ more + (one + count le z ys)) [ true ↦ refl | false ↦ rest ]

  count_sorted : (z : X) (xs : List X) → count le z (sorted le xs) ≡ count le z xs
  count_sorted z [] = refl
  count_sorted z (x ∷ xs) = count_inserted z x (sorted le xs) ∙ ap (λ n. cond (le z x && le x z) 1 0 + n) (count_sorted z xs)

  count_moved : (z : X) (xs ys : List X) → IsPermutation xs ys → count le z ys ≡ count le z xs
  count_moved z xs ys moved =
      is_sum_by (count le z) (λ y. cond (le z y && le y z) 1 0) refl (λ _ _. refl) ys
      ∙ (sum_by-IsPermutation (λ y. cond (le z y && le y z) 1 0) xs ys moved
      ∙ sym (is_sum_by (count le z) (λ y. cond (le z y && le y z) 1 0) refl (λ _ _. refl) xs))

  -- what comes before each comes before what is among them
  before : (y x : X) (ys : List X) → AllByRecursion (λ t. le y t ≡ true) ys → 1 ≤ count le x ys → le y x ≡ true
  before y x [] all some = absurd (omega arith)
  before y x (z ∷ zs) all some = elim (cases_Bool (le x z && le z x)) [
    | inl e ↦ order.transitive y z x all.0 (and_parts (le x z) (le z x) e).1
    | inr e ↦ before y x zs all.1 (omega (arith, rw e at some))
  ]

  counts_itself : (x : X) (xs : List X) → 1 ≤ count le x (x ∷ xs)
  counts_itself x xs = let here : le x x ≡ true = itself x in rw here (omega arith)

  pub same_elements : (xs ys : List X) → Ascending le xs → Ascending le ys → ((z : X) → count le z xs ≡ count le z ys) → xs ≡ ys
  same_elements [] [] up vp same = refl
  same_elements [] (y ∷ ys) up vp same = absurd (omega (arith, counts_itself y ys, same y))
  same_elements (x ∷ xs) [] up vp same = absurd (omega (arith, counts_itself x xs, same x))
  same_elements (x ∷ xs) (y ∷ ys) up vp same =
      let back : le y x ≡ true = before y x (y ∷ ys) (itself y, vp.0) (subst (λ n. 1 ≤ n) (same x) (counts_itself x xs)) in
      let forth : le x y ≡ true = before x y (x ∷ xs) (itself x, up.0) (subst (λ n. 1 ≤ n) (sym (same y)) (counts_itself y ys)) in
      let heads : x ≡ y = order.antisymmetric x y forth back in
      let tails : xs ≡ ys = same_elements xs ys up.1 vp.1 (λ z.
      let times : X → ℕ = λ w. cond (le z w && le w z) 1 0 in
      let one : times x ≡ times y = ap times heads in
      omega (arith, same z, one)) in
      λ i. heads i ∷ tails i

  -- a list in order with the same elements is the sorted list
  pub sorted_is : (xs ys : List X) → IsPermutation xs ys → Ascending le ys → ys ≡ sorted le xs
  sorted_is xs ys moved up = same_elements ys (sorted le xs) up (ascending_sorted xs) (λ z. count_moved z xs ys moved ∙ sym (count_sorted z xs))
