-- Lists in painting order: what sorting keeps, and when a list is sorted.
use Rattle.std.proofs.Common.{◌≡◌, ℕ, suc, ◌+◌, ◌<◌, ℤ, List, [], ◌∷◌, map, length, get_or, Bool, true, false, cond, Option, None, Some, Ordering, refl, ap, sym, subst, ◌∙◌, arith, inl, inr, if◌then◌else◌, filter}
use Rattle.std.specs.Cmp.{IsTotalOrder}
use Rattle.std.specs.Ordering.{is_lt, is_le, is_gt, int_cmp, nat_cmp, ordering_reverse}
use Rattle.std.specs.declared.cmp.Ordering.TheVariants.{Less, Equal, Greater}
use Rattle.std.specs.Option.{option_cmp}
use Rattle.std.specs.List.{AllByRecursion}
use Rattle.std.specs.List.Sorted.{IsPermutation, IsSorted}
use Rattle.std.proofs.lemmas.Bool.{cases_Bool}
use Rattle.std.proofs.lemmas.Cmp.{upto, on_total, then_total, nat_cmp_total, int_cmp_total}
use Rattle.std.proofs.lemmas.Map.Lookups.{CmpEqualImpliesEq, exact_pairs, exact_signed, exact_unsigned}
use Rattle.czi_format.specs.Span.{inserted, sorted}
use Rattle.czi_spans.proofs.Sorting.{IsOrder, Ascending, sorted_is}
use Rattle.czi_format.specs.Painting.{turn_cmp}

-- ---- sorting by what elements stand for

map_inserted : {A B : Type 0} (f : A → B) (le : B → B → Bool) (x : A) (ys : List A) → map f (inserted (λ a b. le (f a) (f b)) x ys) ≡ inserted le (f x) (map f ys)
map_inserted f le x [] = refl
map_inserted {A = A} f le x (y ∷ ys) =
    let rest = ap (λ l. f y ∷ l) (map_inserted f le x ys) in
    elim (le (f x) (f y)) as (λ b. map f (let l : List A = if b then x ∷ y ∷ ys else y ∷ inserted (λ a b. le (f a) (f b)) x ys in l) ≡ (if b then f x ∷ f y ∷ map f ys else f y ∷ inserted le (f x) (map f ys))) [ true ↦ refl | false ↦ rest ]

pub map_sorted : {A B : Type 0} (f : A → B) (le : B → B → Bool) (xs : List A) → map f (sorted (λ a b. le (f a) (f b)) xs) ≡ sorted le (map f xs)
map_sorted f le [] = refl
map_sorted f le (x ∷ xs) = map_inserted f le x (sorted (λ a b. le (f a) (f b)) xs) ∙ ap (inserted le (f x)) (map_sorted f le xs)

-- ---- an order that compares

pub order_from : {K : Type 0} {R : K → K → Ordering} → IsTotalOrder R → CmpEqualImpliesEq R → IsOrder (λ a b. is_le (R a b))
order_from {K = K} {R = R} o exact = record { total = total; antisymmetric = antisymmetric; transitive = transitive }
  where
    back : (p : Ordering) → is_le p ≡ false → is_le (ordering_reverse p) ≡ true
    back Less e = cc
    back Equal e = cc
    back Greater e = refl

    total : (a b : K) → is_le (R a b) ≡ false → is_le (R b a) ≡ true
    total a b e = ap is_le (o.antisymm b a) ∙ back (R a b) e

    both : (p : Ordering) → is_le p ≡ true → is_le (ordering_reverse p) ≡ true → p ≡ Equal
    both Less d e = cc
    both Equal d e = refl
    both Greater d e = cc

    antisymmetric : (a b : K) → is_le (R a b) ≡ true → is_le (R b a) ≡ true → a ≡ b
    antisymmetric a b d e = exact a b (both (R a b) d (sym (ap is_le (o.antisymm b a)) ∙ e))

    not_gt : (p : Ordering) → is_le p ≡ true → is_gt p ≡ false
    not_gt Less e = refl
    not_gt Equal e = refl
    not_gt Greater e = cc

    le_of : (p : Ordering) → is_gt p ≡ false → is_le p ≡ true
    le_of Less e = refl
    le_of Equal e = refl
    le_of Greater e = cc

    transitive : (a b c : K) → is_le (R a b) ≡ true → is_le (R b c) ≡ true → is_le (R a c) ≡ true
    transitive a b c d e = le_of (R a c) (upto o a b c (not_gt (R a b) d) (not_gt (R b c) e))

-- what an order that compares answers of neighbours in a sorted list
module _ {K : Type 0} {R : K → K → Ordering} (o : IsTotalOrder R) (exact : CmpEqualImpliesEq R) where
  le : K → K → Bool
  le a b = is_le (R a b)

  neighbour : (p : Ordering) → is_lt p ≡ false → is_le (ordering_reverse p) ≡ true
  neighbour Less e = cc
  neighbour Equal e = refl
  neighbour Greater e = refl

  all_from : (a b : K) (xs : List K) → is_le (R a b) ≡ true → AllByRecursion (λ t. is_le (R b t) ≡ true) xs → AllByRecursion (λ t. is_le (R a t) ≡ true) xs
  all_from a b [] h all = tt
  all_from a b (x ∷ xs) h all = ((order_from o exact).transitive a b x h all.0, all_from a b xs h all.1)

  risen : (xs : List K) → ((k : ℕ) (d : K) → suc k < length xs → is_le (R (get_or xs k d) (get_or xs (suc k) d)) ≡ true) → Ascending (λ a b. is_le (R a b)) xs
  risen [] up = tt
  risen (a ∷ []) up = (tt, tt)
  risen (a ∷ b ∷ rest) up =
      let more = risen (b ∷ rest) (λ k d h. up (suc k) d (omega arith)) in
      let here : is_le (R a b) ≡ true = up 0 a (omega arith) in
      ((here, all_from a b rest here more.0), more)

  -- a list that a sort has left is the sorted one
  pub sorted_by_cmp : (xs ys : List K) → IsPermutation xs ys → IsSorted R ys → ys ≡ sorted (λ a b. is_le (R a b)) xs
  sorted_by_cmp xs ys moved up = sorted_is (order_from o exact) xs ys moved (risen ys (λ k d h.
      let next : k + 1 ≡ suc k = omega arith in
      let there : is_lt (R (get_or ys (k + 1) d) (get_or ys k d)) ≡ false = up k d (omega arith) (omega arith) in
      let here : is_lt (R (get_or ys (suc k) d) (get_or ys k d)) ≡ false = subst (λ n. is_lt (R (get_or ys n d) (get_or ys k d)) ≡ false) next there in
      ap is_le (o.antisymm (get_or ys k d) (get_or ys (suc k) d)) ∙ neighbour (R (get_or ys (suc k) d) (get_or ys k d)) here))

-- ---- turns

option_total : {T : Type 0} {R : T → T → Ordering} → IsTotalOrder R → IsTotalOrder (option_cmp R)
option_total {T = T} {R = R} o = record { antisymm = antisymm; trans = trans; congr = congr }
  where
    antisymm : (x y : Option T) → option_cmp R x y ≡ ordering_reverse (option_cmp R y x)
    antisymm None None = refl
    antisymm None (Some y) = refl
    antisymm (Some x) None = refl
    antisymm (Some x) (Some y) = o.antisymm x y

    trans : (x y z : Option T) → option_cmp R x y ≡ Less → option_cmp R y z ≡ Less → option_cmp R x z ≡ Less
    trans None None z e f = cc
    trans None (Some y) None e f = cc
    trans None (Some y) (Some z) e f = refl
    trans (Some x) None z e f = cc
    trans (Some x) (Some y) None e f = cc
    trans (Some x) (Some y) (Some z) e f = o.trans x y z e f

    congr : (x y z : Option T) → option_cmp R x y ≡ Equal → option_cmp R x z ≡ option_cmp R y z
    congr None None z e = refl
    congr None (Some y) z e = cc
    congr (Some x) None z e = cc
    congr (Some x) (Some y) None e = refl
    congr (Some x) (Some y) (Some z) e = o.congr x y z e

exact_option : {T : Type 0} {R : T → T → Ordering} → CmpEqualImpliesEq R → CmpEqualImpliesEq (option_cmp R)
exact_option exact None None e = refl
exact_option exact None (Some y) e = cc
exact_option exact (Some x) None e = cc
exact_option exact (Some x) (Some y) e = ap Some (exact x y e)

pub turns_total : IsTotalOrder turn_cmp
turns_total = then_total (on_total (λ (t : Option ℤ × ℕ). t.0) (option_total int_cmp_total)) (on_total (λ (t : Option ℤ × ℕ). t.1) nat_cmp_total)

pub exact_turns : CmpEqualImpliesEq turn_cmp
exact_turns = exact_pairs (option_cmp int_cmp) nat_cmp (exact_option exact_signed) exact_unsigned

pub turn_order : IsOrder (λ a b. is_le (turn_cmp a b))
turn_order = order_from turns_total exact_turns

-- ---- sorting what passes a test

all_weaken : {X : Type 0} (P Q : X → Type 0) → ((x : X) → P x → Q x) → (xs : List X) → AllByRecursion P xs → AllByRecursion Q xs
all_weaken P Q f [] all = tt
all_weaken P Q f (x ∷ xs) all = (f x all.0, all_weaken P Q f xs all.1)

pub all_filter : {X : Type 0} (P : X → Type 0) (p : X → Bool) (xs : List X) → AllByRecursion P xs → AllByRecursion P (filter p xs)
all_filter P p [] all = tt
all_filter P p (x ∷ xs) all =
    let rest = all_filter P p xs all.1 in
    elim (p x) as (λ b. AllByRecursion P (cond b (x ∷ filter p xs) (filter p xs))) [ true ↦ (all.0, rest) | false ↦ rest ]

module _ {X : Type 0} (before : X → X → Bool) (total : (a b : X) → before a b ≡ false → before b a ≡ true)
    (transitive : (a b c : X) → before a b ≡ true → before b c ≡ true → before a c ≡ true) where
  all_inserted : (P : X → Type 0) (x : X) (ys : List X) → P x → AllByRecursion P ys → AllByRecursion P (inserted before x ys)
  all_inserted P x [] px all = (px, tt)
  all_inserted P x (y ∷ ys) px all =
      let rest = all_inserted P x ys px all.1 in
      elim (before x y) as (λ b. AllByRecursion P (let l : List X = if b then x ∷ y ∷ ys else y ∷ inserted before x ys in l)) [ true ↦ (px, all) | false ↦ (all.0, rest) ]

  up_inserted : (x : X) (ys : List X) → Ascending before ys → Ascending before (inserted before x ys)
  up_inserted x [] up = (tt, tt)
  up_inserted x (y ∷ ys) up =
      let rest = up_inserted x ys up.1 in
      (elim (before x y) as (λ b. before x y ≡ b → Ascending before (let l : List X = if b then x ∷ y ∷ ys else y ∷ inserted before x ys in l)) [
        | true ↦ λ e. ((e, all_weaken (λ t. before y t ≡ true) (λ t. before x t ≡ true) (λ t h. transitive x y t e h) ys up.0), up)
        | false ↦ λ e. (all_inserted (λ t. before y t ≡ true) x ys (total x y e) up.0, rest)
      ]) refl

  up_sorted : (xs : List X) → Ascending before (sorted before xs)
  up_sorted [] = tt
  up_sorted (x ∷ xs) = up_inserted x (sorted before xs) (up_sorted xs)

  at_front : (x : X) (zs : List X) → AllByRecursion (λ z. before x z ≡ true) zs → inserted before x zs ≡ x ∷ zs
  at_front x [] all = refl
  at_front x (z ∷ zs) all = ap (λ b. let l : List X = if b then x ∷ z ∷ zs else z ∷ inserted before x zs in l) all.0

  dropped : (p : X → Bool) (x : X) (ys : List X) → p x ≡ false → filter p (inserted before x ys) ≡ filter p ys
  dropped p x [] e = ap (λ b. cond b (x ∷ []) []) e
  dropped p x (y ∷ ys) e =
      let rest : filter p (y ∷ inserted before x ys) ≡ filter p (y ∷ ys) = ap (λ l. cond (p y) (y ∷ l) l) (dropped p x ys e) in
      let here : filter p (x ∷ y ∷ ys) ≡ filter p (y ∷ ys) = ap (λ b. cond b (x ∷ filter p (y ∷ ys)) (filter p (y ∷ ys))) e in
      elim (before x y) as (λ b. filter p (let l : List X = if b then x ∷ y ∷ ys else y ∷ inserted before x ys in l) ≡ filter p (y ∷ ys)) [ true ↦ here | false ↦ rest ]

  kept : (p : X → Bool) (x : X) (ys : List X) → p x ≡ true → Ascending before ys → filter p (inserted before x ys) ≡ inserted before x (filter p ys)
  kept p x [] e up = ap (λ b. cond b (x ∷ []) []) e
  kept p x (y ∷ ys) e up =
      let later : before x y ≡ true → AllByRecursion (λ z. before x z ≡ true) (y ∷ ys) = λ h. (h, all_weaken (λ t. before y t ≡ true) (λ t. before x t ≡ true) (λ t k. transitive x y t h k) ys up.0) in
      let here : before x y ≡ true → filter p (x ∷ y ∷ ys) ≡ inserted before x (filter p (y ∷ ys)) = λ h.
      ap (λ b. cond b (x ∷ filter p (y ∷ ys)) (filter p (y ∷ ys))) e ∙ sym (at_front x (filter p (y ∷ ys)) (all_filter (λ z. before x z ≡ true) p (y ∷ ys) (later h))) in
      let rest : filter p (inserted before x ys) ≡ inserted before x (filter p ys) = kept p x ys e up.1 in
      let behind : before x y ≡ false → filter p (y ∷ inserted before x ys) ≡ inserted before x (filter p (y ∷ ys)) = λ h.
      ap (λ l. cond (p y) (y ∷ l) l) rest
      ∙ (elim (p y) as (λ b. cond b (y ∷ inserted before x (filter p ys)) (inserted before x (filter p ys)) ≡ inserted before x (cond b (y ∷ filter p ys) (filter p ys))) [
        | true ↦ sym (ap (λ b. let l : List X = if b then x ∷ y ∷ filter p ys else y ∷ inserted before x (filter p ys) in l) h)
        | false ↦ refl
      ]) in
      (elim (before x y) as (λ b. before x y ≡ b → filter p (let l : List X = if b then x ∷ y ∷ ys else y ∷ inserted before x ys in l) ≡ inserted before x (filter p (y ∷ ys))) [ true ↦ here | false ↦ behind ]) refl

  -- what passes a test, of a sorted list
  pub filter_sorted : (p : X → Bool) (xs : List X) → filter p (sorted before xs) ≡ sorted before (filter p xs)
  filter_sorted p [] = refl
  filter_sorted p (x ∷ xs) =
      let up = up_sorted xs in
      let rest = filter_sorted p xs in
      elim (cases_Bool (p x)) [
        | inl e ↦ kept p x (sorted before xs) e up ∙ (ap (inserted before x) rest ∙ sym (ap (λ b. sorted before (cond b (x ∷ filter p xs) (filter p xs))) e))
        | inr e ↦ dropped p x (sorted before xs) e ∙ (rest ∙ sym (ap (λ b. sorted before (cond b (x ∷ filter p xs) (filter p xs))) e))
      ]
