-- Sorted neighbours meet nowhere exactly where no two spans of the list meet.
use Rattle.std.proofs.Common.{◌≡◌, ◌≤◌, ◌<◌, List, [], ◌∷◌, Bool, true, false, max, min, Option, Some, None, refl, ap, ◌∙◌, arith, if◌then◌else◌}
use Rattle.std.proofs.lemmas.Bool.{ltb-false, le-ltb}
use Rattle.std.proofs.lemmas.Bool.Decides.{nat_tests}
use Rattle.std.specs.List.{AllByRecursion}
use Rattle.std.specs.Bool.{⊤}
use Rattle.czi_format.specs.Span.{Span, end_of, meets, AreDisjoint, span_le, inserted, sorted}
use Rattle.czi_format.specs.Refusals.{first_meeting, overlap}

apart_sym : (a b : Span) → meets a b ≡ false → meets b a ≡ false
apart_sym a b h = le-ltb _ _ (omega (arith, ltb-false (max a.at b.at) (min (end_of a) (end_of b)) h))

all_weaken : {X : Type 0} (P Q : X → Type 0) → ((x : X) → P x → Q x) → (xs : List X) → AllByRecursion P xs → AllByRecursion Q xs
all_weaken P Q f [] all = tt
all_weaken P Q f (x ∷ xs) all = (f x all.0, all_weaken P Q f xs all.1)

all_inserted : (P : Span → Type 0) (x : Span) (ys : List Span) → P x → AllByRecursion P ys → AllByRecursion P (inserted span_le x ys)
all_inserted P x [] px all = (px, tt)
all_inserted P x (y ∷ ys) px all =
    let rest = all_inserted P x ys px all.1 in
    elim (span_le x y) as (λ b. AllByRecursion P (if b then x ∷ y ∷ ys else y ∷ inserted span_le x ys)) [ true ↦ (px, all) | false ↦ (all.0, rest) ]

all_uninserted : (P : Span → Type 0) (x : Span) (ys : List Span) → AllByRecursion P (inserted span_le x ys) → P x × AllByRecursion P ys
all_uninserted P x [] all = (all.0, tt)
all_uninserted P x (y ∷ ys) whole =
    let rest = all_uninserted P x ys in
    (elim (span_le x y) as (λ b. AllByRecursion P (if b then x ∷ y ∷ ys else y ∷ inserted span_le x ys) → P x × AllByRecursion P (y ∷ ys)) [
      | true ↦ λ all. (all.0, all.1)
      | false ↦ λ all. ((rest all.1).0, (all.0, (rest all.1).1))
    ]) whole

disjoint_inserted : (x : Span) (ys : List Span) → AllByRecursion (λ t. meets x t ≡ false) ys → AreDisjoint ys → AreDisjoint (inserted span_le x ys)
disjoint_inserted x [] apart d = (tt, tt)
disjoint_inserted x (y ∷ ys) apart d =
    let rest = disjoint_inserted x ys apart.1 d.1 in
    let all = all_inserted (λ t. meets y t ≡ false) x ys (apart_sym x y apart.0) d.0 in
    elim (span_le x y) as (λ b. AreDisjoint (if b then x ∷ y ∷ ys else y ∷ inserted span_le x ys)) [ true ↦ (apart, d) | false ↦ (all, rest) ]

disjoint_uninserted : (x : Span) (ys : List Span) → AreDisjoint (inserted span_le x ys) → AllByRecursion (λ t. meets x t ≡ false) ys × AreDisjoint ys
disjoint_uninserted x [] d = (tt, tt)
disjoint_uninserted x (y ∷ ys) whole =
    let rest = disjoint_uninserted x ys in
    let all = all_uninserted (λ t. meets y t ≡ false) x ys in
    (elim (span_le x y) as (λ b. AreDisjoint (if b then x ∷ y ∷ ys else y ∷ inserted span_le x ys) → AllByRecursion (λ t. meets x t ≡ false) (y ∷ ys) × AreDisjoint (y ∷ ys)) [
      | true ↦ λ d. (d.0, d.1)
      | false ↦ λ d. ((apart_sym y x (all d.0).0, (rest d.1).0), ((all d.0).1, (rest d.1).1))
    ]) whole

sorted_apart : (P : Span → Type 0) (xs : List Span) → AllByRecursion P xs → AllByRecursion P (sorted span_le xs)
sorted_apart P [] all = tt
sorted_apart P (x ∷ xs) all = all_inserted P x (sorted span_le xs) all.0 (sorted_apart P xs all.1)

disjoint_sorted : (xs : List Span) → AreDisjoint xs → AreDisjoint (sorted span_le xs)
disjoint_sorted [] d = tt
disjoint_sorted (x ∷ xs) d = disjoint_inserted x (sorted span_le xs) (sorted_apart (λ t. meets x t ≡ false) xs d.0) (disjoint_sorted xs d.1)

unsorted_all : (P : Span → Type 0) (xs : List Span) → AllByRecursion P (sorted span_le xs) → AllByRecursion P xs
unsorted_all P [] all = tt
unsorted_all P (x ∷ xs) all = let both = all_uninserted P x (sorted span_le xs) all in (both.0, unsorted_all P xs both.1)

disjoint_unsorted : (xs : List Span) → AreDisjoint (sorted span_le xs) → AreDisjoint xs
disjoint_unsorted [] d = tt
disjoint_unsorted (x ∷ xs) d =
    let both = disjoint_uninserted x (sorted span_le xs) d in
    (unsorted_all (λ t. meets x t ≡ false) xs both.0, disjoint_unsorted xs both.1)

-- each begins at or before all later ones
Ascending : List Span → Type 0
Ascending [] = ⊤
Ascending (s ∷ rest) = AllByRecursion (λ t. s.at ≤ t.at) rest × Ascending rest

le_begins : (a b : Span) → span_le a b ≡ true → a.at ≤ b.at
le_begins a b h = grind (arith, nat_tests)

not_le_begins : (a b : Span) → span_le a b ≡ false → b.at ≤ a.at
not_le_begins a b h = grind (arith, nat_tests)

ascending_inserted : (x : Span) (ys : List Span) → Ascending ys → Ascending (inserted span_le x ys)
unfolding Ascending
ascending_inserted x [] up = (tt, tt)
ascending_inserted x (y ∷ ys) up =
    let rest = ascending_inserted x ys up.1 in
    (elim (span_le x y) as (λ b. span_le x y ≡ b → Ascending (if b then x ∷ y ∷ ys else y ∷ inserted span_le x ys)) [
      | true ↦ λ e. let first = le_begins x y e in ((first, all_weaken (λ t. y.at ≤ t.at) (λ t. x.at ≤ t.at) (λ t h. omega (arith, first)) ys up.0), up)
      | false ↦ λ e. (all_inserted (λ t. y.at ≤ t.at) x ys (not_le_begins x y e) up.0, rest)
    ]) refl

ascending_sorted : (xs : List Span) → Ascending (sorted span_le xs)
unfolding Ascending
ascending_sorted [] = tt
ascending_sorted (x ∷ xs) = ascending_inserted x (sorted span_le xs) (ascending_sorted xs)

chosen : {A : Type 0} (b : Bool) (x : A) (o : Option A) → (if b then Some x else o) ≡ None → (b ≡ false) × (o ≡ None)
chosen true x o e = cc
chosen false x o e = (refl, e)

chain : (xs : List Span) → Ascending xs → AllByRecursion (λ s. 0 < s.len) xs → first_meeting xs ≡ None → AreDisjoint xs
unfolding Ascending
chain [] up long none = tt
chain (a ∷ []) up long none = (tt, tt)
chain (a ∷ b ∷ rest) up long none =
    let c = chosen (meets a b) (overlap a b) (first_meeting (b ∷ rest)) none in
    let below : end_of a ≤ b.at = omega (arith, ltb-false (max a.at b.at) (min (end_of a) (end_of b)) c.0, up.0.0, long.1.0) in
    ((c.0, all_weaken (λ t. b.at ≤ t.at) (λ t. meets a t ≡ false) (λ t h. le-ltb _ _ (omega (arith, below))) rest up.1.0), chain (b ∷ rest) up.1 long.1 c.1)

unchain : (xs : List Span) → AreDisjoint xs → first_meeting xs ≡ None
unchain [] d = refl
unchain (a ∷ []) d = refl
unchain (a ∷ b ∷ rest) d = let here : meets a b ≡ false = d.0.0 in ap (λ t. if t then Some (overlap a b) else first_meeting (b ∷ rest)) here ∙ unchain (b ∷ rest) d.1

pub none_meet : (xs : List Span) → AllByRecursion (λ s. 0 < s.len) xs → first_meeting (sorted span_le xs) ≡ None → AreDisjoint xs
none_meet xs long none = disjoint_unsorted xs (chain (sorted span_le xs) (ascending_sorted xs) (sorted_apart (λ s. 0 < s.len) xs long) none)

pub disjoint_none : (xs : List Span) → AreDisjoint xs → first_meeting (sorted span_le xs) ≡ None
disjoint_none xs d = unchain (sorted span_le xs) (disjoint_sorted xs d)
