-- The chosen tiles below a place.
use Rattle.std.proofs.Common.{◌≡◌, ℕ, zero, suc, ◌+◌, ◌-◌, ◌<◌, ◌≤◌, ℤ, List, [], ◌∷◌, ◌++◌, length, take, drop, get_or, true, false, Option, refl, ap, sym, ◌∙◌, arith, inl, inr, append-nil, length-take-le, length-drop, if◌then◌else◌}
use Rattle.std.specs.List.{AllByRecursion, Contains}
use Rattle.std.specs.List.Sorted.{IsNonDecreasing}
use Rattle.std.proofs.Math.Seq.{take-add}
use Rattle.std.proofs.lemmas.Bool.{cases_Bool, cases_lt}
use Rattle.std.proofs.lemmas.List.{get_or-take, get_or-drop, get_or_default, take_more}
use Rattle.std.proofs.lemmas.List.Elements.{recursion_from_All}
use Rattle.czi_image.specs.declared.types.Tile.{Tile}
use Rattle.czi_format.specs.Painting.{Query, is_chosen, turn}
use Rattle.czi_tiles.specs.Chosen.{tile_dims, chosen_turns}
use Rattle.czi_tiles.specs.Candidates.{HasChosen, AddsTurn}

turns_append : (q : Query) (k : ℕ) (xs ys : List Tile) → chosen_turns q k (xs ++ ys) ≡ chosen_turns q k xs ++ chosen_turns q (k + length xs) ys
turns_append q k [] ys = let e : k + 0 ≡ k = omega arith in ap (λ n. chosen_turns q n ys) (sym e)
turns_append q k (x ∷ xs) ys =
    let e : k + 1 + length xs ≡ k + suc (length xs) = omega arith in
    let rest : chosen_turns q (k + 1) (xs ++ ys) ≡ chosen_turns q (k + 1) xs ++ chosen_turns q (k + suc (length xs)) ys = turns_append q (k + 1) xs ys ∙ ap (λ n. chosen_turns q (k + 1) xs ++ chosen_turns q n ys) e in
    elim (is_chosen q (tile_dims x)) as (λ b. (if b then turn tile_dims (k, x) ∷ chosen_turns q (k + 1) (xs ++ ys) else chosen_turns q (k + 1) (xs ++ ys))
    ≡ (if b then turn tile_dims (k, x) ∷ chosen_turns q (k + 1) xs else chosen_turns q (k + 1) xs) ++ chosen_turns q (k + suc (length xs)) ys) [
      | true ↦ ap (λ l. turn tile_dims (k, x) ∷ l) rest
      | false ↦ rest
    ]

no_turns : (q : Query) (k : ℕ) (xs : List Tile) → AllByRecursion (λ t. is_chosen q (tile_dims t) ≡ false) xs → chosen_turns q k xs ≡ []
no_turns q k [] none = refl
no_turns q k (x ∷ xs) none = ap (λ b. if b then turn tile_dims (k, x) ∷ chosen_turns q (k + 1) xs else chosen_turns q (k + 1) xs) none.0 ∙ no_turns q (k + 1) xs none.1

-- between two places without a chosen one
pub gap : (q : Query) (tiles : List Tile) (n m : ℕ) → n ≤ m → m ≤ length tiles → ((k : ℕ) (t : Tile) → n ≤ k → k < m → t ≡ get_or tiles k t → is_chosen q (tile_dims t) ≡ true → ⊥)
    → chosen_turns q 0 (take n tiles) ≡ chosen_turns q 0 (take m tiles)
gap q tiles n m le inside none =
    let e : n + (m - n) ≡ m = omega arith in
    let between : List Tile = take (m - n) (drop n tiles) in
    let free : AllByRecursion (λ t. is_chosen q (tile_dims t) ≡ false) (take (m - n) (drop n tiles)) = recursion_from_All (λ t. is_chosen q (tile_dims t) ≡ false) (take (m - n) (drop n tiles)) (λ i d low.
    let short : i < m - n = omega (arith, low, length-take-le (m - n) (drop n tiles) (omega (arith, length-drop n tiles))) in
    let same : get_or (take (m - n) (drop n tiles)) i d ≡ get_or tiles (n + i) d = get_or-take (m - n) (drop n tiles) i d short ∙ get_or-drop n tiles i d in
    let t : Tile = get_or tiles (n + i) d in
    let this : get_or tiles (n + i) d ≡ get_or tiles (n + i) (get_or tiles (n + i) d) = get_or_default tiles (n + i) d (get_or tiles (n + i) d) (omega arith) in
    elim (cases_Bool (is_chosen q (tile_dims (get_or tiles (n + i) d)))) [
      | inl chosen ↦ absurd (none (n + i) (get_or tiles (n + i) d) (omega arith) (omega arith) this chosen)
      | inr other ↦ ap (λ (t : Tile). is_chosen q (tile_dims t)) same ∙ other
    ]) in
    sym (append-nil (chosen_turns q 0 (take n tiles)))
    ∙ (ap (λ l. chosen_turns q 0 (take n tiles) ++ l) (sym (no_turns q (0 + length (take n tiles)) (take (m - n) (drop n tiles)) free))
    ∙ (sym (turns_append q 0 (take n tiles) (take (m - n) (drop n tiles)))
    ∙ ap (chosen_turns q 0) (sym (take-add n (m - n) tiles) ∙ ap (λ k. take k tiles) e)))

-- one tile more
pub one_more : (q : Query) (tiles : List Tile) (n at : ℕ) (old new : List (Option ℤ × ℕ)) → at < length tiles → chosen_turns q 0 (take n tiles) ≡ chosen_turns q 0 (take at tiles)
    → old ≡ chosen_turns q 0 (take n tiles) → AddsTurn q tiles at old new → new ≡ chosen_turns q 0 (take (at + 1) tiles)
one_more q tiles n at old new low same was adds =
    let t = nth tiles at low in
    let long : 0 + length (take at tiles) ≡ at = omega (arith, length-take-le at tiles (omega arith)) in
    let more : take (at + 1) tiles ≡ take at tiles ++ t.0 ∷ [] = take_more tiles at t.0 low ∙ ap (λ (s : Tile). take at tiles ++ s ∷ []) (sym t.1) in
    adds t.0 t.1
    ∙ (ap (λ l. l ++ chosen_turns q at (t.0 ∷ [])) (was ∙ same)
    ∙ (ap (λ k. chosen_turns q 0 (take at tiles) ++ chosen_turns q k (t.0 ∷ [])) (sym long)
    ∙ (sym (turns_append q 0 (take at tiles) (t.0 ∷ [])) ∙ ap (chosen_turns q 0) (sym more))))
  where
    nth : {X : Type 0} (xs : List X) (k : ℕ) → k < length xs → (x : X) × (x ≡ get_or xs k x)
    nth [] k low = absurd (omega arith)
    nth (x ∷ xs) zero low = (x, refl)
    nth (x ∷ xs) (suc k) low = nth xs k (omega arith)

-- No chosen tile stands between the places that were passed and the one that comes.
pub none_between : (q : Query) (tiles : List Tile) (places : List ℕ) (n i m : ℕ) → HasChosen q tiles places → IsNonDecreasing places → m ≤ length tiles
    → ((k : ℕ) → k < i → get_or places k 0 < n) → ((k : ℕ) → i ≤ k → k < length places → m ≤ get_or places k 0)
    → (k : ℕ) (t : Tile) → n ≤ k → k < m → t ≡ get_or tiles k t → is_chosen q (tile_dims t) ≡ true → ⊥
none_between q tiles places n i m has up inside passed ahead k t low high is passes =
    let found : Contains places k = has k t (omega arith) is passes in
    let at : get_or places found.0 0 ≡ k = get_or_default places found.0 0 k found.1 ∙ found.2 in
    elim (cases_lt found.0 i) [
      | inl before ↦ omega (arith, passed found.0 before, at)
      | inr behind ↦ omega (arith, ahead found.0 behind found.1, at)
    ]
