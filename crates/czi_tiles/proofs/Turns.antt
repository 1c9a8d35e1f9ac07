-- The turns of the chosen tiles, in painting order.
use Rattle.std.proofs.Common.{◌≡◌, ℕ, ◌+◌, length, get_or, arith, List, [], ◌∷◌, map, Bool, true, false, cond, refl, ap, sym, ◌∙◌, filter, if◌then◌else◌}
use Rattle.std.specs.Ordering.{is_le, is_lt}
use Rattle.std.proofs.lemmas.List.{get_or-map, length-map}
use Rattle.std.specs.List.{enumerate_from}
use Rattle.std.specs.List.Sorted.{IsPermutation, IsSorted}
use Rattle.std.proofs.lemmas.List.Sorted.{IsPermutation-map}
use Rattle.czi_format.specs.Span.{sorted}
use Rattle.czi_image.specs.declared.types.Tile.{Tile}
use Rattle.czi_format.specs.Painting.{Query, is_chosen, turn, turn_cmp, painted_before, chosen}
use Rattle.czi_tiles.proofs.Order.{map_sorted, filter_sorted, turn_order, turns_total, exact_turns, sorted_by_cmp}
use Rattle.czi_tiles.specs.declared.turn.Turn.{Turn}
use Rattle.czi_tiles.specs.Chosen.{tile_dims, turn_of, chosen_turns}

by_place : (q : Query) (k : ℕ) (tiles : List Tile) → chosen_turns q k tiles ≡ map (turn tile_dims) (filter (λ t. is_chosen q (tile_dims t.1)) (enumerate_from k tiles))
by_place q k [] = refl
by_place q k (t ∷ rest) =
    let more = by_place q (k + 1) rest in
    elim (is_chosen q (tile_dims t)) as (λ b. (if b then turn tile_dims (k, t) ∷ chosen_turns q (k + 1) rest else chosen_turns q (k + 1) rest)
    ≡ map (turn tile_dims) (let l : List (ℕ × Tile) = cond b ((k, t) ∷ filter (λ t. is_chosen q (tile_dims t.1)) (enumerate_from (k + 1) rest)) (filter (λ t. is_chosen q (tile_dims t.1)) (enumerate_from (k + 1) rest)) in l)) [
      | true ↦ ap (λ l. turn tile_dims (k, t) ∷ l) more
      | false ↦ more
    ]

-- the chosen turns, sorted, are those of the chosen ones in painting order
pub in_turn : (q : Query) (tiles : List Tile) → sorted (λ a b. is_le (turn_cmp a b)) (chosen_turns q 0 tiles) ≡ map (turn tile_dims) (chosen tile_dims q tiles)
in_turn q tiles =
    let test : ℕ × Tile → Bool = λ t. is_chosen q (tile_dims t.1) in
    ap (sorted (λ a b. is_le (turn_cmp a b))) (by_place q 0 tiles)
    ∙ (sym (map_sorted (turn tile_dims) (λ a b. is_le (turn_cmp a b)) (filter (λ t. is_chosen q (tile_dims t.1)) (enumerate_from 0 tiles)))
    ∙ ap (map (turn tile_dims)) (sym (filter_sorted (painted_before tile_dims) (λ a b e. turn_order.total (turn tile_dims a) (turn tile_dims b) e)
    (λ a b c d e. turn_order.transitive (turn tile_dims a) (turn tile_dims b) (turn tile_dims c) d e) (λ t. is_chosen q (tile_dims t.1)) (enumerate_from 0 tiles))))

-- turns that a sort has left
sorted_turns : (ys : List Turn) → IsSorted (λ (a b : Turn). turn_cmp (turn_of a) (turn_of b)) ys → IsSorted turn_cmp (map turn_of ys)
sorted_turns ys up = λ k d low high.
    let long : length (map turn_of ys) ≡ length ys = length-map ys turn_of in
    let e : Turn = record { m = d.0; place = d.1 } in
    let here : get_or (map turn_of ys) k d ≡ turn_of (get_or ys k e) = get_or-map turn_of ys k e d (omega (arith, long)) in
    let next : get_or (map turn_of ys) (k + 1) d ≡ turn_of (get_or ys (k + 1) e) = get_or-map turn_of ys (k + 1) e d (omega (arith, long)) in
    (λ i. is_lt (turn_cmp (next i) (here i))) ∙ up k e low (omega (arith, long))

pub ordered : (q : Query) (tiles : List Tile) (xs ys : List Turn) → map turn_of xs ≡ chosen_turns q 0 tiles → IsPermutation xs ys
    → IsSorted (λ (a b : Turn). turn_cmp (turn_of a) (turn_of b)) ys → map turn_of ys ≡ map (turn tile_dims) (chosen tile_dims q tiles)
ordered q tiles xs ys is moved up =
    sorted_by_cmp turns_total exact_turns (map turn_of xs) (map turn_of ys) (IsPermutation-map turn_of xs ys moved) (sorted_turns ys up)
    ∙ (ap (sorted (λ a b. is_le (turn_cmp a b))) is ∙ in_turn q tiles)
