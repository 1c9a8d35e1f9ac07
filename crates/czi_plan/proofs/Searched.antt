-- A subblock whose key has another number has another key.
use Rattle.std.proofs.Common.{◌≡◌, ℕ, ◌%◌, ◌^◌, ◌<◌, ◌≤◌, List, map, sum, length, get_or, true, false, ap, sym, ◌∙◌, arith, inl, inr}
use Rattle.std.proofs.Math.ListN.{get_or-map}
use Rattle.std.proofs.lemmas.Bool.{and_parts, cases_Bool, cases_lt}
use Rattle.std.proofs.lemmas.List.{length-map, get_or-map as get_at}
use Rattle.czi_format.specs.Entry.{Dim}
use Rattle.czi_format.specs.Key.{Axis, Key, key}
use Rattle.czi_doc.specs.KeyNumber.{axis_number, key_number}
use Rattle.czi_doc.specs.View.{dims_of}
use Rattle.czi_image.specs.Summary.{number_of}
use Rattle.czi_image.specs.View.{tile_of}
use Rattle.czi_image.specs.declared.types.Tile.{Tile as CodeTile}
use Rattle.czi_machine.specs.Edit.{same_key}
use Rattle.czi_plan.proofs.Axes.{axes_same}

-- equal keys have equal numbers
pub same_numbers : (a b : Key) → same_key a b ≡ true → key_number a ≡ key_number b
unfolding key_number
same_numbers a b e = ap (λ (axes : List Axis). sum (map axis_number axes) % 2 ^ 32) (axes_same a.axes b.axes (and_parts _ _ (and_parts _ _ e).0).0)

number_at : (tiles : List CodeTile) (k : ℕ) (d : CodeTile) → k < length tiles → get_or (map number_of (map tile_of tiles)) k 0 ≡ key_number (key (dims_of (get_or tiles k d).info.dims))
number_at tiles k d h =
    get_at number_of (map tile_of tiles) k (tile_of d) 0 (omega (arith, h, length-map tiles tile_of)) ∙ ap number_of (get_or-map tile_of tiles k d)

other_key : (tiles : List CodeTile) (dims : List Dim) (k : ℕ) (d : CodeTile) → k < length tiles → (get_or (map number_of (map tile_of tiles)) k 0 ≡ key_number (key dims) → ⊥)
    → same_key (key (dims_of (get_or tiles k d).info.dims)) (key dims) ≡ false
other_key tiles dims k d h other = elim (cases_Bool (same_key (key (dims_of (get_or tiles k d).info.dims)) (key dims))) [
  | inl same ↦ absurd (other (number_at tiles k d h ∙ same_numbers _ _ same))
  | inr differs ↦ differs
]

-- none before a place has the key, and none from there to another one has its number
pub passed : (tiles : List CodeTile) (dims : List Dim) (numbers : List ℕ) (number from to : ℕ) → numbers ≡ map number_of (map tile_of tiles) → number ≡ key_number (key dims) → to ≤ length numbers
    → ((k : ℕ) (d : CodeTile) → k < from → same_key (key (dims_of (get_or tiles k d).info.dims)) (key dims) ≡ false) → ((k : ℕ) → from ≤ k → k < to → get_or numbers k 0 ≡ number → ⊥)
    → (k : ℕ) (d : CodeTile) → k < to → same_key (key (dims_of (get_or tiles k d).info.dims)) (key dims) ≡ false
passed tiles dims numbers number from to numbers_are number_is inside before behind k d h = elim (cases_lt k from) [
  | inl low ↦ before k d low
  | inr high ↦ other_key tiles dims k d (omega (arith, h, inside, ap length numbers_are, length-map (map tile_of tiles) number_of, length-map tiles tile_of))
      (λ e. behind k high h (ap (λ l. get_or l k 0) numbers_are ∙ (e ∙ sym number_is)))
]

-- how many there are
pub so_many : (tiles : List CodeTile) (numbers : List ℕ) → numbers ≡ map number_of (map tile_of tiles) → length numbers ≡ length tiles
so_many tiles numbers are = ap length are ∙ (length-map (map tile_of tiles) number_of ∙ length-map tiles tile_of)
