-- Places among which all chosen tiles are.
use Rattle.std.specs.Prelude.{◌≡◌, ℕ, ◌<◌, ℤ, List, [], ◌∷◌, ◌++◌, length, true, Option}
use Rattle.std.specs.List.{Contains, slice_index_or}
use Rattle.czi_image.specs.declared.types.Tile.{Tile}
use Rattle.czi_format.specs.Painting.{Query, is_chosen}
use Rattle.czi_tiles.specs.Chosen.{tile_dims, chosen_turns}

-- the place of each chosen tile is among these
abbrev pub HasChosen : Query → List Tile → List ℕ → Type 0
HasChosen q tiles places = (k : ℕ) (t : Tile) → k < length tiles → t ≡ slice_index_or tiles k t → is_chosen q (tile_dims t) ≡ true → Contains places k

-- the turn of the tile at a place is added, where it is chosen
abbrev pub AddsTurn : Query → List Tile → ℕ → List (Option ℤ × ℕ) → List (Option ℤ × ℕ) → Type 0
AddsTurn q tiles at old new = (t : Tile) → t ≡ slice_index_or tiles at t → new ≡ old ++ chosen_turns q at (t ∷ [])
