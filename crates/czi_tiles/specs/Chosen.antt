-- The chosen tiles, as the code keeps them.
use Rattle.std.specs.Prelude.{ℕ, ◌+◌, ℤ, List, [], ◌∷◌, Option, if◌then◌else◌}
use Rattle.czi_format.specs.Entry.{Dim, EntryInfo}
use Rattle.czi_doc.specs.View.{dims_of, info_of}
use Rattle.czi_image.specs.declared.types.Tile.{Tile}
use Rattle.czi_format.specs.Painting.{Query, is_chosen, turn}
use Rattle.czi_tiles.specs.declared.turn.Turn.{Turn}

abbrev pub tile_info : Tile → EntryInfo
tile_info t = info_of t.info

-- DataSize
abbrev pub tile_size : Tile → ℕ
tile_size t = t.pixels

abbrev pub tile_dims : Tile → List Dim
tile_dims t = dims_of t.info.dims

abbrev pub turn_of : Turn → Option ℤ × ℕ
turn_of t = (t.m, t.place)

-- the turns of the chosen ones of tiles that stand in the directory from a place on
abbrev pub chosen_turns : Query → ℕ → List Tile → List (Option ℤ × ℕ)
chosen_turns q k [] = []
chosen_turns q k (t ∷ rest) = if is_chosen q (tile_dims t) then turn tile_dims (k, t) ∷ chosen_turns q (k + 1) rest else chosen_turns q (k + 1) rest
