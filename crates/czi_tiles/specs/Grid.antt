-- A grid of tiles.
use Rattle.std.specs.Prelude.{◌≡◌, ℕ, ◌<◌, List, length}
use Rattle.std.specs.List.{All, slice_index_or}
use Rattle.std.specs.List.Sorted.{IsNonDecreasing}
use Rattle.czi_image.specs.declared.types.Tile.{Tile}
use Rattle.czi_format.specs.Painting.{Query}
use Rattle.czi_tiles.specs.declared.cell.Cell.{Cell}
use Rattle.czi_tiles.specs.declared.grid.TileGrid.{TileGrid}
use Rattle.czi_tiles.specs.Chosen.{tile_dims}
use Rattle.czi_tiles.specs.Candidates.{HasChosen}
use Rattle.czi_tiles.specs.Cells.{IsIndexed}

-- these cells have the first n tiles of a directory
pub record HasTiles (axis : List ℕ) (tiles : List Tile) (n : ℕ) (cells : List Cell) : Type 0 where
  pub there : All (λ c. c.place < length tiles) cells
  pub each : (k : ℕ) (t : Tile) → k < n → t ≡ slice_index_or tiles k t → IsIndexed axis cells k (tile_dims t)

-- the grid was built from these tiles
abbrev pub IsGrid : List Tile → TileGrid → Type 0
IsGrid tiles g = HasTiles g.axis tiles (length tiles) g.cells.items

-- places of the directory, in order, among which all chosen tiles are
pub record IsCandidates (q : Query) (tiles : List Tile) (places : List ℕ) : Type 0 where
  pub there : All (λ k. k < length tiles) places
  pub rising : IsNonDecreasing places
  pub all : HasChosen q tiles places
