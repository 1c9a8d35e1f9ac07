-- The cells of a grid over an image, in rows of 2^21 cells. On level 0 a cell is a square of 4096 by 4096 logical pixels, and on
-- each level above it 32 times as wide and high.
use Rattle.std.specs.Prelude.{◌≡◌, ℕ, ◌+◌, ◌*◌, ◌/◌, ◌^◌, ◌<◌, ◌≤◌, ℤ, pos, ◌+ℤ◌, ◌≤ℤ◌, ◌<ℤ◌, List, Option, None, Some, option_map, ◌%◌}
use Rattle.std.specs.List.{All, Contains}
use Rattle.std.specs.Int.RustNames.{unsigned_abs}
use Rattle.czi_format.specs.Entry.{Dim}
use Rattle.czi_format.specs.Painting.{Query, point, first_named, first_x, first_y}
use Rattle.czi_tiles.specs.declared.cell.Cell.{Cell}

-- how many logical pixels a cell has, across and down
abbrev pub side : ℕ → ℕ
side level = 4096 * 32 ^ level

-- the column of cells in which a logical column of pixels lies, or the row of cells of a logical row
abbrev pub cell_of : ℕ → ℤ → ℕ
cell_of level p = unsigned_abs (p +ℤ pos (2 ^ 31)) / side level

-- where a tile starts in a dimension of a name, if it has that
abbrev pub start_in : List ℕ → List Dim → Option ℤ
start_in name dims = option_map (λ d. d.start) (first_named name dims)

-- a number for a start, below 2^19: equal starts have equal numbers
abbrev pub key : Option ℤ → ℕ
key None = 0
key (Some start) = 1 + unsigned_abs (start +ℤ pos (2 ^ 31)) % 524287

-- a sheet: the cells of a level in which tiles with one key stand
abbrev pub sheet_of : ℕ → ℕ → ℕ
sheet_of level k = level * 2 ^ 19 + k

-- the number of a cell, sheet by sheet and row by row
abbrev pub number_of : ℕ → ℕ → ℕ → ℕ
number_of sheet row column = (sheet * 2 ^ 21 + row) * 2 ^ 21 + column

-- a dimension covers a point, by its size
pub record Covers (d : Dim) (p : ℤ) : Type 0 where
  pub from : d.start ≤ℤ p
  pub to : p <ℤ (d.start +ℤ d.size)

-- a tile stands in a cell
abbrev pub cell_at : ℕ → ℕ → ℕ → ℕ → Cell
cell_at sheet row column place = record { number = number_of sheet row column; place = place }

-- A tile with these dimensions stands, on one of the levels, in each cell in which a point lies that it covers, on the sheet of its
-- start in the axis.
abbrev pub IsIndexed : List ℕ → List Cell → ℕ → List Dim → Type 0
IsIndexed axis cells place dims = (x y : Dim) → first_x dims ≡ Some x → first_y dims ≡ Some y → (px py : ℤ) → Covers x px → Covers y py
    → (level : ℕ) × (level ≤ 4) × (cell_of level py < 2 ^ 21) × (cell_of level px < 2 ^ 21)
    × Contains cells (cell_at (sheet_of level (key (start_in axis dims))) (cell_of level py) (cell_of level px) place)

-- what stood there stands there still
abbrev pub Keeps : {X : Type 0} → List X → List X → Type 0
Keeps {X} old new = (x : X) → Contains old x → Contains new x

-- the places stay below a bound
abbrev pub KeepsBound : ℕ → List Cell → List Cell → Type 0
KeepsBound place old new = (n : ℕ) → place < n → All (λ c. c.place < n) old → All (λ c. c.place < n) new

-- a tile is added to the cells from a first to a last column of a row
pub record AddsRow (sheet row first last place : ℕ) (old new : List Cell) : Type 0 where
  pub keeps : Keeps old new
  pub bound : KeepsBound place old new
  pub there : (column : ℕ) → first ≤ column → column ≤ last → Contains new (cell_at sheet row column place)

-- the same of the cells from a first to a last row
pub record AddsCells (sheet top bottom first last place : ℕ) (old new : List Cell) : Type 0 where
  pub keeps : Keeps old new
  pub bound : KeepsBound place old new
  pub there : (row column : ℕ) → top ≤ row → row ≤ bottom → first ≤ column → column ≤ last → Contains new (cell_at sheet row column place)

-- a tile is added
pub record AddsTile (axis : List ℕ) (dims : List Dim) (place : ℕ) (old new : List Cell) : Type 0 where
  pub keeps : Keeps old new
  pub bound : KeepsBound place old new
  pub indexed : IsIndexed axis new place dims

-- no place is lost, and those that are added are places of cells
pub record AddsTo (cells : List Cell) (old new : List ℕ) : Type 0 where
  pub keeps : Keeps old new
  pub bound : (n : ℕ) → All (λ c. c.place < n) cells → All (λ k. k < n) old → All (λ k. k < n) new

-- the places of the tiles that stand in cells from a first to a last number are added
pub record AddsPlaces (cells : List Cell) (first last : ℕ) (old new : List ℕ) : Type 0 where
  pub adds : AddsTo cells old new
  pub there : (c : Cell) → Contains cells c → first ≤ c.number → c.number ≤ last → Contains new c.place

-- the same of cells of a sheet from a first to a last row
pub record AddsAll (cells : List Cell) (sheet top bottom first last : ℕ) (old new : List ℕ) : Type 0 where
  pub adds : AddsTo cells old new
  pub there : (row : ℕ) (c : Cell) → top ≤ row → row ≤ bottom → Contains cells c → number_of sheet row first ≤ c.number → c.number ≤ number_of sheet row last → Contains new c.place

-- the same of the cells of a sheet of a level in which points of the region lie
pub record AddsMet (q : Query) (cells : List Cell) (level sheet : ℕ) (old new : List ℕ) : Type 0 where
  pub adds : AddsTo cells old new
  pub there : (i j place : ℕ) → i < q.w → j < q.h → cell_of level (point q.y q.layer j) < 2 ^ 21 → cell_of level (point q.x q.layer i) < 2 ^ 21
      → Contains cells (cell_at sheet (cell_of level (point q.y q.layer j)) (cell_of level (point q.x q.layer i)) place) → Contains new place

-- the same of the sheets of a level from a first to a last key
pub record AddsKeys (q : Query) (cells : List Cell) (level first last : ℕ) (old new : List ℕ) : Type 0 where
  pub adds : AddsTo cells old new
  pub there : (k i j place : ℕ) → first ≤ k → k ≤ last → i < q.w → j < q.h → cell_of level (point q.y q.layer j) < 2 ^ 21 → cell_of level (point q.x q.layer i) < 2 ^ 21
      → Contains cells (cell_at (sheet_of level k) (cell_of level (point q.y q.layer j)) (cell_of level (point q.x q.layer i)) place) → Contains new place
