-- What a painter paints.
use Rattle.std.specs.Prelude.{◌≡◌, ℕ, ◌+◌, ◌*◌, ◌<◌, ◌≤◌, List, map, replicate}
use Rattle.std.specs.List.{All, AllByRecursion}
use Rattle.czi_image.specs.declared.types.Tile.{Tile}
use Rattle.czi_format.specs.Painting.{Query, point, last_given, chosen, pixel_at, row}
use Rattle.czi_paint.specs.declared.painter.Painter.{Painter}
use Rattle.czi_tiles.specs.Chosen.{tile_dims}
use Rattle.czi_paint.specs.Patches.{EndsBelow, patch_pixel}
use Rattle.czi_paint.specs.Patched.{subblock_in}

-- rows are left
abbrev pub HasRow : Painter → Type 0
HasRow p = p.next < p.h

-- how many bytes a row has
abbrev pub row_len : Painter → ℕ
row_len p = p.w * p.size

-- what it reads lies in the first n bytes of the image
abbrev pub LiesIn : ℕ → Painter → Type 0
LiesIn n p = All (EndsBelow n p.size) p.patches.items

-- the pixels of a tile end at or below a place
abbrev pub TileEndsBelow : ℕ → ℕ × Tile → Type 0
TileEndsBelow n t = t.1.begin + t.1.meta + t.1.pixels ≤ n

-- A painter paints the region of a query over these tiles, and row j is next.
pub record Paints (q : Query) (tiles : List Tile) (j : ℕ) (p : Painter) : Type 0 where
  pub w : p.w ≡ q.w
  pub h : p.h ≡ q.h
  pub size : p.size ≡ q.pixel.size
  pub next : p.next ≡ j
  pub pixels : (image : List ℕ) (i k : ℕ) → i < q.w → k < q.h → last_given (λ patch. patch_pixel p.size image patch k i) p.patches.items (replicate p.size 0)
      ≡ pixel_at q (map (subblock_in image) tiles) (point q.x q.layer i) (point q.y q.layer k)
  pub lies : (n : ℕ) → AllByRecursion (TileEndsBelow n) (chosen tile_dims q tiles) → LiesIn n p

-- These bytes are the row that is next, of whatever region is painted, as the image shows it.
abbrev pub IsNextRow : Painter → List ℕ → List ℕ → Type 0
IsNextRow p image bytes = (q : Query) (tiles : List Tile) (j : ℕ) → Paints q tiles j p → bytes ≡ row q (map (subblock_in image) tiles) j

-- the row behind it is next
abbrev pub HasMoved : Painter → Painter → Type 0
HasMoved old new = (q : Query) (tiles : List Tile) (j : ℕ) → Paints q tiles j old → Paints q tiles (j + 1) new
