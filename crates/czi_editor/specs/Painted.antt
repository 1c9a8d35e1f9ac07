-- A region that is being painted.
use Rattle.std.specs.Prelude.{◌≡◌, ℕ, ◌+◌, ◌*◌, List, ◌++◌, length, Bool, true, false, Option, None, Some}
use Rattle.czi_format.specs.Painting.{Query}
use Rattle.czi_format.specs.PaintRefusals.{PaintRefusal}
use Rattle.czi_doc.specs.QueryView.{type_of}
use Rattle.czi_image.specs.declared.types.Tile.{Tile}
use Rattle.czi_paint.specs.Painted.{Paints}
use Rattle.czi_paint.specs.Refusing.{tiles_refusal}
use Rattle.czi_report.specs.Pnm.{pnm_head}
use Rattle.czi_editor.specs.declared.painting.Painting.{Painting}
use Rattle.czi_editor.specs.Regions.{no_region_line}

-- of this region over these tiles row j is next, of those that are left
pub record IsPainting (p : Painting) (q : Query) (tiles : List Tile) (j : ℕ) : Type 0 where
  pub paints : Paints q tiles j p.painter
  pub left : j + p.left ≡ q.h
  pub pixel : type_of p.pixel ≡ q.pixel
  pub row : length p.row.items ≡ q.w * q.pixel.size

-- which row is next then
abbrev pub next_row : Bool → ℕ → ℕ
next_row true j = j + 1
next_row false j = j

-- A region over these tiles was begun, with its head appended to a text, or its refusal.
abbrev pub IsBegun : Query → List Tile → (old new : List ℕ) → Option Painting → Type 0
IsBegun q tiles old new None = (refusal : PaintRefusal) × (tiles_refusal q tiles ≡ Some refusal) × (new ≡ old ++ no_region_line refusal)
IsBegun q tiles old new (Some p) = (tiles_refusal q tiles ≡ None) × IsPainting p q tiles 0 × (p.begun ≡ false) × (new ≡ old ++ pnm_head q)
