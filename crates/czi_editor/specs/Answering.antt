-- An editor that has a reply to say.
use Rattle.std.specs.Prelude.{◌≡◌, ℕ, List, [], IfSome, if◌then◌else◌, Option, None, Some}
use Rattle.czi_format.specs.Document.{Subblock}
use Rattle.czi_format.specs.Painting.{Query}
use Rattle.czi_image.specs.declared.types.Tile.{Tile}
use Rattle.czi_rig.specs.State.{State, SameFiles}
use Rattle.czi_rig.specs.Passes.{GoesOn}
use Rattle.czi_tiles.specs.Grid.{IsGrid}
use Rattle.czi_editor.specs.declared.editor.ImageEditor.{ImageEditor}
use Rattle.czi_editor.specs.declared.painting.Painting.{Painting}
use Rattle.czi_editor.specs.Machine.{IsReady}
use Rattle.czi_editor.specs.Laws.{stays_ready_of}
use Rattle.czi_editor.specs.Painted.{IsPainting}
use Rattle.czi_editor.specs.Regions.{rows_from}

-- the piece that is to be said: a row of a region that is being painted, or else what was replied first
abbrev pub piece_of : Option Painting → List ℕ → List ℕ
piece_of None reply = reply
piece_of (Some p) reply = if p.begun then p.row.items else reply

-- how many rows are left
abbrev pub rows_left : Option Painting → ℕ
rows_left None = 0
rows_left (Some p) = p.left

-- what is owed of these subblocks: the rows that are left
abbrev pub Owes : Option Painting → List Tile → List Subblock → List ℕ → Type 0
Owes None tiles subblocks rest = rest ≡ []
Owes (Some p) tiles subblocks rest = (q : Query) × (j : ℕ) × IsPainting p q tiles j × (rest ≡ rows_from q subblocks j p.left)

-- a region of these tiles is being painted
abbrev pub MayPaint : List Tile → Painting → Type 0
MayPaint tiles p = (q : Query) × (j : ℕ) × IsPainting p q tiles j

-- an editor may be used on a device: its engine may, and grid and painting are of the tiles that the engine has
pub record MayGoOn (e : ImageEditor) (s : State) : Type 0 where
  pub engine : IsReady e.engine s
  pub grid : IfSome e.grid (IsGrid e.engine.state.index.tiles.items)
  pub painting : IfSome e.painting (MayPaint e.engine.state.index.tiles.items)

-- it may still where both files stay as they are
pub goes_on_of : (e : ImageEditor) (old new : State) → MayGoOn e old → SameFiles old new → GoesOn old new → MayGoOn e new
goes_on_of e old new ready files goes = record { engine = stays_ready_of e.engine old new ready.engine files goes; grid = ready.grid; painting = ready.painting }
