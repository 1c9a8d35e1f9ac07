-- The first subblock, and the first attachment, with a key.
use Rattle.std.specs.Prelude.{ℕ, List, Option, position}
use Rattle.std.specs.Prelude.{Bool, ◌&&◌, bytes_eq}
use Rattle.std.specs.Ordering.{int_eq}
use Rattle.czi_doc.specs.declared.dimensions.Dim.{Dim as CodeDim}
use Rattle.czi_format.specs.Entry.{Dim}
use Rattle.czi_format.specs.Key.{attachment_key, key}
use Rattle.czi_format.specs.Live.{AttItem, Tile}
use Rattle.czi_machine.specs.Edit.{same_key}

abbrev pub tile_with : List Dim → List Tile → Option ℕ
tile_with dims tiles = position (λ (t : Tile). same_key (key t.entry.info.dims) (key dims)) tiles

-- the place of the first attachment with this name
abbrev pub attachment_with : List ℕ → List AttItem → Option ℕ
attachment_with name items = position (λ (a : AttItem). bytes_eq (attachment_key a.entry.info) name) items

-- two dimensions have one name and start
abbrev pub has_axis : CodeDim → CodeDim → Bool
has_axis d e = bytes_eq d.name e.name && int_eq d.start e.start
