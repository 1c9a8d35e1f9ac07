-- What undoes a task.
use Rattle.std.specs.Prelude.{◌≡◌, List, length, Option, None, Some}
use Rattle.czi_format.specs.Live.{Tile, AttItem, MetaItem}
use Rattle.czi_image.specs.View.{att_item_of, meta_item_of, tile_of}
use Rattle.czi_image.specs.declared.index.Index.{Index}
use Rattle.czi_image.specs.declared.types.AttItem.{AttItem as CodeAttItem}
use Rattle.czi_image.specs.declared.types.MetaItem.{MetaItem as CodeMetaItem}
use Rattle.czi_image.specs.declared.types.Tile.{Tile as CodeTile}
use Rattle.czi_machine.specs.Formers.{Lain}
use Rattle.czi_undo.specs.Laws.{ItemAt}
use Rattle.czi_undo.specs.Parts.{LainPart, drops, in_attachments, in_tiles, inserts, no_metadata, puts, to_metadata}
use Rattle.czi_undo.specs.Stands.{IsPart, IsSingle}
use Rattle.czi_undo.specs.Told.{Single}
use Rattle.czi_undo.specs.declared.inverse.Inverse.{Inverse}
use Rattle.czi_undo.specs.declared.inverse.Part.{Part}
use Rattle.czi_engine.specs.declared.planning.Task.{Task}
use Rattle.czi_engine.specs.declared.planning.Task.TheVariants.{Add, Attach, Detach, Reattach, Remove, Replace, SetMeta}

-- items where they lie, as an index has them
abbrev pub lain_tile : CodeTile → Lain Tile
lain_tile t = record { item = tile_of t; walked = t.walked }

abbrev pub lain_attachment : CodeAttItem → Lain AttItem
lain_attachment a = record { item = att_item_of a; walked = a.walked }

abbrev pub lain_metadata : CodeMetaItem → Lain MetaItem
lain_metadata m = record { item = meta_item_of m; walked = m.walked }

-- what brings back the metadata that there were
abbrev pub metadata_back : Option CodeMetaItem → LainPart
metadata_back None = no_metadata
metadata_back (Some m) = to_metadata (lain_metadata m)

-- what undoes a task: what comes goes again, and what leaves comes back to its place
abbrev pub IsUndoneBy : Task → Index → LainPart → Type 0
IsUndoneBy (Add new) x q = q ≡ in_tiles (drops (length x.tiles.items))
IsUndoneBy (Replace i new) x q = (t : CodeTile) × ItemAt i t x.tiles.items × (q ≡ in_tiles (puts i (lain_tile t)))
IsUndoneBy (Remove i) x q = (t : CodeTile) × ItemAt i t x.tiles.items × (q ≡ in_tiles (inserts i (lain_tile t)))
IsUndoneBy (Attach info bytes) x q = q ≡ in_attachments (drops (length x.attachments.items))
IsUndoneBy (Reattach i info bytes) x q = (a : CodeAttItem) × ItemAt i a x.attachments.items × (q ≡ in_attachments (puts i (lain_attachment a)))
IsUndoneBy (Detach i) x q = (a : CodeAttItem) × ItemAt i a x.attachments.items × (q ≡ in_attachments (inserts i (lain_attachment a)))
IsUndoneBy (SetMeta xml tail) x q = q ≡ metadata_back x.metadata

-- a part that does so, and the inverse of which it is the only one
abbrev pub PartUndoes : Task → Index → Part → Type 0
PartUndoes task x part = (q : LainPart) × IsPart part q × IsUndoneBy task x q

abbrev pub InverseUndoes : Task → Index → Inverse → Type 0
InverseUndoes task x inverse = (o : Single) × IsSingle inverse o × IsUndoneBy task x o.part × (o.edits ≡ 1)
