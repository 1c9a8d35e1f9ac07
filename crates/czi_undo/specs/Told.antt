-- The inverses of single edits, with their items where they lie, and what is told of them.
use Rattle.std.specs.Prelude.{◌≡◌, ⊤, ℕ, List, [], ◌∷◌, length, Bool, true, ◌&&◌, nat_le}
use Rattle.czi_format.specs.Document.{Document}
use Rattle.czi_format.specs.Entry.{EntryInfo, AttInfo}
use Rattle.czi_format.specs.Live.{Tile, AttItem, MetaItem}
use Rattle.czi_format.specs.Segment.{Segment, header_bytes}
use Rattle.czi_machine.specs.Formers.{Lain, Return}
use Rattle.czi_machine.specs.State.{Former}
use Rattle.czi_undo.specs.Parts.{HeldSegment, Told, ListPart, drops, puts, inserts, ToldPart, LainPart, in_tiles, in_attachments, no_metadata, to_metadata, unchanged, Command, return_of, in_range}
use Rattle.czi_format.specs.declared.numbers.TheConstants.{MOST_ATTACHMENTS, MOST_SUBBLOCKS}

-- each segment by its place and its header
abbrev pub tells_segment : Segment → Bool → HeldSegment
tells_segment s walked = record { at = s.at; header = header_bytes s; walked = walked }

abbrev pub tells_tile : Lain Tile → Told EntryInfo
tells_tile y = record { info = y.item.entry.info; held = tells_segment y.item.segment y.walked }

abbrev pub tells_attachment : Lain AttItem → Told AttInfo
tells_attachment y = record { info = y.item.entry.info; held = tells_segment y.item.segment y.walked }

abbrev pub tells_metadata : Lain MetaItem → HeldSegment
tells_metadata y = tells_segment y.item.segment y.walked

abbrev pub tells_list : {Y T : Type 0} → (Y → T) → ListPart Y → ListPart T
tells_list f (drops i) = drops i
tells_list f (puts i y) = puts i (f y)
tells_list f (inserts i y) = inserts i (f y)

abbrev pub tells : LainPart → ToldPart
tells (in_tiles p) = in_tiles (tells_list tells_tile p)
tells (in_attachments p) = in_attachments (tells_list tells_attachment p)
tells no_metadata = no_metadata
tells (to_metadata m) = to_metadata (tells_metadata m)
tells unchanged = unchanged

-- The inverse of a single edit, and how many edits it takes back.
pub record Single : Type 0 where
  pub part : LainPart
  pub edits : ℕ

abbrev pub tells_single : Single → Command
tells_single o = record { parts = tells o.part ∷ []; edits = o.edits }

abbrev pub return_of_single : Single → Return
return_of_single o = return_of o.edits o.part

-- the limits of a document's lists
abbrev pub few_items : Document → Bool
few_items d = nat_le (length d.subblocks) MOST_SUBBLOCKS && nat_le (length d.attachments) MOST_ATTACHMENTS

-- their places are in range, and former documents aren't too long
abbrev pub FitAll : Former → List Single → List Former → Type 0
FitAll newer [] [] = ⊤
FitAll newer [] (f ∷ fs) = ⊥
FitAll newer (o ∷ os) [] = ⊥
FitAll newer (o ∷ os) (f ∷ fs) = (in_range o.part newer.document ≡ true) × (few_items f.document ≡ true) × FitAll f os fs
