-- The inverses of the code, as those of single edits with their items where they lie.
use Rattle.std.specs.Prelude.{◌≡◌, ⊤, ◌+◌, List, [], ◌∷◌, map, Bool}
use Rattle.czi_doc.specs.View.{att_of, info_of}
use Rattle.czi_doc.specs.declared.items.AttInfo.{AttInfo as CodeAttInfo}
use Rattle.czi_doc.specs.declared.items.EntryInfo.{EntryInfo as CodeEntryInfo}
use Rattle.czi_format.specs.Live.{Tile, AttItem, MetaItem}
use Rattle.czi_format.specs.Segment.{Segment, extent, header_bytes}
use Rattle.czi_machine.specs.Formers.{Lain}
use Rattle.czi_num.specs.Span.{span_of}
use Rattle.czi_undo.specs.Parts.{LainPart, drops, in_attachments, in_tiles, inserts, no_metadata, puts, to_metadata, unchanged}
use Rattle.czi_undo.specs.Told.{Single, tells_single}
use Rattle.czi_undo.specs.View.{told}
use Rattle.czi_undo.specs.declared.held.HeldSegment.{HeldSegment as CodeHeld}
use Rattle.czi_undo.specs.declared.inverse.Inverse.{Inverse}
use Rattle.czi_undo.specs.declared.inverse.Part.{Part}
use Rattle.czi_undo.specs.declared.inverse.Part.TheVariants.{DropSub, PutSub, InsertSub, DropAtt, PutAtt, InsertAtt, NoMeta, PutMeta, Same}
use Rattle.czi_format.specs.declared.numbers.TheConstants.{CONTENTS_PLACE}

-- A held segment of the code: its extent, its header, and the mark of the walk.
pub record IsHeld (h : CodeHeld) (s : Segment) (on : Bool) : Type 0 where
  pub span : span_of h.span ≡ extent s
  pub head : h.head ≡ header_bytes s
  pub walked : h.walked ≡ on

-- with the place and the lengths of a subblock's contents, of an attachment's, and of those of metadata
pub record IsTile (i : CodeEntryInfo) (h : CodeHeld) (y : Lain Tile) : Type 0 where
  pub info : info_of i ≡ y.item.entry.info
  pub held : IsHeld h y.item.segment y.walked
  pub begin : h.begin ≡ y.item.segment.at + 32 + y.item.head.begin
  pub sizes : h.sizes ≡ y.item.head.meta ∷ y.item.head.pixels ∷ y.item.head.tail ∷ []

pub record IsAttachment (i : CodeAttInfo) (h : CodeHeld) (y : Lain AttItem) : Type 0 where
  pub info : att_of i ≡ y.item.entry.info
  pub held : IsHeld h y.item.segment y.walked
  pub begin : h.begin ≡ y.item.segment.at + CONTENTS_PLACE
  pub sizes : h.sizes ≡ y.item.size ∷ 0 ∷ 0 ∷ []

pub record IsMetadata (h : CodeHeld) (y : Lain MetaItem) : Type 0 where
  pub held : IsHeld h y.item.segment y.walked
  pub begin : h.begin ≡ y.item.segment.at + CONTENTS_PLACE
  pub sizes : h.sizes ≡ y.item.head.xml ∷ y.item.head.tail ∷ 0 ∷ []

-- one inverse of the code, with the item that it brings
abbrev pub IsPart : Part → LainPart → Type 0
IsPart (DropSub place) q = q ≡ in_tiles (drops place)
IsPart (PutSub place info held) q = (y : Lain Tile) × (q ≡ in_tiles (puts place y)) × IsTile info held y
IsPart (InsertSub place info held) q = (y : Lain Tile) × (q ≡ in_tiles (inserts place y)) × IsTile info held y
IsPart (DropAtt place) q = q ≡ in_attachments (drops place)
IsPart (PutAtt place info held) q = (y : Lain AttItem) × (q ≡ in_attachments (puts place y)) × IsAttachment info held y
IsPart (InsertAtt place info held) q = (y : Lain AttItem) × (q ≡ in_attachments (inserts place y)) × IsAttachment info held y
IsPart NoMeta q = q ≡ no_metadata
IsPart (PutMeta held) q = (y : Lain MetaItem) × (q ≡ to_metadata y) × IsMetadata held y
IsPart Same q = q ≡ unchanged

-- the inverse of a single edit
pub record IsSingle (i : Inverse) (o : Single) : Type 0 where
  pub part : Part
  pub only : i.parts.items ≡ part ∷ []
  pub is : IsPart part o.part
  pub edits : i.edits ≡ o.edits

abbrev pub AreSingle : List Inverse → List Single → Type 0
AreSingle [] [] = ⊤
AreSingle [] (o ∷ os) = ⊥
AreSingle (i ∷ is) [] = ⊥
AreSingle (i ∷ is) (o ∷ os) = IsSingle i o × AreSingle is os

-- a list of them tells what these tell
abbrev pub SinglesTold : Type 0
SinglesTold = (is : List Inverse) (os : List Single) → AreSingle is os → told is ≡ map tells_single os
