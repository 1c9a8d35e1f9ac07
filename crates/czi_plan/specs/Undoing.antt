-- What an inverse asks of an index and a map, and what its plan does on a state.
use Rattle.std.specs.Prelude.{◌≡◌, ⊤, ℕ, ◌+◌, ◌≤◌, ◌<◌, List, [], ◌∷◌, length, pos, slice_index_or, Some, None, Ok, Err, Result}
use Rattle.std.specs.Option.{IsSome}
use Rattle.czi_format.specs.Layout.{Layout, Place}
use Rattle.czi_format.specs.Live.{AttItem, Live, MetaItem, Tile}
use Rattle.czi_format.specs.Segment.{Segment, attachment_id, header_at, metadata_id, subblock_id}
use Rattle.czi_format.specs.Space.{Full}
use Rattle.czi_format.specs.Span.{end_of}
use Rattle.czi_doc.specs.View.{info_of}
use Rattle.czi_doc.specs.declared.items.AttInfo.{AttInfo}
use Rattle.czi_doc.specs.declared.items.EntryInfo.{EntryInfo}
use Rattle.czi_image.specs.Change.{live_change_of}
use Rattle.czi_image.specs.View.{att_item_of, meta_item_of, tile_of}
use Rattle.czi_image.specs.declared.change.Act.{Act as CodeAct}
use Rattle.czi_image.specs.declared.change.Act.TheVariants.{Into, Out, Put}
use Rattle.czi_image.specs.declared.change.Setting.{Setting as CodeSetting}
use Rattle.czi_image.specs.declared.change.Setting.TheVariants.{Same as Stays, To}
use Rattle.czi_image.specs.declared.index.Index.{Index}
use Rattle.czi_image.specs.declared.types.AttItem.{AttItem as CodeAttItem}
use Rattle.czi_image.specs.declared.types.MetaItem.{MetaItem as CodeMetaItem}
use Rattle.czi_image.specs.declared.types.Tile.{Tile as CodeTile}
use Rattle.czi_machine.specs.Edit.{DocumentEffect, after}
use Rattle.czi_machine.specs.Formers.{Lain, Return}
use Rattle.czi_machine.specs.Kept.{LiesWith}
use Rattle.czi_machine.specs.LiveChange.{LiveChange, SpansAt, changed_live}
use Rattle.czi_machine.specs.Places.{laid, undo_asks}
use Rattle.czi_machine.specs.Planned.{Brings, FindsAttachment, FindsMetadata, FindsTile, Plans, Sets}
use Rattle.czi_machine.specs.Cover.{cover}
use Rattle.czi_machine.specs.Sound.{usable_held}
use Rattle.czi_machine.specs.State.{Former, State, item_places, item_spans, items_of, not_among}
use Rattle.czi_machine.specs.Written.{Piece}
use Rattle.czi_num.specs.Span.{span_of}
use Rattle.czi_region.specs.declared.block.Region.{Region}
use Rattle.czi_space.specs.State.{MapState}
use Rattle.czi_undo.specs.Told.{Single, return_of_single}
use Rattle.czi_undo.specs.declared.held.HeldSegment.{HeldSegment}
use Rattle.czi_undo.specs.declared.inverse.Inverse.{Inverse}
use Rattle.czi_undo.specs.declared.inverse.Part.{Part}
use Rattle.czi_undo.specs.declared.inverse.Part.TheVariants.{DropSub, PutSub, InsertSub, DropAtt, PutAtt, InsertAtt, NoMeta, PutMeta, Same}
use Rattle.czi_undo.specs.Laws.{LiesBefore}
use Rattle.czi_undo.specs.Stands.{IsAttachment, IsMetadata, IsSingle, IsTile}
use Rattle.czi_plan.specs.Apart.{BringsApart}
use Rattle.czi_plan.specs.Conditions.{IsLeft, IsMapOf, LiesIn}
use Rattle.czi_plan.specs.Does.{layout_by}
use Rattle.czi_plan.specs.Kind.{IsOfKind}
use Rattle.czi_plan.specs.Pieces.{pieces_of}
use Rattle.czi_plan.specs.Plan.{left_items}
use Rattle.czi_plan.specs.declared.plan.EditPlan.{EditPlan}
use Rattle.czi_plan.specs.declared.plan.PlanFault.{PlanFault}
use Rattle.czi_plan.specs.declared.plan.PlanFault.TheVariants.{Full as Filled, Memory}
use Rattle.czi_format.specs.declared.numbers.TheConstants.{CONTENTS_PLACE, MOST_ATTACHMENTS, MOST_SUBBLOCKS}

abbrev pub place_of : HeldSegment → Place
place_of h = record { span = span_of h.span; walked = h.walked }

-- the lengths of its contents
abbrev pub size_in : HeldSegment → ℕ → ℕ
size_in h i = slice_index_or h.sizes i 0

-- A held segment of a kind: its header has that id and sound sizes, and gives its extent; and its contents lie in it, past
-- its first 32 bytes.
pub record IsSoundHeld (id : List ℕ) (h : HeldSegment) : Type 0 where
  pub segment : Segment
  pub head : header_at h.head 0 ≡ Some segment
  pub named : segment.id ≡ id
  pub sound : segment.used ≤ segment.allocated
  pub extent : h.span.len ≡ 32 + segment.allocated
  pub begins : h.span.at + 32 ≤ h.begin
  pub contents : h.begin + size_in h 0 + size_in h 1 + size_in h 2 ≤ end_of (span_of h.span)

-- It fits where it can also be live again.
pub record HeldFits (id : List ℕ) (x : Index) (m : MapState) (h : HeldSegment) : Type 0 where
  pub own : IsSoundHeld id h
  pub left : IsLeft x m (place_of h)

-- the contents of an attachment, and those of metadata, have a place of their own in the segment
abbrev pub BeginsAsKind : HeldSegment → Type 0
BeginsAsKind h = h.begin ≡ h.span.at + CONTENTS_PLACE

-- An inverse fits: its place is in range, the list that it gives is within its limit, metadata that go are there, and the
-- segment that it brings fits.
abbrev pub PartFits : Index → MapState → Part → Type 0
PartFits x m (DropSub place) = place < length x.tiles.items
PartFits x m (PutSub place info held) = (place < length x.tiles.items) × HeldFits subblock_id x m held
PartFits x m (InsertSub place info held) = (place ≤ length x.tiles.items) × (length x.tiles.items < MOST_SUBBLOCKS) × HeldFits subblock_id x m held
PartFits x m (DropAtt place) = place < length x.attachments.items
PartFits x m (PutAtt place info held) = (place < length x.attachments.items) × HeldFits attachment_id x m held × BeginsAsKind held
PartFits x m (InsertAtt place info held) = (place ≤ length x.attachments.items) × (length x.attachments.items < MOST_ATTACHMENTS) × HeldFits attachment_id x m held × BeginsAsKind held
PartFits x m NoMeta = IsSome x.metadata
PartFits x m (PutMeta held) = HeldFits metadata_id x m held × BeginsAsKind held
PartFits x m Same = ⊤

-- so does that of a single edit
pub record InverseFits (x : Index) (m : MapState) (i : Inverse) : Type 0 where
  pub part : Part
  pub only : i.parts.items ≡ part ∷ []
  pub fits : PartFits x m part

-- The item of a held segment, whatever it holds.
pub record IsTileBack (info : EntryInfo) (h : HeldSegment) (t : CodeTile) : Type 0 where
  pub span : t.span ≡ h.span
  pub walked : t.walked ≡ h.walked
  pub says : info_of t.info ≡ info_of info
  pub own : IsOfKind subblock_id (tile_of t).segment
  pub item : (y : Lain Tile) → IsTile info h y → IsOfKind subblock_id y.item.segment → y.item.entry.position ≡ pos y.item.segment.at → tile_of t ≡ y.item

pub record IsAttachmentBack (info : AttInfo) (h : HeldSegment) (i : CodeAttItem) : Type 0 where
  pub span : i.span ≡ h.span
  pub walked : i.walked ≡ h.walked
  pub own : IsOfKind attachment_id (att_item_of i).segment
  pub item : (y : Lain AttItem) → IsAttachment info h y → IsOfKind attachment_id y.item.segment → y.item.entry.position ≡ pos y.item.segment.at → att_item_of i ≡ y.item

pub record IsMetadataOf (h : HeldSegment) (i : CodeMetaItem) : Type 0 where
  pub span : i.span ≡ h.span
  pub walked : i.walked ≡ h.walked
  pub own : IsOfKind metadata_id (meta_item_of i).segment
  pub item : (y : Lain MetaItem) → IsMetadata h y → IsOfKind metadata_id y.item.segment → meta_item_of i ≡ y.item

-- What an inverse does with the subblocks, with the attachments, and with the metadata of an index.
abbrev pub IsTileAct : Part → CodeAct CodeTile → Type 0
IsTileAct (DropSub place) a = a ≡ Out place
IsTileAct (PutSub place info held) a = (t : CodeTile) × (a ≡ Put place t) × IsTileBack info held t
IsTileAct (InsertSub place info held) a = (t : CodeTile) × (a ≡ Into place t) × IsTileBack info held t
IsTileAct (DropAtt place) a = ⊥
IsTileAct (PutAtt place info held) a = ⊥
IsTileAct (InsertAtt place info held) a = ⊥
IsTileAct NoMeta a = ⊥
IsTileAct (PutMeta held) a = ⊥
IsTileAct Same a = ⊥

abbrev pub IsAttachmentAct : Part → CodeAct CodeAttItem → Type 0
IsAttachmentAct (DropSub place) a = ⊥
IsAttachmentAct (PutSub place info held) a = ⊥
IsAttachmentAct (InsertSub place info held) a = ⊥
IsAttachmentAct (DropAtt place) a = a ≡ Out place
IsAttachmentAct (PutAtt place info held) a = (i : CodeAttItem) × (a ≡ Put place i) × IsAttachmentBack info held i
IsAttachmentAct (InsertAtt place info held) a = (i : CodeAttItem) × (a ≡ Into place i) × IsAttachmentBack info held i
IsAttachmentAct NoMeta a = ⊥
IsAttachmentAct (PutMeta held) a = ⊥
IsAttachmentAct Same a = ⊥

abbrev pub IsMetadataSetting : Part → CodeSetting CodeMetaItem → Type 0
IsMetadataSetting (DropSub place) z = ⊥
IsMetadataSetting (PutSub place info held) z = ⊥
IsMetadataSetting (InsertSub place info held) z = ⊥
IsMetadataSetting (DropAtt place) z = ⊥
IsMetadataSetting (PutAtt place info held) z = ⊥
IsMetadataSetting (InsertAtt place info held) z = ⊥
IsMetadataSetting NoMeta z = z ≡ To None
IsMetadataSetting (PutMeta held) z = (i : CodeMetaItem) × (z ≡ To (Some i)) × IsMetadataOf held i
IsMetadataSetting Same z = z ≡ Stays

-- The contents of what comes back lie in the image, and the pieces put nothing over them.
pub record Finds (image : List ℕ) (t : LiveChange) (e : DocumentEffect) (pieces : List Piece) : Type 0 where
  pub tiles : Brings (FindsTile image pieces) t.tiles e.subblocks
  pub attachments : Brings (FindsAttachment image pieces) t.attachments e.attachments
  pub metadata : Sets (FindsMetadata image pieces) t.metadata e.metadata

-- On a state the plan is the undo of its newest former document: an effect that gives this document, whose layout is the
-- machine's, and whose pieces are what the machine asks for between the two layouts.
pub record UndoesIn (image : List ℕ) (live : Live) (s : State) (f : Former) (x : Index) (region : Region) (p : EditPlan) : Type 0 where
  pub goes : laid s (undo_asks s f) ≡ Ok (layout_by p s)
  pub effect : DocumentEffect
  pub document : f.document ≡ after effect s.document
  pub spans : SpansAt (layout_by p s) (changed_live (live_change_of p.change x) live)
  pub plans : Plans image s.layout (layout_by p s) live effect (live_change_of p.change x) (pieces_of region p)
  -- it brings nothing anew, and what comes back lies where no item is live
  pub finds : Finds image (live_change_of p.change x) effect (pieces_of region p)
  pub apart : BringsApart live (live_change_of p.change x)
  -- the items of the state that aren't live afterwards are those that leave
  pub leaves : not_among (item_spans (items_of (layout_by p s))) (item_places (items_of s.layout)) ≡ left_items p.change x

-- a state that lies in the index and the map, and that this inverse brings back
pub record Undone (image : List ℕ) (live : Live) (s : State) (x : Index) (m : MapState) (i : Inverse) (o : Single) (returns : List Return) (f : Former) (formers : List Former) : Type 0 where
  pub lies : LiesIn image live s x m
  pub single : IsSingle i o
  pub back : LiesWith image live s (return_of_single o ∷ returns)
  pub newest : s.formers ≡ f ∷ formers

-- so it is on every such state
abbrev pub Undoes : Index → MapState → Inverse → Region → EditPlan → Type 0
Undoes x m i region p = (image : List ℕ) (live : Live) (s : State) (o : Single) (returns : List Return) (f : Former) (formers : List Former) → Undone image live s x m i o returns f formers → UndoesIn image live s f x region p

-- There is no plan exactly where the machine has no place: memory is never wanting.
abbrev pub IsFullUndo : PlanFault → Result Layout Full → Type 0
IsFullUndo (Filled need length) laid = laid ≡ Err (record { need = need; length = length })
IsFullUndo Memory laid = ⊥

abbrev pub HasNoUndo : Index → MapState → Inverse → PlanFault → Type 0
HasNoUndo x m i fault = (image : List ℕ) (live : Live) (s : State) (o : Single) (returns : List Return) (f : Former) (formers : List Former) → Undone image live s x m i o returns f formers → IsFullUndo fault (laid s (undo_asks s f))

-- The newest inverse of a state fits, where the map holds whatever an undo may use again.
abbrev pub NewestFits : Type 0
NewestFits = (image : List ℕ) (live : Live) (s : State) (x : Index) (m : MapState) (i : Inverse) (o : Single) (os : List Single) → LiesIn image live s x m → IsMapOf x m → LiesBefore image live s (o ∷ os) → IsSingle i o
    → ((q : ℕ) → 1 ≤ cover (usable_held s) q → 1 ≤ cover m.held q) → InverseFits x m i
