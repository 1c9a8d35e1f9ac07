-- The plan of any command, as pieces: what each segment that it brings holds, and what is written beside them.
use Rattle.std.specs.Prelude.{◌≡◌, ◌⊎◌, ⊤, ℕ, ◌+◌, ◌*◌, ◌≤◌, ◌<◌, ◌^◌, pos, List, [], ◌∷◌, map, length, Option, Some, None}
use Rattle.std.specs.List.{AllByRecursion}
use Rattle.czi_format.specs.Document.{Subblock, Attachment, Metadata}
use Rattle.czi_format.specs.Entry.{Entry, IsEntry, A1, IsA1}
use Rattle.czi_format.specs.Layout.{Layout}
use Rattle.czi_format.specs.Live.{Live, Directory, Tile, tile, AttItem, att_item, MetaItem, meta_item, subblock_of, attachment_of, metadata_of}
use Rattle.czi_format.specs.Segment.{data_of, directory_id, subblock_id, attdir_id, attachment_id, metadata_id}
use Rattle.czi_machine.specs.Change.{Act, keep, omit, bring, Setting, same, to}
use Rattle.czi_format.specs.Data.{directory_data, attdir_data, subblock_data, attachment_data, metadata_data}
use Rattle.czi_machine.specs.Edit.{DocumentEffect, after}
use Rattle.czi_machine.specs.Laws.{Lies, LiesInImage, Leads}
use Rattle.czi_machine.specs.Patch.{PatchesDirectory, PatchesAttdir}
use Rattle.czi_machine.specs.Puts.{PutsSegment, PutsHeader, IsSubblock, IsAttachment, IsMetadata}
use Rattle.czi_machine.specs.Sound.{IsDisjointState, IsGaplessState}
use Rattle.czi_machine.specs.State.{State}
use Rattle.czi_machine.specs.LiveChange.{LiveChange, changed_live, effect_of, SpansAt}
use Rattle.czi_machine.specs.Writes.{WritesAround}
use Rattle.czi_machine.specs.Written.{Piece, Wrote}
use Rattle.czi_format.specs.declared.numbers.TheConstants.{DIRECTORY_FRONT, ATTDIR_FRONT, A1_LEN, MOST_SUBBLOCKS, MOST_ATTACHMENTS}

-- one change brings items, and the other their contents
abbrev pub Brings : {X Y : Type 0} → (X → Y → Type 0) → List (Act X) → List (Act Y) → Type 0
Brings P [] [] = ⊤
Brings P [] (b ∷ d) = ⊥
Brings P (a ∷ c) [] = ⊥
Brings P (keep ∷ c) (keep ∷ d) = Brings P c d
Brings P (keep ∷ c) (omit ∷ d) = ⊥
Brings P (keep ∷ c) (bring y ∷ d) = ⊥
Brings P (omit ∷ c) (keep ∷ d) = ⊥
Brings P (omit ∷ c) (omit ∷ d) = Brings P c d
Brings P (omit ∷ c) (bring y ∷ d) = ⊥
Brings P (bring x ∷ c) (keep ∷ d) = ⊥
Brings P (bring x ∷ c) (omit ∷ d) = ⊥
Brings P (bring x ∷ c) (bring y ∷ d) = P x y × Brings P c d

abbrev pub Sets : {X Y : Type 0} → (X → Y → Type 0) → Setting X → Setting Y → Type 0
Sets P same same = ⊤
Sets P same (to d) = ⊥
Sets P (to c) same = ⊥
Sets P (to None) (to None) = ⊤
Sets P (to None) (to (Some y)) = ⊥
Sets P (to (Some x)) (to None) = ⊥
Sets P (to (Some x)) (to (Some y)) = P x y

-- A subblock that is written, with its data's length without padding as UsedSize, and one of which the data lies in the image.
pub record WritesTile (pieces : List Piece) (x : Tile) (s : Subblock) : Type 0 where
  pub item : IsSubblock x s
  pub used : x.segment.used ≡ length (subblock_data x.entry s 0)
  pub padding : ℕ
  pub puts : PutsSegment pieces x.segment (subblock_data x.entry s padding)

pub record FindsTile (image : List ℕ) (pieces : List Piece) (x : Tile) (s : Subblock) : Type 0 where
  pub id : x.segment.id ≡ subblock_id
  pub sound : x.segment.used ≤ x.segment.allocated
  pub position : x.entry.position ≡ pos x.segment.at
  pub reads : tile x.entry x.segment (data_of image x.segment) ≡ Some x
  pub contents : subblock_of image x ≡ s
  pub inside : x.segment.at + 32 + x.segment.allocated ≤ length image
  pub puts : PutsHeader pieces x.segment

abbrev pub BringsTile : List ℕ → List Piece → Tile → Subblock → Type 0
BringsTile image pieces x s = WritesTile pieces x s ⊎ FindsTile image pieces x s

-- an attachment
pub record WritesAttachment (pieces : List Piece) (x : AttItem) (a : Attachment) : Type 0 where
  pub item : IsAttachment x a
  pub used : x.segment.used ≡ length (attachment_data x.entry a.bytes 0)
  pub padding : ℕ
  pub puts : PutsSegment pieces x.segment (attachment_data x.entry a.bytes padding)

pub record FindsAttachment (image : List ℕ) (pieces : List Piece) (x : AttItem) (a : Attachment) : Type 0 where
  pub id : x.segment.id ≡ attachment_id
  pub sound : x.segment.used ≤ x.segment.allocated
  pub position : x.entry.position ≡ pos x.segment.at
  pub reads : att_item x.entry x.segment (data_of image x.segment) ≡ Some x
  pub contents : attachment_of image x ≡ a
  pub inside : x.segment.at + 32 + x.segment.allocated ≤ length image
  pub puts : PutsHeader pieces x.segment

abbrev pub BringsAttachment : List ℕ → List Piece → AttItem → Attachment → Type 0
BringsAttachment image pieces x a = WritesAttachment pieces x a ⊎ FindsAttachment image pieces x a

-- the metadata
pub record WritesMetadata (pieces : List Piece) (x : MetaItem) (m : Metadata) : Type 0 where
  pub item : IsMetadata x m
  pub used : x.segment.used ≡ length (metadata_data m 0)
  pub padding : ℕ
  pub puts : PutsSegment pieces x.segment (metadata_data m padding)

pub record FindsMetadata (image : List ℕ) (pieces : List Piece) (x : MetaItem) (m : Metadata) : Type 0 where
  pub id : x.segment.id ≡ metadata_id
  pub sound : x.segment.used ≤ x.segment.allocated
  pub reads : meta_item x.segment (data_of image x.segment) ≡ Some x
  pub contents : metadata_of image x ≡ m
  pub inside : x.segment.at + 32 + x.segment.allocated ≤ length image
  pub puts : PutsHeader pieces x.segment

abbrev pub BringsMetadata : List ℕ → List Piece → MetaItem → Metadata → Type 0
BringsMetadata image pieces x m = WritesMetadata pieces x m ⊎ FindsMetadata image pieces x m

-- A directory that is written.
pub record WritesDirectory (pieces : List Piece) (d : Directory) (es : List Entry) : Type 0 where
  pub id : d.segment.id ≡ directory_id
  pub used : d.segment.used ≡ length (directory_data es 0)
  pub room : DIRECTORY_FRONT ≤ d.segment.allocated
  pub count : d.count ≡ length es
  pub few : length es ≤ MOST_SUBBLOCKS
  pub entries : AllByRecursion IsEntry es
  pub padding : ℕ
  pub puts : PutsSegment pieces d.segment (directory_data es padding)

pub record WritesAttdir (pieces : List Piece) (d : Directory) (es : List A1) : Type 0 where
  pub id : d.segment.id ≡ attdir_id
  pub used : d.segment.used ≡ length (attdir_data es 0)
  pub room : ATTDIR_FRONT + A1_LEN * length es ≤ d.segment.allocated
  pub count : d.count ≡ length es
  pub few : length es ≤ MOST_ATTACHMENTS
  pub entries : AllByRecursion IsA1 es
  pub padding : ℕ
  pub puts : PutsSegment pieces d.segment (attdir_data es padding)

-- The items that a directory lists: where it stays, so do they; else it is new, or changed in place.
abbrev pub ListsTiles : List Piece → Setting Directory → Option Directory → List Tile → List Tile → Type 0
ListsTiles pieces same was old new = new ≡ old
ListsTiles pieces (to None) was old new = new ≡ []
ListsTiles pieces (to (Some d)) was old new = WritesDirectory pieces d (map (λ (x : Tile). x.entry) new) ⊎ PatchesDirectory pieces was d (map (λ (x : Tile). x.entry) old) (map (λ (x : Tile). x.entry) new)

abbrev pub ListsAttachments : List Piece → Setting Directory → Option Directory → List AttItem → List AttItem → Type 0
ListsAttachments pieces same was old new = new ≡ old
ListsAttachments pieces (to None) was old new = new ≡ []
ListsAttachments pieces (to (Some d)) was old new = WritesAttdir pieces d (map (λ (x : AttItem). x.entry) new) ⊎ PatchesAttdir pieces was d (map (λ (x : AttItem). x.entry) old) (map (λ (x : AttItem). x.entry) new)

-- The plan of what becomes of a document, and of what is live, between two layouts. Of the image it names the bytes of what
-- goes back alone.
pub record Plans (image : List ℕ) (l l' : Layout) (live : Live) (e : DocumentEffect) (t : LiveChange) (pieces : List Piece) : Type 0 where
  pub directory : ListsTiles pieces t.directory live.directory live.tiles (changed_live t live).tiles
  pub tiles : Brings (BringsTile image pieces) t.tiles e.subblocks
  pub attdir : ListsAttachments pieces t.attdir live.attdir live.attachments (changed_live t live).attachments
  pub attachments : Brings (BringsAttachment image pieces) t.attachments e.attachments
  pub metadata : Sets (BringsMetadata image pieces) t.metadata e.metadata
  pub around : WritesAround live.header t l l' pieces
  pub small : l'.length < 2 ^ 63

-- After a command's plan was written, the image shows the document of the state to which the command leads, has that state's
-- layout, and is steady.
abbrev pub Planned : Type 0
Planned = (image other : List ℕ) (s s' : State) (live : Live) (e : DocumentEffect) (t : LiveChange) (pieces : List Piece) → Lies image live s → IsGaplessState s → Leads s s'
    → SpansAt s'.layout (changed_live t live) → s'.document ≡ after e s.document → Plans image s.layout s'.layout live e t pieces
    → Wrote image other pieces → length other ≡ s'.layout.length → (effect_of other t ≡ e) × Lies other (changed_live t live) s'

-- the same of any image
abbrev pub PlannedAnywhere : Type 0
PlannedAnywhere = (image other : List ℕ) (s s' : State) (live : Live) (e : DocumentEffect) (t : LiveChange) (pieces : List Piece) → LiesInImage image live s → IsDisjointState s → Leads s s'
    → SpansAt s'.layout (changed_live t live) → s'.document ≡ after e s.document → Plans image s.layout s'.layout live e t pieces
    → Wrote image other pieces → length other ≡ s'.layout.length → (effect_of other t ≡ e) × LiesInImage other (changed_live t live) s'
