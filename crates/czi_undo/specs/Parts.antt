-- The inverses of commands, as they are told and as an image completes them.
use Rattle.std.specs.Prelude.{ℕ, ◌+◌, pos, List, [], ◌∷◌, ◌++◌, map, length, Bool, true, false, ◌&&◌, nat_le, nat_lt, Option, Some, None, bytes_eq, option_to_list}
use Rattle.czi_format.specs.Document.{Document}
use Rattle.czi_format.specs.Entry.{EntryInfo, AttInfo}
use Rattle.czi_format.specs.Layout.{Place}
use Rattle.czi_format.specs.Live.{Tile, tile, AttItem, att_item, MetaItem, meta_item}
use Rattle.czi_format.specs.Partial.{◌>>=◌, given}
use Rattle.czi_format.specs.Segment.{Segment, header_at, data_of, subblock_id, attachment_id, metadata_id}
use Rattle.czi_machine.specs.Change.{Change, bring, omit, past, into, out, brought, same, to, set_new}
use Rattle.czi_machine.specs.Formers.{Lain, Return, tile_place, attachment_place, metadata_place}

-- A segment that an undo may bring back: where it lies, the 32 bytes of its former header, and whether the walk stood on it as
-- it became held.
pub record HeldSegment : Type 0 where
  pub at : ℕ
  pub header : List ℕ
  pub walked : Bool

-- an item as it is told: the fields of its entry, and its segment
pub record Told (I : Type 0) : Type 0 where
  pub info : I
  pub held : HeldSegment

-- One inverse in a list: the item at a place goes, another one stands in its place, or one comes before it.
pub data ListPart (Y : Type 0) : Type 0 where
  drops : ℕ → ListPart Y
  puts : ℕ → Y → ListPart Y
  inserts : ℕ → Y → ListPart Y

-- One inverse: in the list of subblocks, in that of attachments, the metadata, or nothing at all.
pub data Part (S A M : Type 0) : Type 0 where
  in_tiles : ListPart S → Part S A M
  in_attachments : ListPart A → Part S A M
  no_metadata : Part S A M
  to_metadata : M → Part S A M
  unchanged : Part S A M

abbrev pub ToldPart : Type 0
ToldPart = Part (Told EntryInfo) (Told AttInfo) HeldSegment

abbrev pub LainPart : Type 0
LainPart = Part (Lain Tile) (Lain AttItem) (Lain MetaItem)

-- what undoes one command, and how many edits that takes back
pub record Command : Type 0 where
  pub parts : List ToldPart
  pub edits : ℕ

-- the change of the list
abbrev pub change_of : {Y : Type 0} → ListPart Y → Change Y
change_of (drops i) = out i
change_of (puts i y) = past i (bring y ∷ omit ∷ [])
change_of (inserts i y) = into i y

-- its place is in range in a list of this length
abbrev pub in_list : {Y : Type 0} → ListPart Y → ℕ → Bool
in_list (drops i) n = nat_lt i n
in_list (puts i y) n = nat_lt i n
in_list (inserts i y) n = nat_le i n

-- nothing is brought, kept or left out but what is there
abbrev pub no_return : ℕ → Return
no_return n = record { tiles = []; attachments = []; metadata = same; edits = n }

abbrev pub return_of : ℕ → LainPart → Return
return_of n (in_tiles p) = record { tiles = change_of p; attachments = []; metadata = same; edits = n }
return_of n (in_attachments p) = record { tiles = []; attachments = change_of p; metadata = same; edits = n }
return_of n no_metadata = record { tiles = []; attachments = []; metadata = to None; edits = n }
return_of n (to_metadata m) = record { tiles = []; attachments = []; metadata = to (Some m); edits = n }
return_of n unchanged = no_return n

-- where what is brought lies
abbrev pub return_places : Return → List Place
return_places r = map tile_place (brought r.tiles) ++ (map attachment_place (brought r.attachments) ++ map metadata_place (option_to_list (set_new r.metadata)))

-- The held segment, where it is sound: it has this id, and its extent lies in the image. Its header is the former one; the
-- image's bytes there aren't looked at.
abbrev pub held_in : List ℕ → List ℕ → HeldSegment → Option Segment
held_in image id h = do
  s ← header_at h.header 0
  given (bytes_eq s.id id && nat_le s.used s.allocated && nat_le (h.at + 32 + s.allocated) (length image)) (record { at = h.at; id = s.id; allocated = s.allocated; used = s.used })

-- the item, with its contents behind the header's place
abbrev pub lain_tile : List ℕ → Told EntryInfo → Option (Lain Tile)
lain_tile image t = do
  s ← held_in image subblock_id t.held
  x ← tile (record { info = t.info; position = pos t.held.at }) s (data_of image s)
  Some (record { item = x; walked = t.held.walked })

abbrev pub lain_attachment : List ℕ → Told AttInfo → Option (Lain AttItem)
lain_attachment image t = do
  s ← held_in image attachment_id t.held
  x ← att_item (record { info = t.info; position = pos t.held.at }) s (data_of image s)
  Some (record { item = x; walked = t.held.walked })

abbrev pub lain_metadata : List ℕ → HeldSegment → Option (Lain MetaItem)
lain_metadata image h = do
  s ← held_in image metadata_id h
  x ← meta_item s (data_of image s)
  Some (record { item = x; walked = h.walked })

abbrev pub lain_in : {T Y : Type 0} → (T → Option Y) → ListPart T → Option (ListPart Y)
lain_in read (drops i) = Some (drops i)
lain_in read (puts i t) = do
  y ← read t
  Some (puts i y)
lain_in read (inserts i t) = do
  y ← read t
  Some (inserts i y)

abbrev pub lain_part : List ℕ → ToldPart → Option LainPart
lain_part image (in_tiles p) = do
  q ← lain_in (lain_tile image) p
  Some (in_tiles q)
lain_part image (in_attachments p) = do
  q ← lain_in (lain_attachment image) p
  Some (in_attachments q)
lain_part image no_metadata = Some no_metadata
lain_part image (to_metadata h) = do
  m ← lain_metadata image h
  Some (to_metadata m)
lain_part image unchanged = Some unchanged

abbrev pub is_there : {X : Type 0} → Option X → Bool
is_there None = false
is_there (Some x) = true

-- its place is in range; metadata that go are there
abbrev pub in_range : {S A M : Type 0} → Part S A M → Document → Bool
in_range (in_tiles p) d = in_list p (length d.subblocks)
in_range (in_attachments p) d = in_list p (length d.attachments)
in_range no_metadata d = is_there d.metadata
in_range (to_metadata m) d = true
in_range unchanged d = true
