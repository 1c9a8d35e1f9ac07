-- What the pointers of the file header reach: the live segments, and what stands in them.
use Rattle.std.specs.Prelude.{◌≡◌, ℕ, ◌+◌, ◌*◌, ℤ, pos, List, ◌∷◌, ◌++◌, map, length, replicate, Bool, ◌&&◌, ◌||◌, ◌==◌, nat_le, bytes_eq, Option, option_map, option_to_list, FitsSigned}
use Rattle.std.specs.Int.{w32, w64}
use Rattle.czi_format.specs.Bytes.{bytes_at, i32_at, i64_at, i32_bytes, i64_bytes}
use Rattle.czi_format.specs.Partial.{◌>>=◌, given}
use Rattle.czi_format.specs.Segment.{Segment, header_at, header_bytes, data_of, file_id}
use Rattle.czi_format.specs.Entry.{Entry, A1}
use Rattle.czi_format.specs.Contents.{SubHead, sub_head, sub_end, MetaHead, meta_head, meta_end, att_size, entry_count}
use Rattle.czi_format.specs.Document.{Document, Subblock, Attachment, Metadata}
use Rattle.czi_format.specs.declared.numbers.TheConstants.{UPDATE_PENDING, LEAST_HEADER_DATA, FILE_PART, DIRECTORY_POSITION, METADATA_POSITION, ATTDIR_POSITION, HEADER_FRONT, DIRECTORY_FRONT, ATTDIR_FRONT, A1_LEN, CONTENTS}

pub record FileHeader : Type 0 where
  pub segment : Segment
  pub identity : List ℕ
  pub part : ℤ
  pub directory : ℤ
  pub metadata : ℤ
  pub attachments : ℤ

-- UpdatePending, which no other rule looks at
abbrev pub update_pending : List ℕ → ℤ
update_pending image = i32_at image UPDATE_PENDING

-- at least 80 bytes of data, and sound sizes; a UsedSize of 0 reads as AllocatedSize
abbrev pub has_header_sizes : Segment → Bool
has_header_sizes s = nat_le LEAST_HEADER_DATA s.allocated && ((s.used == 0) || (nat_le LEAST_HEADER_DATA s.used && nat_le s.used s.allocated))

-- the fields of a file header, beside its segment
abbrev pub header_fields : List ℕ → Segment → FileHeader
header_fields bytes segment = record {
  segment = segment;
  identity = bytes_at bytes 32 52;
  part = i32_at bytes FILE_PART;
  directory = i64_at bytes DIRECTORY_POSITION;
  metadata = i64_at bytes METADATA_POSITION;
  attachments = i64_at bytes ATTDIR_POSITION;
}

-- the file header at the front of the bytes; whether its extent lies in them isn't looked at
abbrev pub front_header : List ℕ → Option FileHeader
front_header bytes = do
  segment ← header_at bytes 0
  given (nat_le HEADER_FRONT (length bytes) && bytes_eq segment.id file_id && has_header_sizes segment) (header_fields bytes segment)

-- the file header at 0: its extent lies in the image
unfoldable pub file_header : List ℕ → Option FileHeader
file_header image = do
  header ← front_header image
  given (nat_le (32 + header.segment.allocated) (length image)) header

-- what the data of a file header says; FilePart is the end of the identity
pub record FileHead : Type 0 where
  pub identity : List ℕ
  pub directory : ℤ
  pub metadata : ℤ
  pub pending : ℤ
  pub attachments : ℤ

abbrev pub front_head : List ℕ → FileHead
front_head bytes = record {
  identity = bytes_at bytes 32 52;
  directory = i64_at bytes DIRECTORY_POSITION;
  metadata = i64_at bytes METADATA_POSITION;
  pending = i32_at bytes UPDATE_PENDING;
  attachments = i64_at bytes ATTDIR_POSITION;
}

-- a file header of 512 bytes of data, written
abbrev pub file_segment : Segment
file_segment = record { at = 0; id = file_id; allocated = 512; used = 512 }

abbrev pub file_header_bytes : FileHead → List ℕ
file_header_bytes h = header_bytes file_segment
    ++ (h.identity ++ (i64_bytes h.directory ++ (i64_bytes h.metadata ++ (i32_bytes h.pending ++ (i64_bytes h.attachments ++ replicate 432 0)))))

-- the file header that was written so
abbrev pub header_with : FileHead → FileHeader
header_with h = record { segment = file_segment; identity = h.identity; part = pos 0; directory = h.directory; metadata = h.metadata; attachments = h.attachments }

-- what can be written: the identity of a first part, and fields in their ranges
pub record IsFileHead (h : FileHead) : Type 0 where
  pub identity : length h.identity ≡ 52
  pub part : i32_at h.identity 48 ≡ pos 0
  pub directory : FitsSigned w64 h.directory
  pub metadata : FitsSigned w64 h.metadata
  pub pending : FitsSigned w32 h.pending
  pub attachments : FitsSigned w64 h.attachments

-- a directory of either kind, and its number of entries
pub record Directory : Type 0 where
  pub segment : Segment
  pub count : ℕ

-- EntryCount and the bytes reserved behind it are 128 bytes; then come the entries
unfoldable pub directory : Segment → List ℕ → Option Directory
directory segment bytes = do
  count ← entry_count bytes
  given (nat_le DIRECTORY_FRONT segment.allocated) (record { segment = segment; count = count })

-- the same with 256 bytes, and the entries end within AllocatedSize
unfoldable pub attachment_directory : Segment → List ℕ → Option Directory
attachment_directory segment bytes = do
  count ← entry_count bytes
  given (nat_le (ATTDIR_FRONT + A1_LEN * count) segment.allocated) (record { segment = segment; count = count })

-- a subblock: its entry, its segment, and where its contents lie in the data
pub record Tile : Type 0 where
  pub entry : Entry
  pub segment : Segment
  pub head : SubHead

-- the contents end within AllocatedSize
unfoldable pub tile : Entry → Segment → List ℕ → Option Tile
tile entry segment bytes = do
  head ← sub_head bytes
  given (nat_le (sub_end head) segment.allocated) (record { entry = entry; segment = segment; head = head })

-- an attachment: its entry, its segment, and its length
pub record AttItem : Type 0 where
  pub entry : A1
  pub segment : Segment
  pub size : ℕ

unfoldable pub att_item : A1 → Segment → List ℕ → Option AttItem
att_item entry segment bytes = do
  size ← att_size bytes
  given (nat_le (CONTENTS + size) segment.allocated) (record { entry = entry; segment = segment; size = size })

-- the metadata: its segment, and how long the XML and its attachment are
pub record MetaItem : Type 0 where
  pub segment : Segment
  pub head : MetaHead

unfoldable pub meta_item : Segment → List ℕ → Option MetaItem
meta_item segment bytes = do
  head ← meta_head bytes
  given (nat_le (meta_end head) segment.allocated) (record { segment = segment; head = head })

-- all that the pointers reach
pub record Live : Type 0 where
  pub header : FileHeader
  pub directory : Option Directory
  pub tiles : List Tile
  pub attdir : Option Directory
  pub attachments : List AttItem
  pub metadata : Option MetaItem

-- the live segments but the file header
abbrev pub reached : Live → List Segment
reached live = option_to_list (option_map (λ d. d.segment) live.directory)
    ++ (map (λ t. t.segment) live.tiles
    ++ (option_to_list (option_map (λ d. d.segment) live.attdir)
    ++ (map (λ a. a.segment) live.attachments
    ++ option_to_list (option_map (λ m. m.segment) live.metadata))))

-- the live segments
abbrev pub segments : Live → List Segment
segments live = live.header.segment ∷ reached live

-- the document that they hold
abbrev pub subblock_of : List ℕ → Tile → Subblock
subblock_of image t = record {
  info = t.entry.info;
  meta = bytes_at contents t.head.begin t.head.meta;
  pixels = bytes_at contents (t.head.begin + t.head.meta) t.head.pixels;
  tail = bytes_at contents (t.head.begin + t.head.meta + t.head.pixels) t.head.tail;
}
  where
    contents : List ℕ
    contents = data_of image t.segment

abbrev pub attachment_of : List ℕ → AttItem → Attachment
attachment_of image a = record { info = a.entry.info; bytes = bytes_at (data_of image a.segment) CONTENTS a.size }

abbrev pub metadata_of : List ℕ → MetaItem → Metadata
metadata_of image m = record {
  xml = bytes_at (data_of image m.segment) CONTENTS m.head.xml;
  tail = bytes_at (data_of image m.segment) (CONTENTS + m.head.xml) m.head.tail;
}

abbrev pub document : List ℕ → Live → Document
document image live = record {
  identity = live.header.identity;
  subblocks = map (subblock_of image) live.tiles;
  attachments = map (attachment_of image) live.attachments;
  metadata = option_map (metadata_of image) live.metadata;
}
