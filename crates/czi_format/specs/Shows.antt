-- A byte list shows a document.
use Rattle.std.specs.Prelude.{◌≡◌, ℕ, ◌+◌, ◌≤◌, ◌^◌, pos, List, [], map, drop, Option, Some, None, Result, Ok}
use Rattle.czi_format.specs.Partial.{none_or}
use Rattle.czi_format.specs.FirstFault.{one_after_another}
use Rattle.czi_format.specs.Span.{AreDisjoint}
use Rattle.czi_format.specs.Segment.{extent, data_of, in_segment, directory_id, subblock_id, attachment_id, attdir_id, metadata_id}
use Rattle.czi_format.specs.Entry.{Entry, entry, entry_len, A1, a1, a1_len}
use Rattle.czi_format.specs.Document.{Document}
use Rattle.czi_format.specs.Live.{Live, Directory, Tile, AttItem, file_header, directory, attachment_directory, tile, att_item, meta_item, segments, document}
use Rattle.czi_format.specs.declared.numbers.TheConstants.{DIRECTORY_ENTRIES, DIRECTORY_FRONT, ATTDIR_ENTRIES, ATTDIR_FRONT}

-- how many entries a directory has
abbrev pub count_of : Option Directory → ℕ
count_of None = 0
count_of (Some d) = d.count

-- the entries of the directory, or the place of the first that isn't one
abbrev pub entries : List ℕ → Option Directory → Result (List Entry) ℕ
entries image None = Ok []
entries image (Some d) = one_after_another entry entry_len (λ at. at) d.count (d.segment.at + DIRECTORY_ENTRIES) (drop DIRECTORY_FRONT (data_of image d.segment))

-- the same of the attachment directory
abbrev pub a1_entries : List ℕ → Option Directory → Result (List A1) ℕ
a1_entries image None = Ok []
a1_entries image (Some d) = one_after_another a1 a1_len (λ at. at) d.count (d.segment.at + ATTDIR_ENTRIES) (drop ATTDIR_FRONT (data_of image d.segment))

-- the subblock, and the attachment, at an entry's position
abbrev pub subblock_at : List ℕ → Entry → Option Tile
subblock_at image e = in_segment image subblock_id e.position (tile e)

abbrev pub attachment_at : List ℕ → A1 → Option AttItem
attachment_at image a = in_segment image attachment_id a.position (att_item a)

-- The pointers of the image's file header reach this: the header at 0 with FilePart 0; the directories and the metadata,
-- none or sound segments of their ids; at each entry of a directory, in order, the sound segment at its position, whose
-- contents end within it. All extents are pairwise disjoint.
pub record Reaches (image : List ℕ) (live : Live) : Type 0 where
  pub header : file_header image ≡ Some live.header
  pub part : live.header.part ≡ pos 0
  pub directory : none_or live.header.directory (in_segment image directory_id live.header.directory directory) ≡ Some live.directory
  pub few : count_of live.directory ≤ 2 ^ 20
  pub entries : entries image live.directory ≡ Ok (map (λ t. t.entry) live.tiles)
  pub tiles : map (λ t. subblock_at image t.entry) live.tiles ≡ map Some live.tiles
  pub attdir : none_or live.header.attachments (in_segment image attdir_id live.header.attachments attachment_directory) ≡ Some live.attdir
  pub few_attachments : count_of live.attdir ≤ 2 ^ 12
  pub a1_entries : a1_entries image live.attdir ≡ Ok (map (λ a. a.entry) live.attachments)
  pub attachments : map (λ a. attachment_at image a.entry) live.attachments ≡ map Some live.attachments
  pub metadata : none_or live.header.metadata (in_segment image metadata_id live.header.metadata meta_item) ≡ Some live.metadata
  pub disjoint : AreDisjoint (map extent (segments live))

-- The image shows this document.
abbrev pub Shows : List ℕ → Document → Type 0
Shows image d = (live : Live) × Reaches image live × (d ≡ document image live)
