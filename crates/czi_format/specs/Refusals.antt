-- The rules of reading, in order: the first that fails refuses.
use Rattle.std.specs.Prelude.{◌≡◌, ℕ, ◌^◌, ℤ, pos, List, [], ◌∷◌, map, Option, Some, None, ok_or, Result, Ok, Err, nat_le, if◌then◌else◌}
use Rattle.czi_format.specs.Partial.{none_or, is_zero}
use Rattle.czi_format.specs.FirstFault.{◌>>=◌, ◌>>◌, unless, each, with_fault}
use Rattle.czi_format.specs.Span.{Span, meets, span_le, sorted}
use Rattle.czi_format.specs.Segment.{extent, in_segment, directory_id, attdir_id, metadata_id}
use Rattle.czi_format.specs.Live.{Live, FileHeader, Directory, Tile, AttItem, MetaItem, file_header, update_pending, directory, attachment_directory, meta_item, segments}
use Rattle.czi_format.specs.Shows.{count_of, entries, a1_entries, subblock_at, attachment_at}

pub data Refusal : Type 0 where
  not_czi : Refusal
  multi_part : ℤ → Refusal
  pending : ℤ → Refusal
  bad_directory : ℤ → Refusal
  too_many : ℤ → ℕ → Refusal
  bad_entry : ℤ → Refusal
  bad_segment : ℤ → Refusal
  bad_attachment : ℤ → Refusal
  overlap : Span → Span → Refusal

-- the first neighbours that meet
abbrev pub first_meeting : List Span → Option Refusal
first_meeting [] = None
first_meeting (a ∷ []) = None
first_meeting (a ∷ b ∷ rest) = if meets a b then Some (overlap a b) else first_meeting (b ∷ rest)

-- the file header at 0, of a first part and with no update pending
unfoldable pub first_rules : List ℕ → Result FileHeader Refusal
first_rules image = do
  header ← ok_or (file_header image) not_czi
  unless (is_zero header.part) (multi_part header.part)
  unless (is_zero (update_pending image)) (pending (update_pending image))
  Ok header

-- a directory, if there is one, and the subblocks at its entries
pub record Tiles : Type 0 where
  pub directory : Option Directory
  pub tiles : List Tile

-- the directory at a position, its entries, and the subblocks at them
unfoldable pub tile_rules : List ℕ → ℤ → Result Tiles Refusal
tile_rules image position = do
  dir ← ok_or (none_or position (in_segment image directory_id position directory)) (bad_directory position)
  unless (nat_le (count_of dir) (2 ^ 20)) (too_many position (count_of dir))
  dvs ← with_fault (λ at. bad_entry (pos at)) (entries image dir)
  tiles ← each (subblock_at image) (λ e. bad_segment e.position) dvs
  Ok (record { directory = dir; tiles = tiles })

-- the same of attachments
pub record Attachments : Type 0 where
  pub directory : Option Directory
  pub items : List AttItem

unfoldable pub attachment_rules : List ℕ → ℤ → Result Attachments Refusal
attachment_rules image position = do
  dir ← ok_or (none_or position (in_segment image attdir_id position attachment_directory)) (bad_attachment position)
  unless (nat_le (count_of dir) (2 ^ 12)) (too_many position (count_of dir))
  a1s ← with_fault (λ at. bad_attachment (pos at)) (a1_entries image dir)
  items ← each (attachment_at image) (λ a. bad_attachment a.position) a1s
  Ok (record { directory = dir; items = items })

-- the metadata at a position
unfoldable pub metadata_rule : List ℕ → ℤ → Result (Option MetaItem) Refusal
metadata_rule image position = ok_or (none_or position (in_segment image metadata_id position meta_item)) (bad_segment position)

-- what the image's pointers reach, or the refusal of the first rule that fails, but for the last: the extents may meet
unfoldable pub reads_but_overlap : List ℕ → Result Live Refusal
reads_but_overlap image = do
  header ← first_rules image
  tiled ← tile_rules image header.directory
  attached ← attachment_rules image header.attachments
  metadata ← metadata_rule image header.metadata
  Ok (record { header = header; directory = tiled.directory; tiles = tiled.tiles; attdir = attached.directory; attachments = attached.items; metadata = metadata })

-- the same by all rules: no two extents meet
unfoldable pub reading : List ℕ → Result Live Refusal
reading image = do
  live ← reads_but_overlap image
  first_meeting (sorted span_le (map extent (segments live)))
  Ok live

-- The image is refused, by the first rule that fails.
abbrev pub IsRefused : List ℕ → Refusal → Type 0
IsRefused image refusal = reading image ≡ Err refusal
