-- A segment: 32 bytes of header, an id of 16 bytes and two signed sizes, and its data behind them.
use Rattle.std.specs.Prelude.{ℕ, ◌+◌, ◌++◌, ℤ, pos, List, ◌&&◌, nat_le, Option, Some, length, bytes_eq}
use Rattle.czi_format.specs.Bytes.{bytes_at, i64_at, i64_bytes, padded}
use Rattle.czi_format.specs.Partial.{◌>>=◌, natural, given}
use Rattle.czi_format.specs.Span.{Span}

-- a segment at a place, with both sizes as they are stored
pub record Segment : Type 0 where
  pub at : ℕ
  pub id : List ℕ
  pub allocated : ℕ
  pub used : ℕ

abbrev pub extent : Segment → Span
extent s = record { at = s.at; len = 32 + s.allocated }

-- the header at a place: an id and two sizes, neither of them negative
unfoldable pub header_at : List ℕ → ℕ → Option Segment
header_at image at = do
  allocated ← natural (i64_at image (at + 16))
  used ← natural (i64_at image (at + 24))
  Some (record { at = at; id = bytes_at image at 16; allocated = allocated; used = used })

-- the segment whose header stands at a place: its extent lies in the image
unfoldable pub segment_at : List ℕ → ℕ → Option Segment
segment_at image at = do
  segment ← header_at image at
  given (nat_le (at + 32 + segment.allocated) (length image)) segment

-- the header of a segment, written
abbrev pub header_bytes : Segment → List ℕ
header_bytes s = s.id ++ (i64_bytes (pos s.allocated) ++ i64_bytes (pos s.used))

-- the segment of this id at a position, with sound sizes
unfoldable pub sound_segment : List ℕ → List ℕ → ℤ → Option Segment
sound_segment image id position = do
  at ← natural position
  segment ← segment_at image at
  given (bytes_eq segment.id id && nat_le segment.used segment.allocated) segment

-- what stands behind the header
abbrev pub data_of : List ℕ → Segment → List ℕ
data_of image segment = bytes_at image (segment.at + 32) segment.allocated

-- what is read in the sound segment of an id at a position, from the segment and its data
unfoldable pub in_segment : {A : Type 0} → List ℕ → List ℕ → ℤ → (Segment → List ℕ → Option A) → Option A
in_segment image id position read = do
  segment ← sound_segment image id position
  read segment (data_of image segment)

unfoldable pub file_id : List ℕ
file_id = padded 16 "ZISRAWFILE"

unfoldable pub directory_id : List ℕ
directory_id = padded 16 "ZISRAWDIRECTORY"

unfoldable pub subblock_id : List ℕ
subblock_id = padded 16 "ZISRAWSUBBLOCK"

unfoldable pub metadata_id : List ℕ
metadata_id = padded 16 "ZISRAWMETADATA"

unfoldable pub attachment_id : List ℕ
attachment_id = padded 16 "ZISRAWATTACH"

unfoldable pub attdir_id : List ℕ
attdir_id = padded 16 "ZISRAWATTDIR"

unfoldable pub deleted_id : List ℕ
deleted_id = padded 16 "DELETED"
