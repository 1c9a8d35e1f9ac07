-- The rules over what was read.
use Rattle.std.specs.Prelude.{ℕ, pos, List, Option, ok_or, Result, Ok}
use Rattle.czi_format.specs.Bytes.{i32_at}
use Rattle.czi_format.specs.Partial.{is_zero}
use Rattle.czi_format.specs.FirstFault.{◌>>=◌, ◌>>◌, unless, with_fault, each, one_after_another}
use Rattle.czi_format.specs.Entry.{Entry, entry, entry_len, A1, a1, a1_len}
use Rattle.czi_format.specs.Live.{FileHeader, Directory, Tile, AttItem}
use Rattle.czi_format.specs.Shows.{entries, a1_entries, subblock_at, attachment_at}
use Rattle.czi_format.specs.Refusals.{Refusal, not_czi, multi_part, pending, bad_entry, bad_segment, bad_attachment}
use Rattle.czi_seg.specs.declared.file_header.HeaderFault.{HeaderFault}
use Rattle.czi_seg.specs.declared.file_header.HeaderFault.TheVariants.{Short, BadId, BadSizes, MultiPart}
use Rattle.czi_image.specs.declared.fault.ImageFault.{ImageFault}
use Rattle.czi_image.specs.declared.fault.ImageFault.TheVariants as faults
use Rattle.czi_image.specs.Windows.{front_within}
use Rattle.czi_format.specs.declared.numbers.TheConstants.{UPDATE_PENDING}

-- the first rules, over the first 112 bytes of an image of n bytes
unfoldable pub first_rules_in : List ℕ → ℕ → Result FileHeader Refusal
first_rules_in front n = do
  header ← ok_or (front_within front n) not_czi
  unless (is_zero header.part) (multi_part header.part)
  unless (is_zero (i32_at front UPDATE_PENDING)) (pending (i32_at front UPDATE_PENDING))
  Ok header

-- what a fault of the file header says of the image
abbrev pub fault_of : HeaderFault → ImageFault
fault_of Short = faults.NotCzi
fault_of BadId = faults.NotCzi
fault_of BadSizes = faults.NotCzi
fault_of (MultiPart part) = faults.MultiPart part

-- so many entries one after another in the bytes, the first of them at a place of the image
unfoldable pub entry_rules : ℕ → ℕ → List ℕ → Result (List Entry) Refusal
entry_rules count place bytes = with_fault (λ at. bad_entry (pos at)) (one_after_another entry entry_len (λ at. at) count place bytes)

unfoldable pub a1_rules : ℕ → ℕ → List ℕ → Result (List A1) Refusal
a1_rules count place bytes = with_fault (λ at. bad_attachment (pos at)) (one_after_another a1 a1_len (λ at. at) count place bytes)

-- the subblocks at entries, and the attachments
unfoldable pub subblock_rules : List ℕ → List Entry → Result (List Tile) Refusal
subblock_rules image es = each (subblock_at image) (λ e. bad_segment e.position) es

unfoldable pub item_rules : List ℕ → List A1 → Result (List AttItem) Refusal
item_rules image es = each (attachment_at image) (λ a. bad_attachment a.position) es

-- the subblocks at a directory's entries, and the attachments
unfoldable pub listed_rules : List ℕ → Option Directory → Result (List Tile) Refusal
listed_rules image dir = do
  es ← with_fault (λ at. bad_entry (pos at)) (entries image dir)
  subblock_rules image es

unfoldable pub attached_rules : List ℕ → Option Directory → Result (List AttItem) Refusal
attached_rules image dir = do
  es ← with_fault (λ at. bad_attachment (pos at)) (a1_entries image dir)
  item_rules image es
