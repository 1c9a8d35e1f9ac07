-- The file header of the code and its faults, as the format's definitions see them.
use Rattle.std.specs.Prelude.{◌≡◌, ℕ, List, pos, Some, None, Ok, Err}
use Rattle.czi_format.specs.Live.{FileHeader, FileHead, front_head, front_header}
use Rattle.czi_format.specs.HeaderRules as rules
use Rattle.czi_format.specs.HeaderRules.{HeaderRefusal, header_rules}
use Rattle.czi_seg.specs.declared.file_header.FileHeader.{FileHeader as CodeFileHeader}
use Rattle.czi_seg.specs.declared.file_header.HeaderFault.{HeaderFault}
use Rattle.czi_seg.specs.declared.file_header.HeaderFault.TheVariants.{Short, BadId, BadSizes, MultiPart}

-- what its data says
abbrev pub head_of : CodeFileHeader → FileHead
head_of h = record { identity = h.identity; directory = h.directory; metadata = h.metadata; pending = h.pending; attachments = h.attachments }

-- the fault that tells a refusal
abbrev pub fault_of : HeaderRefusal → HeaderFault
fault_of rules.short = Short
fault_of rules.bad_id = BadId
fault_of rules.bad_sizes = BadSizes
fault_of (rules.multi_part part) = MultiPart part

-- The file header at the front of the bytes, of a first part, was read so.
pub record ReadsHeader (bytes : List ℕ) (h : CodeFileHeader) : Type 0 where
  pub header : FileHeader
  pub passes : header_rules bytes ≡ Ok header
  pub stands : front_header bytes ≡ Some header
  pub first : header.part ≡ pos 0
  pub head : head_of h ≡ front_head bytes
  pub allocated : h.allocated ≡ header.segment.allocated

-- what a fault says: no file header stands at the front of the bytes, or that of another part
abbrev pub SaysOfHeader : List ℕ → HeaderFault → Type 0
SaysOfHeader bytes Short = front_header bytes ≡ None
SaysOfHeader bytes BadId = front_header bytes ≡ None
SaysOfHeader bytes BadSizes = front_header bytes ≡ None
SaysOfHeader bytes (MultiPart part) = (header : FileHeader) × (front_header bytes ≡ Some header) × (header.part ≡ part)

-- the fault tells the first rule that fails
abbrev pub TellsHeaderRule : List ℕ → HeaderFault → Type 0
TellsHeaderRule bytes Short = header_rules bytes ≡ Err rules.short
TellsHeaderRule bytes BadId = header_rules bytes ≡ Err rules.bad_id
TellsHeaderRule bytes BadSizes = header_rules bytes ≡ Err rules.bad_sizes
TellsHeaderRule bytes (MultiPart part) = header_rules bytes ≡ Err (rules.multi_part part)
