-- An attachment that an edit brings, the metadata that it sets, and the parts of an attachment directory after an act.
use Rattle.std.specs.Prelude.{◌≡◌, ℕ, ◌+◌, List, length}
use Rattle.czi_doc.specs.View.{att_of}
use Rattle.czi_doc.specs.declared.items.AttInfo.{AttInfo as CodeAttInfo}
use Rattle.czi_format.specs.Document.{Attachment, Metadata}
use Rattle.czi_format.specs.Entry.{A1, a1_len}
use Rattle.czi_format.specs.Segment.{attachment_id}
use Rattle.czi_format.specs.Span.{round32}
use Rattle.czi_image.specs.View.{att_item_of}
use Rattle.czi_image.specs.declared.change.Act.{Act as CodeAct}
use Rattle.czi_image.specs.declared.types.AttItem.{AttItem}
use Rattle.czi_num.specs.declared.span.Span.{Span as CodeSpan}
use Rattle.czi_plan.specs.Changing.{entries_in, tiles_before, tiles_behind, tiles_brought, tiles_leaving}
use Rattle.czi_plan.specs.Directory.{back_in, middle_in}
use Rattle.czi_plan.specs.Kind.{of_attachments}
use Rattle.czi_plan.specs.declared.tiles.Parts.{Parts}
use Rattle.czi_format.specs.declared.numbers.TheConstants.{CONTENTS}

-- the attachment, and the metadata, with these contents
abbrev pub attachment_in : CodeAttInfo → List ℕ → Attachment
attachment_in info bytes = record { info = att_of info; bytes = bytes }

abbrev pub metadata_in : (xml tail : List ℕ) → Metadata
metadata_in xml tail = record { xml = xml; tail = tail }

-- The parts of an act on a list of attachments.
pub record ArePartsOf (a : CodeAct AttItem) (items : List AttItem) (p : Parts AttItem) : Type 0 where
  pub before : p.before.now ≡ tiles_before a items
  pub brought : p.brought.now ≡ tiles_brought a
  pub leaving : p.leaving.now ≡ tiles_leaving a items
  pub behind : p.behind.now ≡ tiles_behind a items

-- the entries that stay in front, those that are written where the directory is changed in place, and those at the back
abbrev pub att_front : Parts AttItem → List A1
att_front p = entries_in of_attachments p.before.now

abbrev pub att_middle : Parts AttItem → List A1
att_middle p = middle_in a1_len (entries_in of_attachments p.brought.now) (entries_in of_attachments p.leaving.now) (entries_in of_attachments p.behind.now)

abbrev pub att_back : Parts AttItem → List A1
att_back p = back_in a1_len (entries_in of_attachments p.brought.now) (entries_in of_attachments p.leaving.now) (entries_in of_attachments p.behind.now)

-- how many it then lists
abbrev pub att_count : Parts AttItem → ℕ
att_count p = length p.before.now + (length p.brought.now + length p.behind.now)

-- how long the data of an attachment of so many bytes is with padding
abbrev pub att_padded : ℕ → ℕ
att_padded n = round32 (CONTENTS + n)

-- The item of an attachment of so many bytes that lies in a span.
pub record IsItemOf (info : CodeAttInfo) (size : ℕ) (span : CodeSpan) (i : AttItem) : Type 0 where
  pub info_is : i.info ≡ info
  pub span_is : i.span ≡ span
  pub id : (att_item_of i).segment.id ≡ attachment_id
  pub size_is : i.size ≡ size
  pub used : i.head.used ≡ CONTENTS + size
