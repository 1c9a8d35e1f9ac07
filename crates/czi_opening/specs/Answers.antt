-- What an opening answers, and what it leaves.
use Rattle.std.specs.Prelude.{◌≡◌, ℕ, List, Bool, true, false, Option, None, Some, IfSome}
use Rattle.czi_rig.specs.declared.file.File.TheVariants.{Image, Journal}
use Rattle.czi_rig.specs.Disk.{at_rest}
use Rattle.czi_rig.specs.State.{State, known}
use Rattle.czi_format.specs.Refusals as refusals
use Rattle.czi_format.specs.Refusals.{Refusal}
use Rattle.czi_num.specs.Span.{span_of}
use Rattle.czi_links.specs.Reading.{Void}
use Rattle.czi_journal.specs.declared.journal.Journal.{Journal as JournalState}
use Rattle.czi_journal.specs.declared.journal.Slot.{Slot}
use Rattle.czi_journal.specs.Journals.{slot_of, CountsWith}
use Rattle.czi_vault.specs.Recovered.{Recovered}
use Rattle.czi_opening.specs.declared.error.ImageRefusal.{ImageRefusal}
use Rattle.czi_opening.specs.declared.error.ImageRefusal.TheVariants.{NotCzi, MultiPart, Pending, BadDirectory, TooMany, BadEntry, BadSegment, BadAttachment, Overlap}
use Rattle.czi_opening.specs.declared.error.OpenError.{OpenError}
use Rattle.czi_opening.specs.declared.error.OpenError.TheVariants.{JournalVersion, BadJournal, ImageShort, ForeignJournal, Refused, ImageDevice, JournalDevice, Memory}
use Rattle.czi_opening.specs.Opens.{Cause, of_version, bad_at, too_short, of_another, unread, IsRefusedBy}

-- the refusal that is told
abbrev pub refusal_of : ImageRefusal → Refusal
refusal_of NotCzi = refusals.not_czi
refusal_of (MultiPart part) = refusals.multi_part part
refusal_of (Pending value) = refusals.pending value
refusal_of (BadDirectory place) = refusals.bad_directory place
refusal_of (TooMany place count) = refusals.too_many place count
refusal_of (BadEntry place) = refusals.bad_entry place
refusal_of (BadSegment place) = refusals.bad_segment place
refusal_of (BadAttachment place) = refusals.bad_attachment place
refusal_of (Overlap first second) = refusals.overlap (span_of first) (span_of second)

-- the cause that an error tells; a fault of a device and want of memory say nothing of the files
abbrev pub cause_of : OpenError → Option Cause
cause_of (JournalVersion version) = Some (of_version version)
cause_of (BadJournal place) = Some (bad_at place)
cause_of (ImageShort have need) = Some (too_short have need)
cause_of (ForeignJournal journal image) = Some (of_another journal image)
cause_of (Refused refusal) = Some (unread (refusal_of refusal))
cause_of ImageDevice = None
cause_of JournalDevice = None
cause_of Memory = None

-- both files have these bytes, all of them on the disk
pub record AreSynced (image journal : List ℕ) (s : State) : Type 0 where
  pub image_is : known s Image ≡ Some (at_rest image)
  pub journal_is : known s Journal ≡ Some (at_rest journal)

-- the image has become the bytes that both files stood for, the journal has its own, and all of them are on the disk
pub record AreRecovered (image journal : List ℕ) (s : State) : Type 0 where
  pub bytes : List ℕ
  pub recovered : Recovered image journal bytes
  pub synced : AreSynced bytes journal s

-- Both files are synced. None was written, unless the image was read: it is then the recovered one.
abbrev pub Leaves : List ℕ → List ℕ → State → Cause → Type 0
Leaves image journal s (of_version version) = AreSynced image journal s
Leaves image journal s (bad_at place) = AreSynced image journal s
Leaves image journal s (too_short have need) = AreSynced image journal s
Leaves image journal s (of_another record_guid image_guid) = AreSynced image journal s
Leaves image journal s (unread refusal) = AreRecovered image journal s

-- the error tells a cause for which image and journal are refused, and this is left of them
abbrev pub Tells : List ℕ → List ℕ → State → OpenError → Type 0
Tells image journal s error = IfSome (cause_of error) (λ cause. IsRefusedBy image journal cause × Leaves image journal s cause)

-- an armed journal counts with its slot; one that isn't armed is void
abbrev pub StandsSo : Bool → Slot → List ℕ → Type 0
StandsSo true slot journal = CountsWith slot journal
StandsSo false slot journal = slot_of journal ≡ Void

abbrev pub IsJournal : JournalState → List ℕ → Type 0
IsJournal j journal = StandsSo j.armed j.selected journal
