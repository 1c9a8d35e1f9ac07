-- What the steps of an opening answer.
use Rattle.std.specs.Prelude.{◌≡◌, ℕ, ◌<◌, ◌≤◌, List, length, take, drop, Option, Err}
use Rattle.czi_format.specs.Refusals.{reading}
use Rattle.czi_rig.specs.Disk.{Disk}
use Rattle.czi_journal.specs.declared.probing.JournalFault.{JournalFault}
use Rattle.czi_journal.specs.declared.probing.JournalFault.TheVariants as of_journal
use Rattle.czi_image.specs.declared.fault.ImageFault.{ImageFault}
use Rattle.czi_image.specs.declared.fault.ImageFault.TheVariants as of_image
use Rattle.czi_opening.specs.declared.error.ImageRefusal.TheVariants.{NotCzi, MultiPart, Pending, BadDirectory, TooMany, BadEntry, BadSegment, BadAttachment, Overlap}
use Rattle.czi_opening.specs.declared.error.OpenError.{OpenError}
use Rattle.czi_opening.specs.declared.error.OpenError.TheVariants.{JournalVersion, BadJournal, ImageShort, ForeignJournal, Refused, ImageDevice, JournalDevice, Memory}
use Rattle.czi_opening.specs.Answers.{refusal_of}
use Rattle.czi_format.specs.declared.numbers.TheConstants.{FILE_GUID}

-- the error that tells a fault of reading the image
abbrev pub image_error : ImageFault → OpenError
image_error of_image.NotCzi = Refused NotCzi
image_error (of_image.MultiPart part) = Refused (MultiPart part)
image_error (of_image.Pending value) = Refused (Pending value)
image_error (of_image.BadDirectory place) = Refused (BadDirectory place)
image_error (of_image.TooMany place count) = Refused (TooMany place count)
image_error (of_image.BadEntry place) = Refused (BadEntry place)
image_error (of_image.BadSegment place) = Refused (BadSegment place)
image_error (of_image.BadAttachment place) = Refused (BadAttachment place)
image_error (of_image.Overlap first second) = Refused (Overlap first second)
image_error of_image.Memory = Memory
image_error of_image.Device = ImageDevice

-- the error that tells a fault of reading the journal
abbrev pub journal_error : JournalFault → OpenError
journal_error (of_journal.Version version) = JournalVersion version
journal_error (of_journal.BadRecord place) = BadJournal place
journal_error of_journal.Device = JournalDevice
journal_error of_journal.Memory = Memory

-- a device failed
abbrev pub IsDevice : OpenError → Type 0
IsDevice (JournalVersion version) = ⊥
IsDevice (BadJournal place) = ⊥
IsDevice (ImageShort have need) = ⊥
IsDevice (ForeignJournal journal stored) = ⊥
IsDevice (Refused refusal) = ⊥
IsDevice ImageDevice = Unit {0}
IsDevice JournalDevice = Unit {0}
IsDevice Memory = ⊥

-- the image is too short for a record of this GUID and length, or has another GUID, or a call on it failed
abbrev pub IsNotOf : List ℕ → ℕ → List ℕ → OpenError → Type 0
IsNotOf guid committed image (JournalVersion version) = ⊥
IsNotOf guid committed image (BadJournal place) = ⊥
IsNotOf guid committed image (ImageShort have need) = (have ≡ length image) × (need ≡ committed) × (have < need)
IsNotOf guid committed image (ForeignJournal journal stored) = (committed ≤ length image) × (journal ≡ guid) × (stored ≡ take 16 (drop FILE_GUID image)) × (stored ≡ journal → ⊥)
IsNotOf guid committed image (Refused refusal) = ⊥
IsNotOf guid committed image ImageDevice = Unit {0}
IsNotOf guid committed image JournalDevice = ⊥
IsNotOf guid committed image Memory = ⊥

-- a file is as it was where the image isn't one of the record
abbrev pub IfNotOf : Option Disk → Option Disk → OpenError → Type 0
IfNotOf old new (JournalVersion version) = Unit {0}
IfNotOf old new (BadJournal place) = Unit {0}
IfNotOf old new (ImageShort have need) = new ≡ old
IfNotOf old new (ForeignJournal journal stored) = new ≡ old
IfNotOf old new (Refused refusal) = Unit {0}
IfNotOf old new ImageDevice = Unit {0}
IfNotOf old new JournalDevice = Unit {0}
IfNotOf old new Memory = Unit {0}

-- the image can be one of a record of this GUID and length
pub record CanBeOf (guid : List ℕ) (committed : ℕ) (image : List ℕ) : Type 0 where
  pub long : committed ≤ length image
  pub stored : take 16 (drop FILE_GUID image) ≡ guid

-- a rule of reading refuses the image with what the error tells, or a call on it failed, or memory was wanting
abbrev pub RefusesImage : List ℕ → OpenError → Type 0
RefusesImage image (JournalVersion version) = ⊥
RefusesImage image (BadJournal place) = ⊥
RefusesImage image (ImageShort have need) = ⊥
RefusesImage image (ForeignJournal journal stored) = ⊥
RefusesImage image (Refused refusal) = reading image ≡ Err (refusal_of refusal)
RefusesImage image ImageDevice = Unit {0}
RefusesImage image JournalDevice = ⊥
RefusesImage image Memory = Unit {0}
