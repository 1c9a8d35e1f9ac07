-- What creating a document answers, and what a crash leaves of it.
use Rattle.std.specs.Prelude.{◌≡◌, ◌⊎◌, ℕ, ◌<◌, List, [], ◌∷◌, length, Option, None, Some, Result, Ok, Err}
use Rattle.czi_creation.specs.Creates.{OpensOrRefused}
use Rattle.czi_creation.specs.declared.creating.CreationFault.{CreationFault}
use Rattle.czi_creation.specs.declared.creating.CreationFault.TheVariants as creation
use Rattle.czi_rig.specs.declared.rig.Rig.{Ghosts}
use Rattle.czi_rig.specs.Faults as faults
use Rattle.czi_rig.specs.Faults.{Device}
use Rattle.czi_rig.specs.Moments.{Devices, FromSomeMoment, LeavesNothingNew}
use Rattle.czi_rig.specs.State.{Instant}
use Rattle.czi_engine.specs.declared.creating.CreateError.{CreateError}
use Rattle.czi_engine.specs.declared.creating.CreateError.TheVariants.{NotEmpty, Memory, ImageDevice, JournalDevice}

-- the error that tells a fault
abbrev pub create_error : CreationFault → CreateError
create_error (creation.NotEmpty length) = NotEmpty length
create_error creation.Image = ImageDevice
create_error creation.Journal = JournalDevice

-- the device that an error tells; that an image isn't empty, and want of memory, tell none
abbrev pub create_device : CreateError → Option Device
create_device (NotEmpty length) = None
create_device Memory = None
create_device ImageDevice = Some faults.image
create_device JournalDevice = Some faults.journal

-- The image's length is told exactly where it isn't 0, unless a device failed.
abbrev pub TellsLength : {T : Type 0} → List ℕ → Result T CreateError → Type 0
TellsLength image (Ok made) = image ≡ []
TellsLength image (Err (NotEmpty told)) = (told ≡ length image) × (0 < told)
TellsLength image (Err Memory) = image ≡ []
TellsLength image (Err ImageDevice) = Unit {0}
TellsLength image (Err JournalDevice) = Unit {0}

-- An empty image opens to the empty document with this GUID, or it is refused. Any other is as it was, and so is its journal.
abbrev pub CreatesIn : (guid old_image old_journal image journal : List ℕ) → Type 0
CreatesIn guid [] before image journal = OpensOrRefused guid before image journal
CreatesIn guid (b ∷ bytes) before image journal = (image ≡ b ∷ bytes) × (journal ≡ before)

-- so it is of what a crash leaves, and nothing more was said
abbrev pub Creates : List ℕ → Devices → Instant
Creates guid all image journal said = CreatesIn guid all.image.seen all.journal.seen image journal × (said ≡ all.said)

-- both files are as they were read, and nothing more was said
abbrev pub KeepsBoth : Devices → Instant
KeepsBoth all image journal said = (image ≡ all.image.seen) × (journal ≡ all.journal.seen) × (said ≡ all.said)

-- From the moment at which both files are synced; only where a device failed it may not have come.
abbrev pub CreatesFrom : {T D : Type 0} → Ghosts D → D → D → List ℕ → Devices → Result T CreateError → Type 0
CreatesFrom rig old new guid all (Ok made) = FromSomeMoment rig old new (Creates guid all)
CreatesFrom rig old new guid all (Err (NotEmpty length)) = FromSomeMoment rig old new (KeepsBoth all)
CreatesFrom rig old new guid all (Err Memory) = FromSomeMoment rig old new (KeepsBoth all)
CreatesFrom rig old new guid all (Err ImageDevice) = LeavesNothingNew rig old new ⊎ FromSomeMoment rig old new (Creates guid all)
CreatesFrom rig old new guid all (Err JournalDevice) = LeavesNothingNew rig old new ⊎ FromSomeMoment rig old new (Creates guid all)
