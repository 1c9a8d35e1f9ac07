-- What the steps of a creation answer, and what they leave.
use Rattle.std.specs.Prelude.{◌≡◌, ◌⊎◌, ℕ, ◌<◌, List, [], length, slice_index, option_map, Result, Ok, Err}
use Rattle.czi_rig.specs.declared.file.File.TheVariants as file
use Rattle.czi_rig.specs.Disk.{at_rest}
use Rattle.czi_rig.specs.State.{State, known, seen_of}
use Rattle.czi_creation.specs.declared.creating.CreationFault.{CreationFault}
use Rattle.czi_creation.specs.declared.creating.CreationFault.TheVariants.{NotEmpty, Image, Journal}
use Rattle.czi_format.specs.declared.numbers.TheConstants.{HEADER_FRONT}

-- both files are on the disk as they were read
pub record AreSynced (old new : State) : Type 0 where
  pub image : known new file.Image ≡ option_map at_rest (seen_of old file.Image)
  pub journal : known new file.Journal ≡ option_map at_rest (seen_of old file.Journal)

-- the image's length is told exactly where it isn't 0
abbrev pub TellsLength : List ℕ → Result (Unit {0}) CreationFault → Type 0
TellsLength image (Ok _) = image ≡ []
TellsLength image (Err (NotEmpty told)) = (told ≡ length image) × (0 < told)
TellsLength image (Err Image) = Unit {0}
TellsLength image (Err Journal) = Unit {0}

-- a device failed
abbrev pub IsDevice : CreationFault → Type 0
IsDevice (NotEmpty length) = ⊥
IsDevice Image = Unit {0}
IsDevice Journal = Unit {0}

-- No file header stands at its front: it is shorter than one, or its first byte isn't a Z.
abbrev pub HasNoFront : List ℕ → Type 0
HasNoFront image = (length image < HEADER_FRONT) ⊎ (slice_index image 0 ≡ 0x5A → ⊥)
