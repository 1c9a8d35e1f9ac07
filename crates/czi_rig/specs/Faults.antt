-- Which device a fault came from: the run ends at the first.
use Rattle.std.specs.Prelude.{◌≡◌, ℕ, Bool, true, false, cond, Option, None, Some, Result, Ok, Err, is_err}
use Rattle.czi_rig.specs.declared.file.Failed.{Failed}
use Rattle.czi_rig.specs.declared.file.File.{File}
use Rattle.czi_rig.specs.declared.file.File.TheVariants.{Image, Journal}
use Rattle.czi_rig.specs.State.{State}
use Rattle.czi_rig.specs.Passes.{Rose}

-- what can fail: one of the two files, the output, or the input
pub data Device : Type 0 where
  image : Device
  journal : Device
  output : Device
  input : Device

abbrev pub device_of : File → Device
device_of Image = image
device_of Journal = journal

-- whether a fault, if there is one, came from this device
abbrev pub is_at_image : Option Device → Bool
is_at_image None = false
is_at_image (Some image) = true
is_at_image (Some journal) = false
is_at_image (Some output) = false
is_at_image (Some input) = false

abbrev pub is_at_journal : Option Device → Bool
is_at_journal None = false
is_at_journal (Some image) = false
is_at_journal (Some journal) = true
is_at_journal (Some output) = false
is_at_journal (Some input) = false

abbrev pub is_at_output : Option Device → Bool
is_at_output None = false
is_at_output (Some image) = false
is_at_output (Some journal) = false
is_at_output (Some output) = true
is_at_output (Some input) = false

abbrev pub is_at_input : Option Device → Bool
is_at_input None = false
is_at_input (Some image) = false
is_at_input (Some journal) = false
is_at_input (Some output) = false
is_at_input (Some input) = true

-- a count of faults has risen where its device failed, and is as it was where it didn't
abbrev pub Counted : Bool → ℕ → ℕ → Type 0
Counted true before now = Rose before now
Counted false before now = now ≡ before

-- The three counts of the rig: the one of the device where the fault was has risen, the others are as they were. Where
-- there was no fault, or one of the input, all three are.
pub record Faults (at : Option Device) (old new : State) : Type 0 where
  pub image_count : Counted (is_at_image at) old.image_faults new.image_faults
  pub journal_count : Counted (is_at_journal at) old.journal_faults new.journal_faults
  pub output_count : Counted (is_at_output at) old.output_faults new.output_faults

-- the same with the count of an input beside them
pub record FaultsWith (at : Option Device) (old new : State) (before now : ℕ) : Type 0 where
  pub rig : Faults at old new
  pub input_count : Counted (is_at_input at) before now

-- the device of which a result tells a fault, if any, by the device that an error tells
abbrev pub fault_at : {T E : Type 0} → (E → Option Device) → Result T E → Option Device
fault_at told (Ok value) = None
fault_at told (Err error) = told error

-- the device where a call of it failed, and none where it didn't
abbrev pub failed_at : {T : Type 0} → Result T Failed → Device → Option Device
failed_at result device = cond (is_err result) (Some device) None
