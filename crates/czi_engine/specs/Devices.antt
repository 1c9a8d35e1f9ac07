-- What an error of the engine tells: what the machine refuses, want of memory, or a device's fault.
use Rattle.std.specs.Prelude.{Bool, Option, None, Some, is_some}
use Rattle.czi_machine.specs.Edit.{Refusal, too_long, no_key, duplicate, too_many, nothing, full}
use Rattle.czi_rig.specs.Faults.{Device, image, journal}
use Rattle.czi_engine.specs.declared.error.EditError.{EditError}
use Rattle.czi_engine.specs.declared.error.EditError.TheVariants.{TooLong, NoKey, Duplicate, TooMany, Full, Memory, ImageDevice, JournalDevice}
use Rattle.czi_engine.specs.declared.error.UndoError.{UndoError}
use Rattle.czi_engine.specs.declared.error.UndoError.TheVariants.{Nothing, Full as NoPlace, ImageDevice as ImageFails, JournalDevice as JournalFails}

pub data Fault : Type 0 where
  of_refusal : Refusal → Fault
  of_memory : Fault
  of_device : Device → Fault

-- the error of an edit
abbrev pub edit_fault : EditError → Fault
edit_fault (TooLong len limit) = of_refusal (too_long len limit)
edit_fault NoKey = of_refusal no_key
edit_fault (Duplicate place) = of_refusal (duplicate place)
edit_fault (TooMany count) = of_refusal (too_many count)
edit_fault (Full need length) = of_refusal (full need length)
edit_fault Memory = of_memory
edit_fault ImageDevice = of_device image
edit_fault JournalDevice = of_device journal

-- and that of an undo, which takes no memory
abbrev pub undo_fault : UndoError → Fault
undo_fault Nothing = of_refusal nothing
undo_fault (NoPlace need length) = of_refusal (full need length)
undo_fault ImageFails = of_device image
undo_fault JournalFails = of_device journal

-- what the machine refuses; the others tell nothing of it
abbrev pub refusal_in : Fault → Option Refusal
refusal_in (of_refusal refusal) = Some refusal
refusal_in of_memory = None
refusal_in (of_device device) = None

-- the device that failed; a refusal and want of memory tell none
abbrev pub device_in : Fault → Option Device
device_in (of_refusal refusal) = None
device_in of_memory = None
device_in (of_device device) = Some device

abbrev pub is_device : Fault → Bool
is_device fault = is_some (device_in fault)

abbrev pub refusal_of : EditError → Option Refusal
refusal_of error = refusal_in (edit_fault error)

abbrev pub edit_device : EditError → Option Device
edit_device error = device_in (edit_fault error)
