-- Which device an error tells.
use Rattle.std.specs.Prelude.{Option, None, Some}
use Rattle.czi_rig.specs.Faults.{Device, image, journal}
use Rattle.czi_opening.specs.declared.error.OpenError.{OpenError}
use Rattle.czi_opening.specs.declared.error.OpenError.TheVariants as error

-- a refusal and want of memory tell none
abbrev pub open_device : OpenError → Option Device
open_device (error.JournalVersion version) = None
open_device (error.BadJournal place) = None
open_device (error.ImageShort have need) = None
open_device (error.ForeignJournal of_journal of_image) = None
open_device (error.Refused refusal) = None
open_device error.ImageDevice = Some image
open_device error.JournalDevice = Some journal
open_device error.Memory = None
