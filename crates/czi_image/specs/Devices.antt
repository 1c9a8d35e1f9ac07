-- Which device a fault tells.
use Rattle.std.specs.Prelude.{Option, None, Some}
use Rattle.czi_rig.specs.Faults.{Device, image}
use Rattle.czi_image.specs.declared.fault.ImageFault.{ImageFault}
use Rattle.czi_image.specs.declared.fault.ImageFault.TheVariants as fault

-- that of the image, where a call failed; a rule of reading and want of memory tell none
abbrev pub image_device : ImageFault → Option Device
image_device fault.Device = Some image
image_device _ = None
