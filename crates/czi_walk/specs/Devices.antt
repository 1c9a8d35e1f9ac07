-- Which device a walk's fault tells.
use Rattle.std.specs.Prelude.{Option, None, Some}
use Rattle.czi_rig.specs.Faults.{Device, image}
use Rattle.czi_walk.specs.declared.fault.WalkFault.{WalkFault}
use Rattle.czi_walk.specs.declared.fault.WalkFault.TheVariants as walk

-- that of the image; want of memory tells none
abbrev pub walk_device : WalkFault → Option Device
walk_device walk.Memory = None
walk_device walk.Device = Some image
