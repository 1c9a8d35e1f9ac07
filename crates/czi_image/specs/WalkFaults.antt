-- The fault that tells why a walk stopped.
use Rattle.czi_walk.specs.declared.fault.WalkFault.{WalkFault}
use Rattle.czi_walk.specs.declared.fault.WalkFault.TheVariants as walk
use Rattle.czi_image.specs.declared.fault.ImageFault.{ImageFault}
use Rattle.czi_image.specs.declared.fault.ImageFault.TheVariants.{Memory, Device}

abbrev pub walk_fault : WalkFault → ImageFault
walk_fault walk.Memory = Memory
walk_fault walk.Device = Device
