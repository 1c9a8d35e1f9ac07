-- Which device a fault tells.
use Rattle.std.specs.Prelude.{Option, None, Some}
use Rattle.czi_rig.specs.Faults as devices
use Rattle.czi_rig.specs.Faults.{Device}
use Rattle.czi_creation.specs.declared.creating.CreationFault.{CreationFault}
use Rattle.czi_creation.specs.declared.creating.CreationFault.TheVariants.{NotEmpty, Image, Journal}

-- that an image isn't empty tells none
abbrev pub creation_device : CreationFault → Option Device
creation_device (NotEmpty length) = None
creation_device Image = Some devices.image
creation_device Journal = Some devices.journal
