-- Which device a fault tells.
use Rattle.std.specs.Prelude.{Option, None, Some}
use Rattle.czi_rig.specs.Faults.{Device, journal}
use Rattle.czi_journal.specs.declared.probing.JournalFault.{JournalFault}
use Rattle.czi_journal.specs.declared.probing.JournalFault.TheVariants as fault

-- that of the journal, where a call failed; the grammar and want of memory tell none
abbrev pub journal_device : JournalFault → Option Device
journal_device (fault.Version version) = None
journal_device (fault.BadRecord place) = None
journal_device fault.Device = Some journal
journal_device fault.Memory = None
