-- How a run stops, and of which device that tells a fault.
use Rattle.std.specs.Prelude.{Option, None, Some}
use Rattle.czi_rig.specs.Faults.{Device, image, journal, output, input}
use Rattle.czi_script.specs.declared.error.ScriptError.{ScriptError}
use Rattle.czi_script.specs.declared.error.ScriptError.TheVariants.{Fault as FaultError, Input as InputError, TooLong as TooLongError, Memory as MemoryError}
use Rattle.czi_session.specs.declared.stop.EditorStop.{EditorStop}
use Rattle.czi_session.specs.declared.stop.EditorStop.TheVariants.{Image as ImageOf, Journal as JournalOf, Memory as MemoryOf}
use Rattle.czi_session.specs.declared.stop.OpenStop.{OpenStop}
use Rattle.czi_session.specs.declared.stop.OpenStop.TheVariants.{Refused as RefusedOf, Stopped as StoppedOf}
use Rattle.czi_session.specs.declared.stop.Stop.{Stop}
use Rattle.czi_session.specs.declared.stop.Stop.TheVariants.{Script, Image, Journal, Output, Input, Memory, TooLong}
use Rattle.czi_session.specs.declared.stop.Ended.{Ended}
use Rattle.czi_session.specs.declared.stop.Ended.TheVariants.{Done, Refused, Stopped}

-- an editor's stop, as one of a run
abbrev pub stop_of : EditorStop → Stop
stop_of ImageOf = Image
stop_of JournalOf = Journal
stop_of MemoryOf = Memory

-- a reader's error, as a stop of a run
abbrev pub stop_by : ScriptError → Stop
stop_by (FaultError number kind) = Script number kind
stop_by InputError = Input
stop_by TooLongError = TooLong
stop_by MemoryError = Memory

-- the device that failed, where a run stops by a fault of one
abbrev pub stop_device : Stop → Option Device
stop_device (Script number kind) = None
stop_device Image = Some image
stop_device Journal = Some journal
stop_device Output = Some output
stop_device Input = Some input
stop_device Memory = None
stop_device TooLong = None

abbrev pub editor_device : EditorStop → Option Device
editor_device stop = stop_device (stop_of stop)

abbrev pub open_device : OpenStop → Option Device
open_device (RefusedOf text) = None
open_device (StoppedOf stop) = editor_device stop

abbrev pub end_device : Ended → Option Device
end_device Done = None
end_device Refused = None
end_device (Stopped stop) = stop_device stop

-- the device is one of the two files
abbrev pub IsFile : Option Device → Type 0
IsFile None = ⊥
IsFile (Some image) = Unit {0}
IsFile (Some journal) = Unit {0}
IsFile (Some output) = ⊥
IsFile (Some input) = ⊥

-- a stop to which no script and no input can lead
abbrev pub StopsAlone : Stop → Type 0
StopsAlone (Script number kind) = ⊥
StopsAlone Image = Unit {0}
StopsAlone Journal = Unit {0}
StopsAlone Output = Unit {0}
StopsAlone Input = ⊥
StopsAlone Memory = Unit {0}
StopsAlone TooLong = ⊥

-- the same of an ending
abbrev pub EndsAlone : Ended → Type 0
EndsAlone Done = Unit {0}
EndsAlone Refused = Unit {0}
EndsAlone (Stopped stop) = StopsAlone stop

-- the same, before any command was done
abbrev pub EndsUnopened : Ended → Type 0
EndsUnopened Done = ⊥
EndsUnopened Refused = Unit {0}
EndsUnopened (Stopped stop) = StopsAlone stop

-- the opening of files that open ends so at most
abbrev pub EndsOpening : Ended → Type 0
EndsOpening Done = ⊥
EndsOpening Refused = ⊥
EndsOpening (Stopped (Script number kind)) = ⊥
EndsOpening (Stopped Image) = Unit {0}
EndsOpening (Stopped Journal) = Unit {0}
EndsOpening (Stopped Output) = ⊥
EndsOpening (Stopped Input) = ⊥
EndsOpening (Stopped Memory) = Unit {0}
EndsOpening (Stopped TooLong) = ⊥
