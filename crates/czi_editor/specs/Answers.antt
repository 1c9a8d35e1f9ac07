-- How an opening stops.
use Rattle.std.specs.Prelude.{◌≡◌, Some}
use Rattle.czi_opening.specs.Answers.{cause_of}
use Rattle.czi_opening.specs.Opens.{Cause}
use Rattle.czi_opening.specs.declared.error.OpenError.{OpenError}
use Rattle.czi_opening.specs.declared.error.OpenError.TheVariants.{ImageDevice as ImageFails, JournalDevice as JournalFails}
use Rattle.czi_session.specs.declared.stop.EditorStop.TheVariants.{Image, Journal, Memory}
use Rattle.czi_session.specs.declared.stop.OpenStop.{OpenStop}
use Rattle.czi_session.specs.declared.stop.OpenStop.TheVariants.{Refused, Stopped}
use Rattle.czi_report.specs.Refusals.{cause_text}

-- an opening's error, as a session tells it: the line of its cause, or a device that failed, or want of memory
abbrev pub Tells : OpenError → OpenStop → Type 0
Tells error (Refused text) = (cause : Cause) × (cause_of error ≡ Some cause) × (text.items ≡ cause_text cause)
Tells error (Stopped Image) = error ≡ ImageFails
Tells error (Stopped Journal) = error ≡ JournalFails
Tells error (Stopped Memory) = Unit {0}
