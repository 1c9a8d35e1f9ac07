-- What a fault tells of the image.
use Rattle.std.specs.Prelude.{◌≡◌, ℕ, List, Result, Err}
use Rattle.czi_format.specs.Refusals as refusals
use Rattle.czi_format.specs.Refusals.{Refusal, reading}
use Rattle.czi_num.specs.Span.{span_of}
use Rattle.czi_image.specs.declared.fault.ImageFault.{ImageFault}
use Rattle.czi_image.specs.declared.fault.ImageFault.TheVariants.{NotCzi, MultiPart, Pending, BadDirectory, TooMany, BadEntry, BadSegment, BadAttachment, Overlap, Memory, Device}

-- the rules refuse with what the fault tells; want of memory and a failed call say nothing of the image
abbrev pub Tells : {A : Type 0} → Result A Refusal → ImageFault → Type 0
Tells answer NotCzi = answer ≡ Err refusals.not_czi
Tells answer (MultiPart part) = answer ≡ Err (refusals.multi_part part)
Tells answer (Pending value) = answer ≡ Err (refusals.pending value)
Tells answer (BadDirectory place) = answer ≡ Err (refusals.bad_directory place)
Tells answer (TooMany place count) = answer ≡ Err (refusals.too_many place count)
Tells answer (BadEntry place) = answer ≡ Err (refusals.bad_entry place)
Tells answer (BadSegment place) = answer ≡ Err (refusals.bad_segment place)
Tells answer (BadAttachment place) = answer ≡ Err (refusals.bad_attachment place)
Tells answer (Overlap first second) = answer ≡ Err (refusals.overlap (span_of first) (span_of second))
Tells answer Memory = Unit {0}
Tells answer Device = Unit {0}

-- the fault tells the first rule of reading that fails
abbrev pub TellsBrokenRule : List ℕ → ImageFault → Type 0
TellsBrokenRule image fault = Tells (reading image) fault

-- only a call failed, or memory was wanting: the image is refused by no rule
abbrev pub IsOnlyCalls : ImageFault → Type 0
IsOnlyCalls NotCzi = ⊥
IsOnlyCalls (MultiPart part) = ⊥
IsOnlyCalls (Pending value) = ⊥
IsOnlyCalls (BadDirectory place) = ⊥
IsOnlyCalls (TooMany place count) = ⊥
IsOnlyCalls (BadEntry place) = ⊥
IsOnlyCalls (BadSegment place) = ⊥
IsOnlyCalls (BadAttachment place) = ⊥
IsOnlyCalls (Overlap first second) = ⊥
IsOnlyCalls Memory = Unit {0}
IsOnlyCalls Device = Unit {0}
