-- The limits on what an edit brings.
use Rattle.std.specs.Prelude.{◌≡◌, ℕ, ◌^◌, ◌≤◌, List, [], ◌∷◌, Option, None, Some}
use Rattle.std.specs.Option.{option_or}
use Rattle.czi_machine.specs.Edit.{Refusal, fits}
use Rattle.czi_engine.specs.Devices.{refusal_of}
use Rattle.czi_engine.specs.declared.error.EditError.{EditError}
use Rattle.czi_engine.specs.declared.error.EditError.TheVariants.{TooLong, NoKey, Duplicate, TooMany, Full, Memory, ImageDevice, JournalDevice}
use Rattle.czi_format.specs.declared.numbers.TheConstants.{DATA_LIMIT, TEXT_LIMIT}

-- the pieces that a subblock, an attachment and the metadata are made of, each with its limit
abbrev pub subblock_pieces : (meta pixels tail : List ℕ) → List (List ℕ × ℕ)
subblock_pieces meta pixels tail = (meta, TEXT_LIMIT) ∷ (pixels, DATA_LIMIT) ∷ (tail, DATA_LIMIT) ∷ []

abbrev pub attachment_pieces : List ℕ → List (List ℕ × ℕ)
attachment_pieces bytes = (bytes, DATA_LIMIT) ∷ []

abbrev pub metadata_pieces : (xml tail : List ℕ) → List (List ℕ × ℕ)
metadata_pieces xml tail = (xml, TEXT_LIMIT) ∷ (tail, DATA_LIMIT) ∷ []

-- the first piece that is past its limit
abbrev pub first_past_limit : List (List ℕ × ℕ) → Option Refusal
first_past_limit [] = None
first_past_limit (p ∷ pieces) = option_or (fits p.0 p.1) (first_past_limit pieces)

-- the error says that
abbrev pub TellsOf : Option Refusal → EditError → Type 0
TellsOf refusal error = (r : Refusal) × (refusal_of error ≡ Some r) × (refusal ≡ Some r)

-- why no item may come to a list of so many: one has the key, at this place, or there are as many as may be
abbrev pub TellsNew : Option ℕ → (count limit : ℕ) → EditError → Type 0
TellsNew there count limit (Duplicate place) = there ≡ Some place
TellsNew there count limit (TooMany n) = (there ≡ None) × (n ≡ count) × (limit ≤ n)
TellsNew there count limit (TooLong len most) = ⊥
TellsNew there count limit NoKey = ⊥
TellsNew there count limit (Full need length) = ⊥
TellsNew there count limit Memory = ⊥
TellsNew there count limit ImageDevice = ⊥
TellsNew there count limit JournalDevice = ⊥
