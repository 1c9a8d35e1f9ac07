-- The writes of a plan, and the image that they fill.
use Rattle.std.specs.Prelude.{ℕ, ◌-◌, ◌≤◌, max, List, [], ◌∷◌, ◌++◌, length, replicate, nat_lt, if◌then◌else◌}
use Rattle.std.specs.List.{AllByRecursion}
use Rattle.czi_links.specs.Record.{Bytes, end_of}
use Rattle.czi_vault.specs.Recovered.{View, IsFree}
use Rattle.czi_format.specs.declared.numbers.TheConstants.{HEADER_FRONT}

-- zeros from the end of an image up to a place behind it
abbrev pub zeros : ℕ → ℕ → List Bytes
zeros end place = if nat_lt end place then record { place = end; bytes = replicate (place - end) 0 } ∷ [] else []

-- a write, behind the zeros that fill the gap before it
abbrev pub with_gap : ℕ → Bytes → List Bytes
with_gap end w = zeros end w.place ++ w ∷ []

-- writes into an image of this length, each behind the zeros that fill the gap before it
abbrev pub filled : ℕ → List Bytes → List Bytes
filled end [] = []
filled end (w ∷ ws) = zeros end w.place ++ (w ∷ filled (max end (end_of w)) ws)

-- each begins behind the fields of the file header
abbrev pub LeaveHeader : List Bytes → Type 0
LeaveHeader ws = AllByRecursion (λ (w : Bytes). HEADER_FRONT ≤ w.place) ws

-- each goes where nothing is needed
abbrev pub AreFree : View → List Bytes → Type 0
AreFree view ws = AllByRecursion (λ (w : Bytes). IsFree view w.place (length w.bytes)) ws
