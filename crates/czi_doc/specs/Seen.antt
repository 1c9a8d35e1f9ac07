-- What a reader answered, as the reading has it.
use Rattle.std.specs.Prelude.{◌≡◌, ℕ, ◌+◌, List, length, Result, Ok, Err, MatchResult}
use Rattle.czi_format.specs.Entry.{Dim}
use Rattle.czi_doc.specs.DimText.{IsDimText, IsFirstFault}
use Rattle.czi_doc.specs.declared.fault.TextFault.{TextFault}
use Rattle.czi_doc.specs.declared.fault.TextFault.TheVariants.{Bad, Memory}

abbrev pub seen : {A B E : Type 0} → (A → B) → Result A E → Result B E
seen view (Ok x) = Ok (view x)
seen view (Err e) = Err e

-- The code answers what is read of a text. A fault is told by its place, and want of memory says nothing.
abbrev pub TellsFault : {X : Type 0} → List ℕ → TextFault → Result X ℕ → Type 0
TellsFault text Memory read = Unit {0}
TellsFault text (Bad place) read = (left : ℕ) × (read ≡ Err left) × (place + left ≡ length text)

abbrev pub Tells : {X Y : Type 0} → List ℕ → (X → Y) → Result X TextFault → Result Y ℕ → Type 0
Tells text view (Ok x) read = read ≡ Ok (view x)
Tells text view (Err fault) read = TellsFault text fault read

-- The code answers each dimension text with its dimensions, unless memory runs out.
abbrev pub ReadsEach : {X : Type 0} → List ℕ → (X → List Dim) → Result X TextFault → Type 0
ReadsEach text view result = (ds : List Dim) → IsDimText text ds → MatchResult result (λ x. view x ≡ ds) (λ fault. fault ≡ Memory)

-- A fault is told by its place, and it is the first of the text.
abbrev pub IsToldFirst : List ℕ → TextFault → Type 0
IsToldFirst text Memory = Unit {0}
IsToldFirst text (Bad place) = IsFirstFault text place

abbrev pub TellsFirst : {X : Type 0} → List ℕ → Result X TextFault → Type 0
TellsFirst text (Ok x) = Unit {0}
TellsFirst text (Err fault) = IsToldFirst text fault
