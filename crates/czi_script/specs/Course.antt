-- How far a caller has come in a script.
use Rattle.std.specs.Prelude.{◌≡◌, ◌⊎◌, ℕ, ◌+◌, ◌<◌, ◌≤◌, ◌^◌, List, ◌++◌, take, length, Option, Some}
use Rattle.czi_script.specs.declared.error.ScriptError.{ScriptError}
use Rattle.czi_script.specs.declared.error.ScriptError.TheVariants.{Fault, Input, TooLong, Memory}
use Rattle.czi_script.specs.Script.{Command, SpellAll, Reads, End, Fault as FaultAt}
use Rattle.czi_script.specs.Reader.{Reader, ahead, used}

-- a script ends at a fault that shows in its first 2^40 bytes, or is longer
abbrev pub StopsSo : List ℕ → List Command → End → ScriptError → Type 0
StopsSo bytes cs end (Fault n kind) = (end ≡ FaultAt n kind) × ((length bytes ≤ 2 ^ 40) ⊎ ((more : List ℕ) → Reads 1 (take (2 ^ 40) bytes ++ more) cs (FaultAt n kind)))
StopsSo bytes cs end Input = Unit {0}
StopsSo bytes cs end TooLong = 2 ^ 40 < length bytes
StopsSo bytes cs end Memory = Unit {0}

-- A caller has come so far in a script: the commands that it has read and done, with their bytes, and the commands that the
-- bytes ahead read as.
pub record Midway (r : Reader) (left : Option (List ℕ)) (all : List ℕ) (cs : List Command) (end : End) : Type 0 where
  pub done : List Command
  pub rest : List Command
  pub whole : cs ≡ done ++ rest
  pub front : List ℕ
  pub spelled : SpellAll done front
  pub input : List ℕ
  pub told : ahead r left ≡ Some input
  pub taken : all ≡ front ++ input
  pub reads : Reads (length done + 1) input rest end
  pub uses : used r ≡ length front
  pub counted : r.commands ≡ length done
