-- What a rig in memory tells beside what every device tells.
use Rattle.std.specs.Prelude.{◌≡◌, ◌⊎◌, ◌↔◌, ℕ, ◌-◌, ◌^◌, ◌<◌, ◌≤◌, Bool, true, false, List, [], ◌∷◌, ◌++◌, length, map, IsTrue, Contains, Some}
use Rattle.czi_rig.specs.declared.call.Call.{Call}
use Rattle.czi_rig.specs.declared.log.Event.{Event}
use Rattle.czi_rig.specs.declared.log.Log.{Log}
use Rattle.czi_rig.specs.Disk.{at_rest}
use Rattle.czi_rig.specs.State.{State}
use Rattle.czi_rig.specs.Replay.{History, Faults}

-- the calls that were made, the numbers of those that are to fail, and how many calls found no memory
pub record Told : Type 0 where
  pub calls : List Call
  pub to_fail : List ℕ
  pub starved : ℕ

abbrev pub told_by : Log → Told
told_by log = record { calls = map (λ (e : Event). e.call) log.calls.items; to_fail = log.to_fail.keys; starved = log.starved }

-- both contents synced, nothing said, no fault
abbrev pub fresh : List ℕ → List ℕ → State
fresh image journal = record { honest = true; image = Some (at_rest image); journal = Some (at_rest journal); said = Some []; image_faults = 0; journal_faults = 0; output_faults = 0; moment = 0 }

-- no call was made, and none is to fail
abbrev pub untouched : Told
untouched = record { calls = []; to_fail = []; starved = 0 }

-- A call was made and counted, and failed exactly where its number is to fail; or it found no memory, which raised the
-- number of such calls: then it failed, isn't counted, and changed no file and nothing of what was said. No count of faults
-- rose where the call didn't fail. A number at its type's end is taken as rising.
pub record Accounts (call : Call) (failed : Bool) (old new : Told) (before after : History) (old_faults new_faults : Faults) : Type 0 where
  pub to_fail : new.to_fail ≡ old.to_fail
  pub later : old.starved ≤ new.starved
  pub counted : new.starved ≡ old.starved → old.starved < 2 ^ 64 - 1 → new.calls ≡ old.calls ++ call ∷ []
  pub starved : old.starved < new.starved → new.calls ≡ old.calls
  pub idle : old.starved < new.starved → after ≡ before
  pub fails : old.starved < 2 ^ 64 - 1 → IsTrue failed ↔ (Contains old.to_fail (length old.calls) ⊎ (old.starved < new.starved))
  pub no_fault : failed ≡ false → new_faults ≡ old_faults
