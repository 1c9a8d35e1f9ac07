-- How a call on a rig in memory ends.
use Rattle.std.specs.Prelude.{◌≡◌, ◌⊎◌, ◌↔◌, ℕ, ◌+◌, ◌-◌, ◌^◌, ◌≤◌, min, Bool, cond, List, [], ◌∷◌, ◌++◌, length, Result, is_err, IsErr, IsTrue, Contains}
use Rattle.czi_rig.specs.declared.file.Failed.{Failed}
use Rattle.czi_rig.specs.declared.call.Call.{Call}
use Rattle.czi_rig.specs.declared.log.Event.{Event}
use Rattle.czi_rig.specs.declared.log.Log.{Log}

-- a count one higher, that stops at its type's end
abbrev pub raised : ℕ → ℕ
raised n = min (n + 1) (2 ^ 64 - 1)

-- this call was added to those that were made
pub record Noted (call : Call) (bytes : List ℕ) (failed : Bool) (old new : List Event) : Type 0 where
  pub event : Event
  pub call_is : event.call ≡ call
  pub bytes_are : event.bytes.items ≡ bytes
  pub failed_is : event.failed ≡ failed
  pub added : new ≡ old ++ event ∷ []

-- whether the next call is to fail
abbrev pub IsTold : Bool → Log → Type 0
IsTold failed log = IsTrue failed ↔ Contains log.to_fail.keys (length log.calls.items)

-- The call found no memory: it isn't counted among those that were made, and raised both its count of faults and the
-- number of such calls.
pub record Starves (old new : Log) (before after : ℕ) : Type 0 where
  pub calls : new.calls.items ≡ old.calls.items
  pub to_fail : new.to_fail ≡ old.to_fail
  pub starved : new.starved ≡ raised old.starved
  pub later : old.starved ≤ new.starved
  pub faults : after ≡ raised before
  pub no_fewer : before ≤ after

-- The call was made, and failed where it was to fail: there alone its count of faults rose.
pub record Made (call : Call) (bytes : List ℕ) (failed : Bool) (old new : Log) (before after : ℕ) : Type 0 where
  pub noted : Noted call bytes failed old.calls.items new.calls.items
  pub told : IsTold failed old
  pub to_fail : new.to_fail ≡ old.to_fail
  pub starved : new.starved ≡ old.starved
  pub faults : after ≡ cond failed (raised before) before
  pub no_fewer : before ≤ after

-- The call found no memory and left the content, or it was made and left what it makes of it.
abbrev pub Outcome : {T : Type 0} → Call → List ℕ → Result T Failed → Log → Log → ℕ → ℕ → List ℕ → List ℕ → List ℕ → Type 0
Outcome call bytes result old new before after content now made =
    (IsErr result × Starves old new before after × (now ≡ content)) ⊎ (Made call bytes (is_err result) old new before after × (now ≡ made))
