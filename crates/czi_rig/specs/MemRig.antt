-- What a rig in memory tells of itself.
use Rattle.std.specs.Prelude.{ℕ, Bool}
use Rattle.czi_rig.specs.declared.call.Call.{Call}
use Rattle.czi_rig.specs.declared.memory_rig.MemRig.{MemRig}
use Rattle.czi_rig.specs.State.{State, Instant}
use Rattle.czi_rig.specs.Memory.{history, faults}
use Rattle.czi_rig.specs.Replay.{state_of, LeftSince, History, Faults}
use Rattle.czi_rig.specs.Told.{Told, Accounts, told_by}

-- what its files had at first, and the calls since
abbrev pub history_of : MemRig → History
history_of r = history r.image r.journal r.log

abbrev pub faults_in : MemRig → Faults
faults_in r = faults r.image r.journal r.output_faults

-- the state of the device, and what a crash since some moment may have left
abbrev pub state_in : MemRig → State
state_in r = state_of (history_of r) (faults_in r)

abbrev pub left_in : MemRig → ℕ → Instant
left_in r = LeftSince (history_of r)

abbrev pub told_in : MemRig → Told
told_in r = told_by r.log

-- a call failed exactly where it was to fail or found no memory
abbrev pub FailsAsTold : Call → Bool → MemRig → MemRig → Type 0
FailsAsTold call failed old new = Accounts call failed (told_in old) (told_in new) (history_of old) (history_of new) (faults_in old) (faults_in new)
