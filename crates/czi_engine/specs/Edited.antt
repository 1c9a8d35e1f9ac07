-- What every command keeps to, whatever it is, and what its errors tell.
use Rattle.std.specs.Prelude.{◌≡◌, ℕ, Result, IfOk, IfErr, OnOk, IsTrue, IsFalse}
use Rattle.std.specs.Option.{ForSome}
use Rattle.czi_format.specs.Live.{Live}
use Rattle.czi_machine.specs.State.{State as MachineState}
use Rattle.czi_rig.specs.declared.rig.Rig.{Ghosts}
use Rattle.czi_rig.specs.declared.file.File.TheVariants.{Image}
use Rattle.czi_rig.specs.State.{State, seen_of}
use Rattle.czi_rig.specs.Passes.{GoesOn}
use Rattle.czi_rig.specs.Moments.{Devices, devices, Throughout}
use Rattle.czi_rig.specs.Spans.{EachTwo}
use Rattle.czi_rig.specs.Faults.{Faults, fault_at}
use Rattle.czi_engine.specs.Devices.{Fault, device_in, edit_fault, is_device}
use Rattle.czi_engine.specs.Editing.{Accepts, Alike, AsBefore, DuringEdit, Goes, Refuses, RefusesToo}
use Rattle.czi_engine.specs.Standing.{HasState, Origin, StandsOnRig}
use Rattle.czi_engine.specs.declared.engine.EngineState.{EngineState}
use Rattle.czi_engine.specs.declared.error.EditError.{EditError}

-- for each state that an engine has on a device that tells both files and what was said
abbrev pub OnFiles : State → EngineState → (Devices → Origin → MachineState → Type 0) → Type 0
OnFiles rig x P = ForSome (devices rig) (λ all. (o : Origin) (live : Live) (s : MachineState) → HasState o all.image.seen live s x → P all o s)

-- for each state that it has on a device that tells the image
abbrev pub OnImage : State → EngineState → (Origin → MachineState → Type 0) → Type 0
OnImage rig x P = ForSome (seen_of rig Image) (λ bytes. (o : Origin) (live : Live) (s : MachineState) → HasState o bytes live s x → P o s)

pub record Commands {D E : Type 0} (tells : E → Fault) (rig : Ghosts D) (go : Goes) (before after : D) (old new : EngineState) (result : Result ℕ E) : Type 0 where
  -- At every moment the files open as the state before the command or as the one after it. Read without the journal the image waits
  -- for it, or it shows the document of that state or of the one before.
  pub moments : OnFiles (rig.state before) old (λ all o s. Throughout rig before after (DuringEdit o s go all.said))
  -- Any two pairs have the same bytes in each item that both need.
  pub alike : OnFiles (rig.state before) old (λ all o s. EachTwo rig before after Alike)
  -- After Ok the engine stands on the state to which the machine goes.
  pub accepted : IfOk result (λ n. OnImage (rig.state before) old (λ o s. Accepts go o s (rig.state after) new n))
  pub stands : OnOk result (StandsOnRig (rig.state after) new)
  pub up : OnOk result (IsFalse new.down)
  pub armed : OnOk result (IsTrue new.journal.armed)
  -- A refusal is the machine's, and what the machine refuses is refused before any device is asked.
  pub refused : IfErr result (λ error. OnImage (rig.state before) old (λ o s. Refuses go s (tells error)))
  pub refuses : OnImage (rig.state before) old (λ o s. RefusesToo tells go s result)
  -- It leaves all as it was, and so does want of memory.
  pub quiet : IfErr result (λ error. IsFalse (is_device (tells error)) → (after ≡ before) × AsBefore old new)
  -- After a device's fault the engine is down.
  pub down : IfErr result (λ error. new.down ≡ is_device (tells error))
  pub said : (rig.state after).said ≡ (rig.state before).said
  pub goes_on : GoesOn (rig.state before) (rig.state after)
  pub cause : Faults (fault_at (λ error. device_in (tells error)) result) (rig.state before) (rig.state after)

-- what every edit keeps to
abbrev pub Edits : {D : Type 0} → Ghosts D → Goes → (before after : D) (old new : EngineState) → Result ℕ EditError → Type 0
Edits rig go before after old new result = Commands edit_fault rig go before after old new result
