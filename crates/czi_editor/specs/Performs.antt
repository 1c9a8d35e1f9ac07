-- What every command keeps to, whatever it is, and what its answer replies.
use Rattle.std.specs.Prelude.{◌≡◌, ℕ, List, ◌++◌, None, Some, Result, Ok, Err, IfOk, IfErr, OnOk}
use Rattle.czi_machine.specs.Edit.{Refusal}
use Rattle.czi_rig.specs.declared.rig.Rig.{Ghosts}
use Rattle.czi_rig.specs.Faults.{Faults, fault_at}
use Rattle.czi_rig.specs.Moments.{Throughout}
use Rattle.czi_rig.specs.Passes.{GoesOn}
use Rattle.czi_rig.specs.Spans.{EachTwo}
use Rattle.czi_rig.specs.State.{State}
use Rattle.czi_script.specs.Script.{Command}
use Rattle.czi_session.specs.Course.{EitherSide, Stands}
use Rattle.czi_session.specs.Stops.{editor_device}
use Rattle.czi_session.specs.declared.stop.EditorStop.{EditorStop}
use Rattle.czi_session.specs.declared.stop.EditorStop.TheVariants.{Memory}
use Rattle.czi_engine.specs.Devices.{Fault, device_in, refusal_in}
use Rattle.czi_engine.specs.declared.engine.Engine.{Engine}
use Rattle.czi_report.specs.Replies.{no_line, ok_line}
use Rattle.czi_editor.specs.Machine.{AtState, Begun, IsReady, the_machine}
use Rattle.czi_editor.specs.Replies.{reply, still}

-- for each state at which an engine stands on a device, where so much was said
abbrev pub AtEach : Engine → State → (List ℕ → Begun → Type 0) → Type 0
AtEach x state P = (said : List ℕ) (b : Begun) → Stands the_machine (AtState x) state said b → P said b

-- A command was performed by an engine on a device, and its reply appended to a text.
pub record Performs {D : Type 0} (rig : Ghosts D) (c : Command) (before after : D) (x y : Engine) (old new : List ℕ) (result : Result (Unit {0}) EditorStop) : Type 0 where
  -- At every moment the files open as the state before the command or as the one after it.
  pub moments : AtEach x (rig.state before) (λ said b. Throughout rig before after (EitherSide the_machine b c said))
  -- Any two pairs have the same bytes in each item that both need.
  pub alike : AtEach x (rig.state before) (λ said b. EachTwo rig before after the_machine.alike)
  -- After Ok the reply was appended, and the engine stands at the state after the command and may be used.
  pub replied : OnOk result (AtEach x (rig.state before) (λ said b. new ≡ old ++ reply b.state c))
  pub stands : OnOk result (AtEach x (rig.state before) (λ said b. Stands the_machine (AtState y) (rig.state after) said (the_machine.after b c)))
  pub ready : OnOk result (IsReady y (rig.state after))
  pub said : (rig.state after).said ≡ (rig.state before).said
  pub goes_on : GoesOn (rig.state before) (rig.state after)
  -- Where the command changes nothing, no device is asked, and memory alone may be wanting.
  pub still : AtEach x (rig.state before) (λ said b. still b.state c → (fault_at editor_device result ≡ None) × (after ≡ before))
  -- Memory is wanting before any device is asked.
  pub starved : result ≡ Err Memory → after ≡ before
  pub cause : Faults (fault_at editor_device result) (rig.state before) (rig.state after)

-- What a command answered was replied: the line of its number was appended, or that of its refusal, unless memory is wanting. A
-- fault of a device and want of memory are no refusals: they stop the run.
pub record IsReplied {E : Type 0} (tells : E → Fault) (answer : Result ℕ E) (old new : List ℕ) (result : Result (Unit {0}) EditorStop) : Type 0 where
  pub accepted : IfOk answer (λ n. (result ≡ Ok tt) × (new ≡ old ++ ok_line n))
  pub refused : IfErr answer (λ error. OnOk result ((refusal : Refusal) × (refusal_in (tells error) ≡ Some refusal) × (new ≡ old ++ no_line refusal)))
  pub device : fault_at editor_device result ≡ fault_at (λ error. device_in (tells error)) answer
