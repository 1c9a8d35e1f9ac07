-- Faults of a run, step by step.
use Rattle.std.proofs.Common.{◌≡◌, ◌⊎◌, inl, inr, ℕ, Bool, true, false, Option, None, Result, Ok, Err, refl, sym, ap, ◌∙◌, subst}
use Rattle.std.specs.Prelude.{◌≢◌, IfErr}
use Rattle.czi_rig.specs.State.{State}
use Rattle.czi_rig.specs.Faults.{Counted, Device, Faults, FaultsWith, fault_at, is_at_input}
use Rattle.czi_rig.proofs.Faults.{faults_then}
use Rattle.czi_script.specs.declared.kind.Kind.{Kind}
use Rattle.czi_script.specs.declared.error.ScriptError.{ScriptError}
use Rattle.czi_script.specs.declared.error.ScriptError.TheVariants.{Fault as FaultError, Input as InputError, TooLong as TooLongError, Memory as MemoryError}
use Rattle.czi_script.specs.Reader.{script_device}
use Rattle.czi_session.specs.declared.stop.EditorStop.{EditorStop}
use Rattle.czi_session.specs.declared.stop.EditorStop.TheVariants.{Image as ImageOf, Journal as JournalOf, Memory as MemoryOf}
use Rattle.czi_session.specs.declared.stop.Stop.{Stop}
use Rattle.czi_session.specs.declared.stop.Stop.TheVariants.{Script, Image, Journal, Output, Input, Memory, TooLong}
use Rattle.czi_session.specs.declared.stop.Ended.{Ended}
use Rattle.czi_session.specs.declared.stop.Ended.TheVariants.{Done, Refused, Stopped}
use Rattle.czi_session.specs.Stops.{EndsAlone, EndsUnopened, IsFile, StopsAlone, end_device, stop_by, stop_device, stop_of}

-- Nothing had failed, the input included, and then this.
pub with_then : (at : Option Device) (a b c : State) (x y z : ℕ) → FaultsWith None a b x y → FaultsWith at b c y z → FaultsWith at a c x z
with_then at a b c x y z none then = record {
  rig = faults_then at a b c none.rig then.rig;
  input_count = subst (λ n. Counted (is_at_input at) n z) none.input_count then.input_count;
}

-- the input had no part in it
no_input : (stop : Stop) (x y : ℕ) → StopsAlone stop → y ≡ x → Counted (is_at_input (stop_device stop)) x y
no_input (Script number kind) x y alone same = absurd alone
no_input Image x y alone same = same
no_input Journal x y alone same = same
no_input Output x y alone same = same
no_input Input x y alone same = absurd alone
no_input Memory x y alone same = same
no_input TooLong x y alone same = absurd alone

-- and then a step stopped
pub stopped_then : (stop : Stop) (a b c : State) (x y z : ℕ) → FaultsWith None a b x y → z ≡ y → StopsAlone stop → Faults (stop_device stop) b c → FaultsWith (stop_device stop) a c x z
stopped_then stop a b c x y z none same alone then = record { rig = faults_then (stop_device stop) a b c none.rig then; input_count = no_input stop x z alone (same ∙ none.input_count) }

-- and then the reader
pub read_then : (error : ScriptError) (a b : State) (x y z : ℕ) → FaultsWith None a b x y → Counted (is_at_input (script_device error)) y z → FaultsWith (stop_device (stop_by error)) a b x z
read_then (FaultError number kind) a b x y z none then = record { rig = none.rig; input_count = then ∙ none.input_count }
read_then InputError a b x y z none then = record {
  rig = record { image_count = none.rig.image_count; journal_count = none.rig.journal_count; output_count = none.rig.output_count };
  input_count = subst (λ n. Counted true n z) none.input_count then;
}
read_then TooLongError a b x y z none then = record { rig = none.rig; input_count = then ∙ none.input_count }
read_then MemoryError a b x y z none then = record { rig = none.rig; input_count = then ∙ none.input_count }

-- and then the journal was sealed
pub sealed_then : (result : Result (Unit {0}) Stop) (a b c : State) (x y : ℕ) → FaultsWith None a b x y → IfErr result (λ stop. stop ≡ Journal) → Faults (fault_at stop_device result) b c → FaultsWith (fault_at stop_device result) a c x y
sealed_then (Ok u) a b c x y none only then = record { rig = faults_then None a b c none.rig then; input_count = none.input_count }
sealed_then (Err stop) a b c x y none only then = record {
  rig = faults_then (stop_device stop) a b c none.rig then;
  input_count = subst (λ s. Counted (is_at_input (stop_device s)) x y) (sym only) none.input_count;
}

-- and then a fault's text was said
pub said_then : (stop : Stop) (number : ℕ) (kind : Kind) (a b c : State) (x y : ℕ) → FaultsWith None a b x y → (stop ≡ Script number kind) ⊎ (stop ≡ Output) ⊎ (stop ≡ Memory) → Faults (stop_device stop) b c → FaultsWith (stop_device stop) a c x y
said_then stop number kind a b c x y none only then = record {
  rig = faults_then (stop_device stop) a b c none.rig then;
  input_count = elim only [
    | inl script ↦ counted (Script number kind) refl script
    | inr (inl output) ↦ counted Output refl output
    | inr (inr memory) ↦ counted Memory refl memory
  ];
}
  where
    counted : (of : Stop) → is_at_input (stop_device of) ≡ false → stop ≡ of → Counted (is_at_input (stop_device stop)) x y
    counted of alone is = subst (λ s. Counted (is_at_input (stop_device s)) x y) (sym is) (subst (λ (b : Bool). Counted b x y) (sym alone) none.input_count)

pub editor_alone : (stop : EditorStop) → StopsAlone (stop_of stop)
editor_alone ImageOf = tt
editor_alone JournalOf = tt
editor_alone MemoryOf = tt

pub sealed_alone : (result : Result (Unit {0}) Stop) → IfErr result (λ stop. stop ≡ Journal) → IfErr result StopsAlone
sealed_alone (Ok u) only = tt
sealed_alone (Err stop) only = subst StopsAlone (sym only) tt

pub sealed_no_image : (result : Result (Unit {0}) Stop) → IfErr result (λ stop. stop ≡ Journal) → result ≢ Err Image
sealed_no_image (Ok u) only = λ is. cc
sealed_no_image (Err stop) only = λ is. let same : Journal ≡ Image = cc in cc

pub unopened_alone : (ended : Ended) → EndsUnopened ended → EndsAlone ended
unopened_alone Done ends = absurd ends
unopened_alone Refused ends = tt
unopened_alone (Stopped stop) ends = ends

-- nothing was read
pub alone_with : (ended : Ended) (a b : State) (x : ℕ) → EndsAlone ended → Faults (end_device ended) a b → FaultsWith (end_device ended) a b x x
alone_with Done a b x ends cause = record { rig = cause; input_count = refl }
alone_with Refused a b x ends cause = record { rig = cause; input_count = refl }
alone_with (Stopped stop) a b x ends cause = record { rig = cause; input_count = no_input stop x x ends refl }

-- what is so of each error is so of an answer's
pub if_err_at : {T E : Type 0} {P Q : E → Type 0} → ((error : E) → P error → Q error) → (result : Result T E) → IfErr result P → IfErr result Q
if_err_at h (Ok done) p = tt
if_err_at h (Err error) p = h error p

-- where no device failed, no file did
pub no_file : (at : Option Device) → at ≡ None → IsFile at → ⊥
no_file at none file = subst IsFile none file

-- where the image alone may have failed, it failed
pub image_looks : {P : Type 0} (stop : Stop) → (IsFile (stop_device stop) → (let r : Result (Unit {0}) Stop = Err stop in r ≡ Err Image) × P) → (let r : Result (Unit {0}) Stop = Err stop in r) ≡ Err Image → P
image_looks stop at is = let same : stop ≡ Image = cc in (at (subst (λ s. IsFile (stop_device s)) (sym same) tt)).1

pub stopped_looks : {P : Type 0} (stop : Stop) → ((let r : Result (Unit {0}) Stop = Err stop in r) ≡ Err Image → P) → Stopped stop ≡ Stopped Image → P
stopped_looks stop at is = let same : stop ≡ Image = cc in at (ap (λ (s : Stop). let r : Result (Unit {0}) Stop = Err s in r) same)
