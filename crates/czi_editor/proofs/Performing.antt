-- An edit, as an editor performs it: memory for the reply is taken, the engine does it, and its answer is replied.
use Rattle.std.proofs.Common.{◌≡◌, ◌++◌, ℕ, List, Some, Result, Ok, Err, OnOk, refl, sym, ap, ◌∙◌, subst}
use Rattle.std.specs.Prelude.{Option, IsErrAnd, is_some}
use Rattle.std.proofs.lemmas.Result.{on_ok_weaker}
use Rattle.czi_machine.specs.Edit.{Edit, Refusal}
use Rattle.czi_machine.specs.Machine.{after_edit}
use Rattle.czi_rig.specs.declared.file.File.TheVariants.{Image}
use Rattle.czi_rig.specs.declared.rig.Rig.{Ghosts}
use Rattle.czi_rig.specs.Faults.{Device, Faults, fault_at}
use Rattle.czi_rig.specs.Moments.{OnlyNow}
use Rattle.czi_rig.proofs.Faults.{no_faults}
use Rattle.czi_rig.proofs.Known.{known_seen}
use Rattle.czi_rig.proofs.Quiet.{untouched_here}
use Rattle.czi_rig.proofs.Runs.{started, weaker}
use Rattle.czi_script.specs.Script.{Command}
use Rattle.czi_session.specs.Course.{EitherSide, Stands}
use Rattle.czi_session.specs.Stops.{editor_device}
use Rattle.czi_session.specs.declared.stop.EditorStop.{EditorStop}
use Rattle.czi_session.specs.declared.stop.EditorStop.TheVariants.{Memory}
use Rattle.czi_engine.specs.Devices.{Fault, edit_fault, refusal_in}
use Rattle.czi_engine.specs.Edited.{Commands, Edits}
use Rattle.czi_engine.specs.Editing.{Accepts, Goes}
use Rattle.czi_engine.specs.declared.engine.Engine.{Engine}
use Rattle.czi_engine.specs.declared.error.EditError.{EditError}
use Rattle.czi_editor.specs.Machine.{AtState, Begun, IsReady, the_machine}
use Rattle.czi_editor.specs.Performs.{AtEach, IsReplied, Performs}
use Rattle.czi_editor.specs.Replies.{asked, edits, leads, reply, still_asked}
use Rattle.czi_editor.proofs.Editing.{accepted_stands, both_ok, if_some, leads_there, no_device, no_is, ok_is, refused_ready, refused_stands, same_all, sides, told_no_device, unasked_alike}

-- no call was made, since memory for the reply is wanting
starved : {D : Type 0} (rig : Ghosts D) → OnlyNow rig → (c : Command) (r : D) (x : Engine) (old new : List ℕ) → Performs rig c r r x x old new (Err Memory)
starved rig only c r x old new = record {
  moments = λ said b h. started rig r (EitherSide the_machine b c said);
  alike = λ said b h. unasked_alike rig only x r said b h;
  replied = tt;
  stands = tt;
  ready = tt;
  said = refl;
  goes_on = (untouched_here rig r).goes_on;
  still = λ said b h none. (refl, refl);
  starved = λ memory. refl;
  cause = no_faults (rig.state r);
}

pub unstarted : {D : Type 0} {rig : Ghosts D} {c : Command} {r : D} {x : Engine} {old new : List ℕ} {result : Result (Unit {0}) EditorStop} {error : EditorStop}
    → OnlyNow rig → IsErrAnd result (λ stop. stop ≡ error) → error ≡ Memory → Performs rig c r r x x old new result
unstarted {rig = rig} {c = c} {r = r} {x = x} {old = old} {new = new} {result = Ok done} only is memory = absurd is
unstarted {rig = rig} {c = c} {r = r} {x = x} {old = old} {new = new} {result = Err stop} only is memory = subst (λ (s : EditorStop). Performs rig c r r x x old new (Err s)) (sym (is ∙ memory)) (starved rig only c r x old new)

always_ok : {T E : Type 0} {P : Type 0} (r : Result T E) → P → OnOk r P
always_ok (Ok t) p = p
always_ok (Err e) p = tt

module _ {D E : Type 0} (tells : E → Fault) (rig : Ghosts D) (c : Command) (go : Goes) (asks : asked c ≡ leads go) (before after : D) (x y : Engine) (old new : List ℕ) (result : Result (Unit {0}) EditorStop) (ready : IsReady x (rig.state before)) where
  -- the edit was accepted
  accepted : (n : ℕ) → Commands tells rig go before after x.state y.state (Ok n) → IsReplied tells (Ok n) old new result → Performs rig c before after x y old new result
  accepted n done replies =
      let taken : (said : List ℕ) (b : Begun) (h : Stands the_machine (AtState x) (rig.state before) said b) → Accepts go b.start b.state (rig.state after) y.state n
      = λ said b h. done.accepted h.now.image.seen (known_seen (rig.state before) Image h.now h.known) b.start h.stands.live b.state h.stands.has in
      record {
        moments = λ said b h. weaker rig (sides b c go asks h.now.said said h.said_is) (done.moments h.now h.known b.start h.stands.live b.state h.stands.has);
        alike = λ said b h. done.alike h.now h.known b.start h.stands.live b.state h.stands.has;
        replied = always_ok result (λ said b h.
            let a = taken said b h in
            replies.accepted.1 ∙ ap (λ (z : List ℕ). old ++ z) (ok_is b.state a.state c go asks n a.goes a.numbered));
        stands = always_ok result (λ said b h. subst (λ (t : Begun). Stands the_machine (AtState y) (rig.state after) said t) (leads_there b c go asks)
            (accepted_stands x y (rig.state before) (rig.state after) said b go h n (taken said b h) done.stands done.armed done.goes_on done.said));
        ready = always_ok result (record { stands = done.stands; up = done.up });
        said = done.said;
        goes_on = done.goes_on;
        still = λ said b h none.
            let refused = subst (still_asked b.state) asks none in
            absurd (done.refuses h.now.image.seen (known_seen (rig.state before) Image h.now h.known) b.start h.stands.live b.state h.stands.has refused.0 refused.1);
        starved = λ memory. cc (memory, replies.accepted.0);
        cause = subst (λ (at : Option Device). Faults at (rig.state before) (rig.state after)) (sym replies.device) done.cause;
      }

  -- it was refused, or failed
  refused : (error : E) → Commands tells rig go before after x.state y.state (Err error) → IsReplied tells (Err error) old new result → Performs rig c before after x y old new result
  refused error done replies =
      let told : (r : Refusal) → refusal_in (tells error) ≡ Some r → (said : List ℕ) (b : Begun) (h : Stands the_machine (AtState x) (rig.state before) said b) → go b.state ≡ Err r
      = λ r is said b h. if_some (refusal_in (tells error)) r (λ (z : Refusal). go b.state ≡ Err z) is (done.refused h.now.image.seen (known_seen (rig.state before) Image h.now h.known) b.start h.stands.live b.state h.stands.has) in
      record {
        moments = λ said b h. weaker rig (sides b c go asks h.now.said said h.said_is) (done.moments h.now h.known b.start h.stands.live b.state h.stands.has);
        alike = λ said b h. done.alike h.now h.known b.start h.stands.live b.state h.stands.has;
        replied = on_ok_weaker result (λ r said b h. r.2 ∙ ap (λ (z : List ℕ). old ++ z) (no_is b.state c go asks r.0 (told r.0 r.1 said b h))) replies.refused;
        stands = on_ok_weaker result (λ r said b h.
            let kept = done.quiet (no_device (tells error) r.0 r.1) in
            subst (λ (t : Begun). Stands the_machine (AtState y) (rig.state after) said t) (leads_there b c go asks)
            (refused_stands x y (rig.state before) (rig.state after) said b go h r.0 (told r.0 r.1 said b h) kept.1 (same_all rig kept.0))) replies.refused;
        ready = on_ok_weaker result (λ r.
            let kept = done.quiet (no_device (tells error) r.0 r.1) in
            let same = same_all rig kept.0 in
            refused_ready x y (rig.state before) (rig.state after) ready kept.1 (record { image = same.image; journal = same.journal }) done.goes_on) replies.refused;
        said = done.said;
        goes_on = done.goes_on;
        still = λ said b h none.
            let refused = subst (still_asked b.state) asks none in
            let off = told_no_device (tells error) refused.0 (done.refuses h.now.image.seen (known_seen (rig.state before) Image h.now h.known) b.start h.stands.live b.state h.stands.has refused.0 refused.1) in
            (replies.device ∙ off, (done.quiet (ap is_some off)).0);
        starved = λ memory. (done.quiet (ap is_some (sym replies.device ∙ ap (fault_at editor_device) memory))).0;
        cause = subst (λ (at : Option Device). Faults at (rig.state before) (rig.state after)) (sym replies.device) done.cause;
      }

  done_as : (answer : Result ℕ E) → Commands tells rig go before after x.state y.state answer → IsReplied tells answer old new result → Performs rig c before after x y old new result
  done_as (Ok n) done replies = accepted n done replies
  done_as (Err error) done replies = refused error done replies

-- A command that goes on is performed where the engine did that, and what it answered was appended to what was there.
pub performed_by : {D E : Type 0} (tells : E → Fault) {rig : Ghosts D} {c : Command} {before after : D} {x y : Engine} {old held new : List ℕ} {answer : Result ℕ E} {result : Result (Unit {0}) EditorStop} (go : Goes) → asked c ≡ leads go
    → IsReady x (rig.state before) → Commands tells rig go before after x.state y.state answer → held ≡ old → IsReplied tells answer held new result → Performs rig c before after x y old new result
performed_by tells {rig = rig} {c = c} {before = before} {after = after} {x = x} {y = y} {old = old} {new = new} {answer = answer} {result = result} go asks ready done kept replies =
    done_as tells rig c go asks before after x y old new result ready answer done (subst (λ (z : List ℕ). IsReplied tells answer z new result) kept replies)

-- so is an edit
pub performed : {D : Type 0} {rig : Ghosts D} {c : Command} {before after : D} {x y : Engine} {old held new : List ℕ} {answer : Result ℕ EditError} {result : Result (Unit {0}) EditorStop} (e : Edit) → asked c ≡ edits e
    → IsReady x (rig.state before) → Edits rig (λ s. after_edit s e) before after x.state y.state answer → held ≡ old → IsReplied edit_fault answer held new result → Performs rig c before after x y old new result
performed e asks ready done kept replies = performed_by edit_fault (λ s. after_edit s e) asks ready done kept replies

-- After Ok the reply was appended, and the engine stands at the state after the command.
pub performed_ok : {D : Type 0} {rig : Ghosts D} {c : Command} {before after : D} {x y : Engine} {old new : List ℕ} {result : Result (Unit {0}) EditorStop} → Performs rig c before after x y old new result
    → OnOk result (AtEach x (rig.state before) (λ said b. (new ≡ old ++ reply b.state c) × Stands the_machine (AtState y) (rig.state after) said (the_machine.after b c)))
performed_ok {result = result} p = both_ok result (λ replied stands said b h. (replied said b h, stands said b h)) p.replied p.stands
