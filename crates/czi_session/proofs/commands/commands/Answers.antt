use Rattle.std.proofs.Common.{arith, ap, refl, ◌∙◌, Ok}
use Rattle.std.proofs.lemmas.Result.{err_from_is_err_and}
use Rattle.czi_rig.proofs.Faults.{no_faults}
use Rattle.czi_rig.proofs.Known.{goes_then}
use Rattle.czi_rig.proofs.Runs.{started}
use Rattle.czi_rig.proofs.Spans.{one_span}
use Rattle.czi_session.proofs.Midway.{alike_next, midway_begins, midway_next, moments_next, reader_stops, step_stops, whole, taken_first, sound_first, taken_on, takes_any, takes_stopped}
use Rattle.czi_session.proofs.Spoken.{resting_alike}
use Rattle.czi_session.proofs.Stops.{read_then, stopped_then, with_then}
use Rattle.czi_session.proofs.commands.commands.Goals as goal

pub loop-command-init : goal.loop-command-init
loop-command-init g c = record {
  midway = λ cs end said s h. midway_begins g.E.Editor.model (g.E.Editor.stands c.args.editor.now) c.in-Ok.reader (g.S.Source.input c.args.input.now).left (g.R.Rig.state c.args.rig.now) s cs end said c.in-Ok.ensures h;
  moments = λ cs end said s h last. started g.R.Rig c.args.rig.now _;
  alike = λ cs end said s h. one_span g.R.Rig g.E.Editor.model.alike c.args.rig.now c.args.rig.now
      (resting_alike g.R.Rig g.met.R.Rig.only_now g.E.Editor.model (g.E.Editor.stands c.args.editor.now) (g.met.E.Editor.rests_now c.args.editor.now) s said c.args.rig.now h.stands);
  taken = taken_first _ c.in-Ok.reader c.in-Ok.ensures;
  sound = sound_first c.in-Ok.reader c.in-Ok.ensures;
  none = ap (λ r. r.error) c.in-Ok.ensures;
  ready = c.requires.ready;
  goes_on = search arith;
  later = omega arith;
  no_fault = record { rig = no_faults _; input_count = refl };
}

pub loop-command-preserved : goal.loop-command-preserved
loop-command-preserved g c =
    let m = g.E.Editor.model in
    let inv = c.loop-command.invariant in
    let on = g.E.Editor.stands c.loop-command.editor in
    let left = (g.S.Source.input c.loop-command.input).left in
    let leaves = rw c.in-Ok-Some.field-0-is at (c.in-Ok-Some.ensures.leaves inv.none) in
    let count = rw c.in-Ok-Some.field-0-is at (c.in-Ok-Some.ensures.counts inv.none) in
    record {
      midway = λ cs end said s h. midway_next m on c.loop-command.reader left (g.R.Rig.state c.loop-command.rig) s cs end said h.input (inv.midway cs end said s h) c.in-Ok-Some.command c.next.new.self _ leaves
          (g.E.Editor.stands c.step-done.new.editor) (g.R.Rig.state c.step-done.new.rig) count c.in_ok-done-in-Ok-Some.ensures.ok;
      moments = λ cs end said s h last. moments_next m on c.loop-command.reader left (g.R.Rig.state c.loop-command.rig) s cs end said h.input (inv.midway cs end said s h) c.in-Ok-Some.command c.next.new.self _ leaves
          g.met.E.Editor.says_something g.R.Rig c.args.rig.now c.loop-command.rig c.step-done.new.rig last (inv.moments cs end said s h last) c.step-done.ensures.moments;
      alike = λ cs end said s h. alike_next m on c.loop-command.reader left (g.R.Rig.state c.loop-command.rig) s cs end said h.input (inv.midway cs end said s h) c.in-Ok-Some.command c.next.new.self _ leaves
          g.R.Rig c.args.rig.now c.loop-command.rig c.step-done.new.rig (inv.alike cs end said s h) c.step-done.ensures.alike;
      taken = taken_on _ left _ c.loop-command.reader c.next.new.self inv.taken (c.in-Ok-Some.ensures.takes inv.none);
      sound = c.next.ensures.sound;
      none = c.in-Ok-Some.ensures.keeps;
      ready = c.in_ok-done-in-Ok-Some.ensures.ready;
      goes_on = goes_then _ _ _ inv.goes_on c.step-done.ensures.goes_on;
      later = omega (arith, inv.later, c.next.ensures.later);
      no_fault = with_then _ _ _ _ _ _ _ inv.no_fault (record { rig = c.in_ok-done-in-Ok-Some.ensures.cause; input_count = c.in-Ok-Some.ensures.cause inv.none });
    }

pub returns-in_err-done-in-Ok-Some-clause-moments : goal.returns-in_err-done-in-Ok-Some-clause-moments
returns-in_err-done-in-Ok-Some-clause-moments g c = λ cs end said s h last.
    let m = g.E.Editor.model in
    let inv = c.loop-command.invariant in
    let on = g.E.Editor.stands c.loop-command.editor in
    let left = (g.S.Source.input c.loop-command.input).left in
    let leaves = rw c.in-Ok-Some.field-0-is at (c.in-Ok-Some.ensures.leaves inv.none) in
    moments_next m on c.loop-command.reader left (g.R.Rig.state c.loop-command.rig) s cs end said h.input (inv.midway cs end said s h) c.in-Ok-Some.command c.next.new.self _ leaves
    g.met.E.Editor.says_something g.R.Rig c.args.rig.now c.loop-command.rig c.step-done.new.rig last (inv.moments cs end said s h last) c.step-done.ensures.moments

pub returns-in_err-done-in-Ok-Some-clause-alike : goal.returns-in_err-done-in-Ok-Some-clause-alike
returns-in_err-done-in-Ok-Some-clause-alike g c = λ cs end said s h.
    let m = g.E.Editor.model in
    let inv = c.loop-command.invariant in
    let on = g.E.Editor.stands c.loop-command.editor in
    let left = (g.S.Source.input c.loop-command.input).left in
    let leaves = rw c.in-Ok-Some.field-0-is at (c.in-Ok-Some.ensures.leaves inv.none) in
    alike_next m on c.loop-command.reader left (g.R.Rig.state c.loop-command.rig) s cs end said h.input (inv.midway cs end said s h) c.in-Ok-Some.command c.next.new.self _ leaves
    g.R.Rig c.args.rig.now c.loop-command.rig c.step-done.new.rig (inv.alike cs end said s h) c.step-done.ensures.alike

pub returns-in_default-clause-alike : goal.returns-in_default-clause-alike
returns-in_default-clause-alike g c = λ cs end said s h. one_span g.R.Rig g.E.Editor.model.alike c.args.rig.now c.args.rig.now
    (resting_alike g.R.Rig g.met.R.Rig.only_now g.E.Editor.model (g.E.Editor.stands c.args.editor.now) (g.met.E.Editor.rests_now c.args.editor.now) s said c.args.rig.now h.stands)

pub returns-in_err-done-in-Ok-Some-clause-ends : goal.returns-in_err-done-in-Ok-Some-clause-ends
returns-in_err-done-in-Ok-Some-clause-ends g c = λ cs end said s h.
    let p = err_from_is_err_and c.from_residual.result c.from_residual.ensures.1 in
    let m = g.E.Editor.model in
    let inv = c.loop-command.invariant in
    let on = g.E.Editor.stands c.loop-command.editor in
    let left = (g.S.Source.input c.loop-command.input).left in
    let leaves = rw c.in-Ok-Some.field-0-is at (c.in-Ok-Some.ensures.leaves inv.none) in
    rw (p.1, p.2) (step_stops m on c.loop-command.reader left (g.R.Rig.state c.loop-command.rig) s cs end said h.input (inv.midway cs end said s h) c.in-Ok-Some.command c.next.new.self _ leaves
    (g.R.Rig.state c.step-done.new.rig) (g.S.Source.input c.next.new.input).left _ c.in_err-done-in-Ok-Some.ensures.stops)

pub returns-in_err-done-in-Ok-Some-clause-takes : goal.returns-in_err-done-in-Ok-Some-clause-takes
returns-in_err-done-in-Ok-Some-clause-takes g c =
    let inv = c.loop-command.invariant in
    takes_any _ _ c.next.new.self c.next.ensures.sound (taken_on _ (g.S.Source.input c.loop-command.input).left _ c.loop-command.reader c.next.new.self inv.taken (c.in-Ok-Some.ensures.takes inv.none)) c.from_residual.result

pub returns-in_err-done-in-Ok-Some-clause-cause : goal.returns-in_err-done-in-Ok-Some-clause-cause
returns-in_err-done-in-Ok-Some-clause-cause g c =
    let p = err_from_is_err_and c.from_residual.result c.from_residual.ensures.1 in
    rw (p.1, p.2) (stopped_then _ _ _ _ _ _ _ c.loop-command.invariant.no_fault (c.in-Ok-Some.ensures.cause c.loop-command.invariant.none) c.in_err-done-in-Ok-Some.ensures.alone c.in_err-done-in-Ok-Some.ensures.cause)

pub returns-in-Ok-None-clause-cause : goal.returns-in-Ok-None-clause-cause
returns-in-Ok-None-clause-cause g c =
    let inv = c.loop-command.invariant in
    record { rig = inv.no_fault.rig; input_count = c.in-Ok-None.ensures.cause inv.none ∙ inv.no_fault.input_count }

pub returns-in-Err-clause-cause : goal.returns-in-Err-clause-cause
returns-in-Err-clause-cause g c =
    let inv = c.loop-command.invariant in
    rw c.stop_by.ensures (read_then c.in-Err.error _ _ _ _ _ inv.no_fault (c.in-Err.ensures.cause inv.none))

pub returns-in-Ok-None-clause-ends : goal.returns-in-Ok-None-clause-ends
returns-in-Ok-None-clause-ends g c = λ cs end said s h.
    let m = g.E.Editor.model in
    let inv = c.loop-command.invariant in
    let on = g.E.Editor.stands c.loop-command.editor in
    let left = (g.S.Source.input c.loop-command.input).left in
    let leaves = rw c.in-Ok-None.field-0-is at (c.in-Ok-None.ensures.leaves inv.none) in
    let finds = rw c.in-Ok-None.field-0-is at (c.in-Ok-None.ensures.finds inv.none) in
    whole m on c.loop-command.reader left (g.R.Rig.state c.loop-command.rig) s cs end said h.input (inv.midway cs end said s h) inv.sound c.next.new.self (g.S.Source.input c.next.new.input).left finds leaves

pub returns-in-Ok-None-clause-takes : goal.returns-in-Ok-None-clause-takes
returns-in-Ok-None-clause-takes g c =
    let inv = c.loop-command.invariant in
    takes_any _ _ c.next.new.self c.next.ensures.sound (taken_on _ (g.S.Source.input c.loop-command.input).left _ c.loop-command.reader c.next.new.self inv.taken (c.in-Ok-None.ensures.takes inv.none)) (Ok tt)

pub returns-in-Err-clause-ends : goal.returns-in-Err-clause-ends
returns-in-Err-clause-ends g c = λ cs end said s h.
    let m = g.E.Editor.model in
    let inv = c.loop-command.invariant in
    let on = g.E.Editor.stands c.loop-command.editor in
    let left = (g.S.Source.input c.loop-command.input).left in
    let e = c.in-Err.ensures in
    rw c.stop_by.ensures (reader_stops m on c.loop-command.reader left (g.R.Rig.state c.loop-command.rig) s cs end said h.input (inv.midway cs end said s h) (g.met.E.Editor.rests_now c.loop-command.editor) inv.sound c.next.new.self
    (g.S.Source.input c.next.new.input).left (e.counts inv.none).0 c.in-Err.error (e.finds inv.none) (e.leaves inv.none) (e.counts inv.none).1)

pub returns-in-Err-clause-takes : goal.returns-in-Err-clause-takes
returns-in-Err-clause-takes g c =
    let inv = c.loop-command.invariant in
    rw c.stop_by.ensures (takes_stopped _ (g.S.Source.input c.loop-command.input).left _ c.loop-command.reader c.next.new.self c.in-Err.error c.next.ensures.sound inv.taken (c.in-Err.ensures.takes inv.none))
