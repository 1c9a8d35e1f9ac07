use Rattle.std.proofs.Common.{inl}
use Rattle.czi_rig.proofs.Faults.{faults_then}
use Rattle.czi_rig.proofs.Runs.{joined, started, weaker}
use Rattle.czi_rig.proofs.Spans.{one_span, spans_then}
use Rattle.czi_script.specs.View.{command_of}
use Rattle.czi_session.proofs.Ending.{one_within, one_sealed, one_ends}
use Rattle.czi_session.proofs.Stops.{image_looks, sealed_alone, sealed_no_image}
use Rattle.czi_session.proofs.top.single.Goals as goal

pub returns-in-Ok-clause-moments : goal.returns-in-Ok-clause-moments
returns-in-Ok-clause-moments g c = λ said s h.
    let m = g.E.Editor.model in
    let k = command_of c.args.command.now in
    joined g.R.Rig (weaker g.R.Rig (one_within m g.met.E.Editor.says_something s k said) (c.step.ensures.moments said s h))
    (weaker g.R.Rig (one_sealed m g.met.E.Editor.says_something s k said) (c.sealed.ensures.moments _ _ (c.in-Ok.ensures.ok said s h)))

pub returns-in-Ok-clause-alike : goal.returns-in-Ok-clause-alike
returns-in-Ok-clause-alike g c = λ said s h.
    let m = g.E.Editor.model in
    spans_then g.R.Rig m.alike c.args.rig.now c.step.new.rig c.sealed.new.rig (c.step.ensures.alike said s h) (one_span g.R.Rig m.alike c.step.new.rig c.sealed.new.rig (c.sealed.ensures.alike _ _ (c.in-Ok.ensures.ok said s h)))

pub returns-in-Ok-clause-ends : goal.returns-in-Ok-clause-ends
returns-in-Ok-clause-ends g c = λ said s h.
    one_ends g.E.Editor.model (g.R.Rig.state c.sealed.new.rig) s (command_of c.args.command.now) said c.sealed.result (g.R.Rig.state c.step.new.rig) _ (c.in-Ok.ensures.ok said s h) c.sealed.ensures.said c.sealed.ensures.ok c.sealed.ensures.stopped c.sealed.ensures.only

pub returns-in-Ok-clause-still : goal.returns-in-Ok-clause-still
returns-in-Ok-clause-still g c = λ said s h still. (
  record { replied = c.step.new.rig; replying = (c.in-Ok.ensures.still said s h still).0; sealing = c.sealed.ensures.moments _ _ (c.in-Ok.ensures.ok said s h) },
  λ is. absurd (sealed_no_image c.sealed.result c.sealed.ensures.only is),
)

pub returns-in-Ok-clause-alone : goal.returns-in-Ok-clause-alone
returns-in-Ok-clause-alone g c = sealed_alone c.sealed.result c.sealed.ensures.only

pub returns-in-Ok-clause-cause : goal.returns-in-Ok-clause-cause
returns-in-Ok-clause-cause g c = faults_then _ _ _ _ c.in-Ok.ensures.cause c.sealed.ensures.cause

pub returns-in-Err-clause-still : goal.returns-in-Err-clause-still
returns-in-Err-clause-still g c = λ said s h still.
    let so = c.in-Err.ensures.still said s h still in
    (record { replied = c.step.new.rig; replying = so.0; sealing = started g.R.Rig c.step.new.rig _ }, image_looks c.in-Err.stop so.1)

pub returns-in-Err-clause-moments : goal.returns-in-Err-clause-moments
returns-in-Err-clause-moments g c = λ said s h.
    weaker g.R.Rig (one_within g.E.Editor.model g.met.E.Editor.says_something s (command_of c.args.command.now) said) (c.step.ensures.moments said s h)

pub returns-in-Err-clause-ends : goal.returns-in-Err-clause-ends
returns-in-Err-clause-ends g c = λ said s h. inl (c.in-Err.ensures.stops said s h)
