use Rattle.std.proofs.Common.{refl, Err}
use Rattle.czi_rig.proofs.Runs.{joined, weaker}
use Rattle.czi_rig.proofs.Spans.{one_span, spans_then}
use Rattle.czi_session.specs.Text.{last_text}
use Rattle.czi_session.proofs.Ending.{reads_sealed, reads_fault, stopped, fault_said, sealed}
use Rattle.czi_session.proofs.Midway.{takes_more, most_any}
use Rattle.czi_session.proofs.Stops.{said_then, sealed_then}
use Rattle.czi_session.proofs.top.script.Goals as goal

pub returns-in-Ok-clause-moments : goal.returns-in-Ok-clause-moments
returns-in-Ok-clause-moments g c = λ cs end said s h.
    let m = g.E.Editor.model in
    let w = c.in-Ok.ensures.ends cs end said s h in
    joined g.R.Rig (c.commands.ensures.moments cs end said s h (last_text end))
    (weaker g.R.Rig (reads_sealed m g.met.E.Editor.says_something s cs end said) (c.sealed.ensures.moments _ _ w.stands))

pub returns-in-Ok-clause-alike : goal.returns-in-Ok-clause-alike
returns-in-Ok-clause-alike g c = λ cs end said s h.
    let m = g.E.Editor.model in
    let w = c.in-Ok.ensures.ends cs end said s h in
    spans_then g.R.Rig m.alike c.args.rig.now c.commands.new.rig c.sealed.new.rig (c.commands.ensures.alike cs end said s h) (one_span g.R.Rig m.alike c.commands.new.rig c.sealed.new.rig (c.sealed.ensures.alike _ _ w.stands))

pub returns-in-Script-clause-alike : goal.returns-in-Script-clause-alike
returns-in-Script-clause-alike g c = λ cs end said s h.
    let m = g.E.Editor.model in
    let w = rw c.in-Script.is at (c.in-Err.ensures.ends cs end said s h) in
    spans_then g.R.Rig m.alike c.args.rig.now c.commands.new.rig c.say_fault.new.rig (c.commands.ensures.alike cs end said s h) (one_span g.R.Rig m.alike c.commands.new.rig c.say_fault.new.rig (c.say_fault.ensures.alike _ _ w.1))

pub returns-in-Ok-clause-ends : goal.returns-in-Ok-clause-ends
returns-in-Ok-clause-ends g c = λ cs end said s h.
    let m = g.E.Editor.model in
    let w = c.in-Ok.ensures.ends cs end said s h in
    sealed m (g.R.Rig.state c.sealed.new.rig) (g.S.Source.input c.commands.new.input).left s cs end said h.input c.sealed.result (g.R.Rig.state c.commands.new.rig) _ _ w refl c.sealed.ensures.said c.sealed.ensures.ok c.sealed.ensures.stopped c.sealed.ensures.only

pub returns-in-Ok-clause-takes : goal.returns-in-Ok-clause-takes
returns-in-Ok-clause-takes g c = takes_more _ _ _ _ (most_any c.sealed.result) c.in-Ok.ensures.takes

pub returns-in-Ok-clause-cause : goal.returns-in-Ok-clause-cause
returns-in-Ok-clause-cause g c = sealed_then c.sealed.result _ _ _ _ _ c.in-Ok.ensures.cause c.sealed.ensures.only c.sealed.ensures.cause

pub returns-in-Script-clause-moments : goal.returns-in-Script-clause-moments
returns-in-Script-clause-moments g c = λ cs end said s h.
    let m = g.E.Editor.model in
    let w = rw c.in-Script.is at (c.in-Err.ensures.ends cs end said s h) in
    joined g.R.Rig (c.commands.ensures.moments cs end said s h (last_text end))
    (weaker g.R.Rig (reads_fault m g.met.E.Editor.says_something s cs end said _ _ w.0.0) (c.say_fault.ensures.moments _ _ w.1))

pub returns-in-Script-clause-ends : goal.returns-in-Script-clause-ends
returns-in-Script-clause-ends g c = λ cs end said s h.
    let m = g.E.Editor.model in
    let w = rw c.in-Script.is at (c.in-Err.ensures.ends cs end said s h) in
    fault_said m (g.R.Rig.state c.say_fault.new.rig) (g.S.Source.input c.commands.new.input).left s cs end said h.input _ _ c.say_fault.result w.0 (c.say_fault.ensures.stops _ _ w.1)

pub returns-in-Script-clause-takes : goal.returns-in-Script-clause-takes
returns-in-Script-clause-takes g c = takes_more _ _ _ _ (most_any (Err c.say_fault.result)) (rw c.in-Script.is at c.in-Err.ensures.takes)

pub returns-in-Script-clause-cause : goal.returns-in-Script-clause-cause
returns-in-Script-clause-cause g c = said_then c.say_fault.result _ _ _ _ _ _ _ (rw c.in-Script.is at c.in-Err.ensures.cause) c.say_fault.ensures.only c.say_fault.ensures.cause

pub returns : goal.returns
returns g c =
    let e = c.in-Err.ensures in
    record {
      moments = λ cs end said s h. e.moments cs end said s h (last_text end);
      alike = λ cs end said s h. e.alike cs end said s h;
      ends = λ cs end said s h. stopped g.E.Editor.model (g.R.Rig.state c.commands.new.rig) (g.S.Source.input c.commands.new.input).left s cs end said h.input c.in-Err.stop c.in_default.not-Script (e.ends cs end said s h);
      void = tt;
      takes = e.takes;
      goes_on = e.goes_on;
      later = e.later;
      cause = e.cause;
    }
