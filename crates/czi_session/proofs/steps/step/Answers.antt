use Rattle.std.proofs.Common.{◌≡◌, inl, ap, List, Result, Ok, Err, ◌++◌}
use Rattle.std.specs.Prelude.{IfErr}
use Rattle.czi_rig.proofs.Runs.{weaker}
use Rattle.czi_rig.proofs.Spans.{one_span}
use Rattle.czi_script.specs.View.{command_of}
use Rattle.czi_session.specs.declared.stop.EditorStop.{EditorStop}
use Rattle.czi_session.proofs.Spoken.{done_alike, nothing_said, perform_stops, reply_file, reply_stops, step_says, text_said}
use Rattle.czi_session.proofs.Stops.{editor_alone, if_err_at, no_file}
use Rattle.czi_session.proofs.steps.step.Goals as goal

pub returns-in-Ok-clause-moments : goal.returns-in-Ok-clause-moments
returns-in-Ok-clause-moments g c = λ said s h.
    let done = c.in-Ok.ensures.ok said s h in
    step_says g.R.Rig g.E.Editor.model (g.E.Editor.stands c.perform.new.self) (g.met.E.Editor.rests_now c.perform.new.self) s (command_of c.args.command.now) said _
    (c.perform.ensures.moments said s h) done.1 done.0.whole (c.say_reply.ensures.only said _ done.0.rest done.1 done.0.owed)

pub returns-in-Ok-clause-alike : goal.returns-in-Ok-clause-alike
returns-in-Ok-clause-alike g c = λ said s h.
    let done = c.in-Ok.ensures.ok said s h in
    done_alike g.R.Rig g.met.R.Rig.only_now g.E.Editor.model (g.E.Editor.stands c.perform.new.self) (g.met.E.Editor.rests_now c.perform.new.self) _ said c.args.rig.now c.perform.new.rig c.say_reply.new.rig _
    (c.perform.ensures.alike said s h) done.1 (c.say_reply.ensures.only said _ done.0.rest done.1 done.0.owed)

pub returns-in-Ok-clause-stops : goal.returns-in-Ok-clause-stops
returns-in-Ok-clause-stops g c = if_err_at (λ stop stops said s h.
    let done = c.in-Ok.ensures.ok said s h in
    reply_stops g.E.Editor.model (g.R.Rig.state c.say_reply.new.rig) s (command_of c.args.command.now) said _ _ stop done.0.whole done.0.one (stops said _ done.0.rest done.1 done.0.owed))
    c.say_reply.result c.say_reply.ensures.stops

pub returns-in-Ok-clause-still : goal.returns-in-Ok-clause-still
returns-in-Ok-clause-still g c = λ said s h still.
    let done = c.in-Ok.ensures.ok said s h in
    let m = g.E.Editor.model in (
      text_said g.R.Rig c.args.rig.now c.perform.new.rig c.say_reply.new.rig _ _ (c.in-Ok.ensures.still said s h still).1 done.0.whole (c.say_reply.ensures.only said _ done.0.rest done.1 done.0.owed),
      reply_file m _ (g.R.Rig.state c.say_reply.new.rig) s _ (command_of c.args.command.now) said _ _ c.say_reply.result done.0.one
          (if_err_at (λ stop stops. stops said _ done.0.rest done.1 done.0.owed) c.say_reply.result c.say_reply.ensures.stops),
    )

pub returns-in-Err-clause-moments : goal.returns-in-Err-clause-moments
returns-in-Err-clause-moments g c = λ said s h. weaker g.R.Rig (λ i j o p. inl p) (c.perform.ensures.moments said s h)

pub returns-in-Err-clause-alike : goal.returns-in-Err-clause-alike
returns-in-Err-clause-alike g c = λ said s h. one_span g.R.Rig g.E.Editor.model.alike c.args.rig.now c.perform.new.rig (c.perform.ensures.alike said s h)

pub returns-in-Err-clause-stops : goal.returns-in-Err-clause-stops
returns-in-Err-clause-stops g c = λ said s h.
    rw c.stop_of.ensures (perform_stops g.E.Editor.model (g.E.Editor.stands c.args.editor.now) (g.met.E.Editor.rests_now c.args.editor.now) (g.R.Rig.state c.args.rig.now) (g.R.Rig.state c.perform.new.rig) said s (command_of c.args.command.now) c.in-Err.stop h c.perform.ensures.said
    (λ still. (c.in-Err.ensures.still said s h still).0)
    (λ is. ap g.R.Rig.state (c.in-Err.ensures.starved (ap (λ (e : EditorStop). let r : Result (Unit {0}) EditorStop = Err e in r) is))))

pub returns-in-Err-clause-still : goal.returns-in-Err-clause-still
returns-in-Err-clause-still g c = λ said s h still.
    let none = c.in-Err.ensures.still said s h still in
    rw c.stop_of.ensures (nothing_said g.R.Rig c.args.rig.now c.perform.new.rig (g.E.Editor.model.reply s (command_of c.args.command.now)) none.1, λ file. absurd (no_file _ none.0 file))
