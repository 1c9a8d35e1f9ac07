use Rattle.std.proofs.Common.{◌∙◌, ap, take, refl, List, ℕ, length}
use Rattle.czi_session.specs.Course.{Unsealed}
use Rattle.czi_session.proofs.Spoken.{resting_alike, rests_as_said, said_stands, saying_alike, text_says}
use Rattle.czi_session.proofs.steps.say_fault.Goals as goal

pub returns-in-Ok-say-clause-moments : goal.returns-in-Ok-say-clause-moments
returns-in-Ok-say-clause-moments g c = λ said s h.
    let m = g.E.Editor.model in
    text_says g.R.Rig m (Unsealed m) (rests_as_said m) s _ said _ h (c.deref.ensures.value ∙ c.in-Ok.ensures) c.say.ensures.time

pub returns-in-Ok-say-clause-stops : goal.returns-in-Ok-say-clause-stops
returns-in-Ok-say-clause-stops g c = λ said s h.
    let m = g.E.Editor.model in (
      refl,
      refl,
      said_stands m (Unsealed m) (g.R.Rig.state c.args.rig.now) (g.R.Rig.state c.say.new.self) said _ _ s h (c.deref.ensures.value ∙ c.in-Ok.ensures) c.say.ensures.files c.in-Ok-say.ensures.said,
    )

pub returns-in-Ok-clause-moments : goal.returns-in-Ok-clause-moments
returns-in-Ok-clause-moments g c = λ said s h.
    let m = g.E.Editor.model in
    text_says g.R.Rig m (Unsealed m) (rests_as_said m) s _ said _ h (c.deref.ensures.value ∙ c.in-Ok.ensures) c.say.ensures.time

pub returns-in-Ok-clause-stops : goal.returns-in-Ok-clause-stops
returns-in-Ok-clause-stops g c = λ said s h.
    let m = g.E.Editor.model in
    let some = c.in-Err-say.ensures.said in
    let is = c.deref.ensures.value ∙ c.in-Ok.ensures in (
      some.0,
      rw (ap (λ (x : List ℕ). length x) is) at some.1,
      said_stands m (Unsealed m) (g.R.Rig.state c.args.rig.now) (g.R.Rig.state c.say.new.self) said _ _ s h (ap (λ (x : List ℕ). take some.0 x) is) c.say.ensures.files some.2,
    )

pub returns-in-Ok-say-clause-alike : goal.returns-in-Ok-say-clause-alike
returns-in-Ok-say-clause-alike g c = λ said s h.
    let m = g.E.Editor.model in
    saying_alike g.R.Rig g.met.R.Rig.only_now m (Unsealed m) (rests_as_said m) s said _ h c.say.ensures.time

pub returns-in-Ok-clause-alike : goal.returns-in-Ok-clause-alike
returns-in-Ok-clause-alike g c = λ said s h.
    let m = g.E.Editor.model in
    saying_alike g.R.Rig g.met.R.Rig.only_now m (Unsealed m) (rests_as_said m) s said _ h c.say.ensures.time

pub returns-clause-alike : goal.returns-clause-alike
returns-clause-alike g c = λ said s h.
    let m = g.E.Editor.model in
    resting_alike g.R.Rig g.met.R.Rig.only_now m (Unsealed m) (rests_as_said m) s said c.args.rig.now h
