use Rattle.std.proofs.Common.{inl, inr, ⊎_elim, ◌∷◌, []}
use Rattle.czi_script.specs.View.{command_of}
use Rattle.czi_session.specs.Stops.{EndsOpening}
use Rattle.czi_session.proofs.Ending.{once_durable, one_answers}
use Rattle.czi_session.proofs.Refusing.{refused_answers}
use Rattle.czi_session.proofs.top.one.Goals as goal

pub returns-clause-complete : goal.returns-clause-complete
returns-clause-complete g c = λ said s h q.
    let e = c.one_alone.ensures in
    one_answers g.E.Editor.model s (command_of c.args.command.now) said _ _ q c.one_alone.result e.alone (e.ends said s h) e.cause

pub returns-clause-refuses : goal.returns-clause-refuses
returns-clause-refuses g c = λ all text is refuses q.
    let e = c.one_alone.ensures in
    refused_answers g.E.Editor.model c.one_alone.result _ _ 0 0 all text is refuses (⊎_elim (λ un. inl un) (λ ends. inr ends.0) e.refuses) q e.cause

pub returns-clause-refusal : goal.returns-clause-refusal
returns-clause-refusal g c = λ all text is refuses. ⊎_elim (λ un. absurd (un all text is refuses)) (λ ends. ends.1 all text is refuses) c.one_alone.ensures.refuses

pub returns-clause-moments : goal.returns-clause-moments
returns-clause-moments g c = λ said s h.
    once_durable g.R.Rig g.E.Editor.model g.met.E.Editor.says_something s (command_of c.args.command.now ∷ []) [] said _ (EndsOpening c.one_alone.result) (c.one_alone.ensures.headline said s h)
