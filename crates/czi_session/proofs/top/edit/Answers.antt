use Rattle.std.proofs.Common.{inl, inr, ⊎_elim}
use Rattle.czi_script.specs.Script.{Done}
use Rattle.czi_session.specs.Stops.{EndsOpening}
use Rattle.czi_session.specs.Text.{last_text}
use Rattle.czi_session.proofs.Ending.{answers, once_durable}
use Rattle.czi_session.proofs.Refusing.{refused_answers}
use Rattle.czi_session.proofs.top.edit.Goals as goal

pub returns-clause-complete : goal.returns-clause-complete
returns-clause-complete g c = λ cs said s h few q.
    let e = c.edit_all.ensures in
    answers g.E.Editor.model _ s cs said h.input _ _ _ _ q few c.edit_all.result (e.ends cs Done said s h) e.cause

pub returns-clause-refuses : goal.returns-clause-refuses
returns-clause-refuses g c = λ all text is refuses q.
    let e = c.edit_all.ensures in
    refused_answers g.E.Editor.model c.edit_all.result _ _ _ _ all text is refuses (⊎_elim (λ un. inl un) (λ ends. inr ends.0) e.refuses) q e.cause.rig

pub returns-clause-refusal : goal.returns-clause-refusal
returns-clause-refusal g c = λ all text is refuses. ⊎_elim (λ un. absurd (un all text is refuses)) (λ ends. ends.1 all text is refuses) c.edit_all.ensures.refuses

pub returns-clause-untaken : goal.returns-clause-untaken
returns-clause-untaken g c = λ all text is refuses. ⊎_elim (λ un. absurd (un all text is refuses)) (λ ends. ends.2) c.edit_all.ensures.refuses

pub returns-clause-moments : goal.returns-clause-moments
returns-clause-moments g c = λ cs end said s h.
    once_durable g.R.Rig g.E.Editor.model g.met.E.Editor.says_something s cs (last_text end) said _ (EndsOpening c.edit_all.result) (c.edit_all.ensures.headline cs end said s h)
