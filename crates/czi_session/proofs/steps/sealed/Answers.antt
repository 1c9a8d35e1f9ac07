use Rattle.czi_session.proofs.Spoken.{may_be_sealed}
use Rattle.czi_session.proofs.steps.sealed.Goals as goal

pub returns-in-Ok-clause-stopped : goal.returns-in-Ok-clause-stopped
returns-in-Ok-clause-stopped g c = λ said s h.
    may_be_sealed g.R.Rig g.met.R.Rig.only_now g.E.Editor.model (g.E.Editor.stands c.args.editor) (g.met.E.Editor.rests_now c.args.editor) s said g.met.R.Rig.counts_now g.met.R.Rig.reads_now h
    c.seal.ensures.goes_on c.seal.ensures.said (c.seal.ensures.moments said s h)

pub returns-in-Err-clause-stopped : goal.returns-in-Err-clause-stopped
returns-in-Err-clause-stopped g c = λ said s h.
    may_be_sealed g.R.Rig g.met.R.Rig.only_now g.E.Editor.model (g.E.Editor.stands c.args.editor) (g.met.E.Editor.rests_now c.args.editor) s said g.met.R.Rig.counts_now g.met.R.Rig.reads_now h
    c.seal.ensures.goes_on c.seal.ensures.said (c.seal.ensures.moments said s h)
