use Rattle.std.proofs.Common.{inl, inr, refl}
use Rattle.czi_rig.proofs.Runs.{run_begins, run_says}
use Rattle.czi_top.specs.Run.{usage}
use Rattle.czi_top.proofs.top.say_usage.Goals as goal

pub returns-in-Ok-clause-said : goal.returns-in-Ok-clause-said
unfolding usage
returns-in-Ok-clause-said g c = inl (refl, c.in-Ok.ensures.said)

pub returns-in-Ok-clause-moments : goal.returns-in-Ok-clause-moments
unfolding usage
returns-in-Ok-clause-moments g c = λ all is. run_says g.R.Rig usage (run_begins g.R.Rig c.args.rig.now all _ is) c.say.ensures.time (λ i j o now. now)

pub returns-in-Err-clause-said : goal.returns-in-Err-clause-said
unfolding usage
returns-in-Err-clause-said g c =
    let part = c.in-Err.ensures.said in
    inr (refl, part.0, part.1, part.2)

pub returns-in-Err-clause-moments : goal.returns-in-Err-clause-moments
unfolding usage
returns-in-Err-clause-moments g c = λ all is. run_says g.R.Rig usage (run_begins g.R.Rig c.args.rig.now all _ is) c.say.ensures.time (λ i j o now. now)
