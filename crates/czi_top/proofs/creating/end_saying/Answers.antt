use Rattle.czi_rig.proofs.Runs.{run_begins, run_says}
use Rattle.czi_top.proofs.creating.end_saying.Goals as goal

pub returns-in-Ok-clause-moments : goal.returns-in-Ok-clause-moments
returns-in-Ok-clause-moments g c = λ all is. run_says g.R.Rig c.args.line.now (run_begins g.R.Rig c.args.rig.now all _ is) c.say.ensures.time (λ i j o now. now)

pub returns-in-Err-clause-moments : goal.returns-in-Err-clause-moments
returns-in-Err-clause-moments g c = λ all is. run_says g.R.Rig c.args.line.now (run_begins g.R.Rig c.args.rig.now all _ is) c.say.ensures.time (λ i j o now. now)
