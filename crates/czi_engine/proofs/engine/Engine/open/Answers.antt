use Rattle.czi_engine.proofs.Fresh.{begins, itself, opened_fresh}
use Rattle.czi_engine.proofs.engine.Engine.open.Goals as goal

pub returns-in-Ok-clause-stands : goal.returns-in-Ok-clause-stands
returns-in-Ok-clause-stands g c =
    let o = c.in_ok-opened.ensures in
    begins (g.R.Rig.state c.open.new.rig) c.in_ok-opened.opened c.in-Ok.engine.state c.in-Ok.ensures.of o.shown o.stands o.synced
    (itself g.R.Rig c.args.rig.now c.open.new.rig g.met.R.Rig.counts_now g.met.R.Rig.reads_now c.open.ensures.goes_on c.open.ensures.said o.recovered o.moments)

pub returns-in-Ok-clause-fresh : goal.returns-in-Ok-clause-fresh
returns-in-Ok-clause-fresh g c = opened_fresh (g.R.Rig.state c.open.new.rig) c.in_ok-opened.opened c.in-Ok.engine.state c.in-Ok.ensures.of c.in_ok-opened.ensures.shown
