use Rattle.czi_engine.proofs.Inverting.{inverse_undoes}
use Rattle.czi_engine.proofs.planning.Task.inverse.Goals as goal

pub returns : goal.returns
returns c = inverse_undoes c.single.result c.in_ok-part.field-0 c.args.self c.args.index.now (c.in_ok-part.ensures {u = tt}) c.single.ensures
