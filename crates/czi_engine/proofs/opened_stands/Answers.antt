use Rattle.czi_engine.proofs.Openable.{opened_stands}
use Rattle.czi_engine.proofs.opened_stands.Goals as goal

pub returns : goal.returns
returns c = opened_stands
