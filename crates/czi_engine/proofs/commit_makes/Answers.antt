use Rattle.czi_engine.proofs.Made.{made_wrote}
use Rattle.czi_engine.proofs.commit_makes.Goals as goal

pub returns : goal.returns
returns c = made_wrote
