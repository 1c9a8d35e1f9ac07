use Rattle.czi_engine.proofs.Keeping.{commit_touches}
use Rattle.czi_engine.proofs.no_write_touches.Goals as goal

pub returns : goal.returns
returns c = commit_touches
