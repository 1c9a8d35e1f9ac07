use Rattle.czi_undo.proofs.Kept.{kept_within}
use Rattle.czi_undo.proofs.laws.bounds.Goals as goal

pub returns : goal.returns
returns c = kept_within
