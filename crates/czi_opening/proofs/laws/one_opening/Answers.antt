use Rattle.czi_opening.proofs.Verdict.{opens_one}
use Rattle.czi_opening.proofs.laws.one_opening.Goals as goal

pub returns : goal.returns
returns c = opens_one
