use Rattle.czi_region.proofs.Whole.{whole}
use Rattle.czi_region.proofs.laws.whole_piece.Goals as goal

pub returns : goal.returns
returns c = whole
