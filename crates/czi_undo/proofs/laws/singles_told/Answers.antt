use Rattle.czi_undo.proofs.Telling.{singles_told}
use Rattle.czi_undo.proofs.laws.singles_told.Goals as goal

pub returns : goal.returns
returns c = singles_told
