use Rattle.czi_undo.proofs.Usable.{holds_usable}
use Rattle.czi_undo.proofs.laws.singles_hold.Goals as goal

pub returns : goal.returns
returns c = holds_usable
