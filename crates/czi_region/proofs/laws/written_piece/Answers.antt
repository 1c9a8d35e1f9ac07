use Rattle.std.proofs.Common.{refl}
use Rattle.czi_region.proofs.Written.{written}
use Rattle.czi_region.proofs.laws.written_piece.Goals as goal

pub returns : goal.returns
returns c = record { bytes = written; room = λ r p bytes. refl }
