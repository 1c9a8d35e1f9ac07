use Rattle.czi_format.proofs.Unique.{shows_unique}
use Rattle.czi_format.proofs.one_document.Goals as goal

pub returns : goal.returns
returns c = shows_unique
