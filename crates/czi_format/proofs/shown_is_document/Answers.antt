use Rattle.czi_format.proofs.Limits.{shows_document}
use Rattle.czi_format.proofs.shown_is_document.Goals as goal

pub returns : goal.returns
returns c = shows_document
