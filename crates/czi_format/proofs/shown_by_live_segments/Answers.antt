use Rattle.std.proofs.Common.{sym}
use Rattle.czi_format.proofs.Local.{reaches_local, document_local}
use Rattle.czi_format.proofs.shown_by_live_segments.Goals as goal

pub returns : goal.returns
returns c = λ image other live reaches same. (reaches_local image other live same reaches, sym (document_local image other live same))
