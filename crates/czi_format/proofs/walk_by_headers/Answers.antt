use Rattle.czi_format.proofs.Local.{walk_local}
use Rattle.czi_format.proofs.walk_by_headers.Goals as goal

pub returns : goal.returns
returns c = λ image other walk long same walks. walk_local image other 0 walk long same walks
