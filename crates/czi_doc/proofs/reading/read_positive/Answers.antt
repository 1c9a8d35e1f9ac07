use Rattle.std.proofs.Common.{refl}
use Rattle.czi_doc.proofs.Prefixes.{front_at}
use Rattle.czi_doc.proofs.reading.read_positive.Goals as goal

pub magnitude-requires : goal.magnitude-requires
magnitude-requires c = front_at _ _ _ c.number_len-len.ensures.len refl
