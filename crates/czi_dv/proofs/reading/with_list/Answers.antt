use Rattle.std.proofs.Common.{length}
use Rattle.czi_dv.proofs.Faults.{made}
use Rattle.czi_dv.proofs.reading.with_list.Goals as goal

pub unwrap-dims-requires : goal.unwrap-dims-requires
unwrap-dims-requires c = made c.new.result (length c.args.list.items) c.new.ensures.none c.new.ensures.many c.requires.some c.requires.few
