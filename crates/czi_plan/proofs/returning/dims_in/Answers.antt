use Rattle.std.proofs.Common.{arith, ap, length}
use Rattle.czi_dv.proofs.Faults.{made}
use Rattle.czi_plan.proofs.returning.dims_in.Goals as goal

-- src/returning.rt
pub unwrap-requires : goal.unwrap-requires
unwrap-requires c = made c.new.result _ c.new.ensures.none c.new.ensures.many (omega (arith, ap length c.list_in.ensures, c.list.ensures.some)) (omega (arith, ap length c.list_in.ensures, c.list.ensures.few))
