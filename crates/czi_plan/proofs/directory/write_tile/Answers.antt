use Rattle.std.proofs.Common.{arith}
use Rattle.czi_format.proofs.Limits.{entry_is}
use Rattle.czi_plan.proofs.directory.write_tile.Goals as goal

pub returns-clause-entry : goal.returns-clause-entry
returns-clause-entry c = record {
  info = (entry_is c.write_entry.new.out _ (λ i. omega (arith, c.type_inv.out i)) c.write_entry.ensures.whole.reads).info;
  position = record { sfits = omega arith };
}
