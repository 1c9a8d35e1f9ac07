use Rattle.std.proofs.Common.{arith}
use Rattle.czi_num.proofs.Numbers.{copied_back, others_copied}
use Rattle.czi_num.proofs.fields.write_bytes.Goals as goal

pub returns-clause-reads_back : goal.returns-clause-reads_back
returns-clause-reads_back c = copied_back c.args.at c.args.bytes.now c.copy_from_slice.new.self c.args.new.now c.requires c.copy_from_slice.ensures.after

pub returns-clause-others : goal.returns-clause-others
returns-clause-others c = others_copied c.args.at c.args.bytes.now c.copy_from_slice.new.self c.args.new.now c.requires c.copy_from_slice.ensures.after

pub returns-clause-below_256 : goal.returns-clause-below_256
returns-clause-below_256 c = λ i. omega (arith, c.type_inv.new i)
