use Rattle.std.proofs.Common.{arith}
use Rattle.czi_plan.proofs.Entries.{split_len}
use Rattle.czi_plan.proofs.tiles.len_before.Goals as goal

pub overflow_sub-result : goal.overflow_sub-result
overflow_sub-result c = omega (arith, c.requires.total, c.requires.rest, split_len c.args.from c.args.tiles.now)

pub returns-clause-len : goal.returns-clause-len
returns-clause-len c = omega (arith, c.requires.total, c.requires.rest, split_len c.args.from c.args.tiles.now)

pub returns-clause-others : goal.returns-clause-others
returns-clause-others c = omega (arith, c.requires.total, c.requires.rest, split_len c.args.from c.args.tiles.now)
