use Rattle.std.proofs.Common.{arith}
use Rattle.czi_test_image.proofs.Removed.{can_at_end}
use Rattle.czi_test_image.proofs.indexes.removed_at_end.Goals as goal

pub apply-requires-clause-can : goal.apply-requires-clause-can
apply-requires-clause-can c = can_at_end _ c.args.i _ c.directory_at-directory.result _ c.in_ok-change.ensures (omega arith) (omega arith) (omega arith) (omega arith)
