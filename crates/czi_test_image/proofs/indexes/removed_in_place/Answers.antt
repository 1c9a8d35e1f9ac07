use Rattle.std.proofs.Common.{arith}
use Rattle.czi_test_image.proofs.Removed.{can_in_place}
use Rattle.czi_test_image.proofs.indexes.removed_in_place.Goals as goal

pub apply-requires-clause-can : goal.apply-requires-clause-can
apply-requires-clause-can c = can_in_place _ c.args.i _ c.in_ok-change.ensures (omega arith)
