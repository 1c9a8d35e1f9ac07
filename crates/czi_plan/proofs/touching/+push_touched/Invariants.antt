use Rattle.std.proofs.Common.{length}
use Rattle.czi_plan.proofs.touching.+push_touched.Given as goal

abbrev pub decreases-push_touched : goal.decreases-push_touched
decreases-push_touched l = length l.extents.now
