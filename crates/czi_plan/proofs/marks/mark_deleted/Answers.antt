use Rattle.czi_plan.proofs.Linking.{length-deleted}
use Rattle.czi_plan.proofs.marks.mark_deleted.Goals as goal

pub mark_header-requires-clause-id : goal.mark_header-requires-clause-id
mark_header-requires-clause-id c = length-deleted
