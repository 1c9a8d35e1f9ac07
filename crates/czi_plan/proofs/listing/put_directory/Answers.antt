use Rattle.czi_plan.proofs.Marking.{adds_both}
use Rattle.czi_plan.proofs.listing.put_directory.Goals as goal

pub returns-clause-marks : goal.returns-clause-marks
returns-clause-marks c = λ r. adds_both (c.mark_pointer.ensures.marks r) (c.mark_header.ensures.marks r)
