use Rattle.std.proofs.Common.{length, ap, ◌∙◌}
use Rattle.czi_plan.proofs.KindLaws.{length-subblock}
use Rattle.czi_plan.proofs.Marking.{first_marks}
use Rattle.czi_plan.proofs.undoing.link_tile.Goals as goal

pub link_back-requires-clause-id : goal.link_back-requires-clause-id
link_back-requires-clause-id c = let b = rw c.in-Put.is at c.requires.back in ap length b.0.0 ∙ length-subblock

pub link_back-requires-in-Into-clause-id : goal.link_back-requires-in-Into-clause-id
link_back-requires-in-Into-clause-id c = let b = rw c.in-Into.is at c.requires.back in ap length b.0.0 ∙ length-subblock

pub returns-in-Put-clause-marks : goal.returns-in-Put-clause-marks
returns-in-Put-clause-marks c = λ r. rw c.in-Put.is (first_marks c.requires.no_marks (c.link_back.ensures.marks r))

pub returns-in-Put-clause-kept : goal.returns-in-Put-clause-kept
returns-in-Put-clause-kept c = c.link_back.ensures.memory 11 65888 2 c.requires.memory

pub returns-in-Into-clause-marks : goal.returns-in-Into-clause-marks
returns-in-Into-clause-marks c = λ r. rw c.in-Into.is (first_marks c.requires.no_marks (c.link_back-in-Into.ensures.marks r))

pub returns-in-Into-clause-kept : goal.returns-in-Into-clause-kept
returns-in-Into-clause-kept c = c.link_back-in-Into.ensures.memory 11 65888 2 c.requires.memory
