use Rattle.czi_plan.proofs.undoing.link_metadata.Goals as goal

pub returns-in-To-clause-marks : goal.returns-in-To-clause-marks
returns-in-To-clause-marks c = λ r. rw c.in-To.is (c.link_setting.ensures.marks r)
