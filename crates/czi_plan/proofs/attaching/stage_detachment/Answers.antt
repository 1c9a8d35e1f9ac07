use Rattle.czi_machine.specs.Change.{out as taken_out}
use Rattle.czi_plan.specs.Changing.{edited}
use Rattle.czi_plan.specs.Kind.{of_attachments}
use Rattle.czi_plan.proofs.Brought.{begins_out}
use Rattle.czi_plan.proofs.Marking.{no_marks}
use Rattle.czi_plan.proofs.Memory.{memory_of}
use Rattle.czi_plan.proofs.attaching.stage_detachment.Goals as goal

pub stage_attachment_act-requires-clause-begins : goal.stage_attachment_act-requires-clause-begins
stage_attachment_act-requires-clause-begins c = (edited (taken_out c.args.i), begins_out of_attachments c.args.index.now c.args.space.now c.args.region.now c.args.i _ c.args.out.now c.requires.starts c.requires.no_writes c.requires.place)

pub stage_attachment_act-requires-clause-marks : goal.stage_attachment_act-requires-clause-marks
stage_attachment_act-requires-clause-marks c = λ r. no_marks r c.args.out.now.marks.items c.requires.no_marks

pub stage_attachment_act-requires-clause-memory : goal.stage_attachment_act-requires-clause-memory
stage_attachment_act-requires-clause-memory c = memory_of 1 1 0 1 c.args.out.now c.requires.spare

pub returns : goal.returns
returns c = c.stage_attachment_act.ensures.stages (edited (taken_out c.args.i)) (begins_out of_attachments c.args.index.now c.args.space.now c.args.region.now c.args.i _ c.args.out.now c.requires.starts c.requires.no_writes c.requires.place)
