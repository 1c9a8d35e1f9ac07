use Rattle.std.proofs.Common.{arith, ◌≡◌, refl, ap, subst}
use Rattle.czi_image.specs.Change.{act_of}
use Rattle.czi_image.specs.declared.change.Act.{Act as CodeAct}
use Rattle.czi_image.specs.declared.change.DirectoryChange.{DirectoryChange}
use Rattle.czi_image.specs.declared.types.AttItem.{AttItem}
use Rattle.czi_plan.specs.Attaching.{attachment_in}
use Rattle.czi_plan.specs.Bringing.{act_at}
use Rattle.czi_plan.specs.Changing.{Stages, edited}
use Rattle.czi_plan.specs.Kind.{of_attachments}
use Rattle.czi_plan.specs.declared.plan.EditPlan.{EditPlan}
use Rattle.czi_plan.proofs.Attached.{is_new_item}
use Rattle.czi_plan.proofs.Brought.{begins_at, marks_at}
use Rattle.czi_plan.proofs.Marking.{first_marks}
use Rattle.czi_plan.proofs.Memory.{memory_of}
use Rattle.czi_region.specs.Pieces.{room}
use Rattle.czi_plan.proofs.attachment_acts.stage_attached.Goals as goal

pub stage_attachment_act-requires-clause-begins : goal.stage_attachment_act-requires-clause-begins
stage_attachment_act-requires-clause-begins c =
    let x = c.args.index.now in
    let m = c.args.space.now in
    let i : AttItem = c.args.item.now in
    let s = attachment_in i.info c.args.bytes.now in
    let staged = c.stage_attachment.ensures in
    rw c.act-act.ensures (
      edited (act_of (act_at c.args.seat s)),
      begins_at of_attachments x m c.stage_attachment.new.region c.args.seat s i i.span c.args.out.now.change.attdir _ c.args.out.now c.stage_attachment.new.out refl (ap (λ (p : EditPlan). p.change.attdir) staged.others) c.requires.starts staged.used staged.end staged.others
          (is_new_item x m i c.args.bytes.now c.requires.item c.requires.walked staged.says c.requires.fits) staged.staged c.requires.place,
    )

pub stage_attachment_act-requires-clause-marks : goal.stage_attachment_act-requires-clause-marks
stage_attachment_act-requires-clause-marks c = λ r. rw (c.act-act.ensures, marks_at of_attachments c.args.seat c.args.item.now) (first_marks c.requires.no_marks (c.stage_attachment.ensures.marks r))

pub stage_attachment_act-requires-clause-room : goal.stage_attachment_act-requires-clause-room
stage_attachment_act-requires-clause-room c =
    rw (ap (λ (p : EditPlan). p.change.attdir) c.stage_attachment.ensures.others, c.act-act.ensures) (c.requires.room (room c.stage_attachment.new.region) c.stage_attachment.ensures.left)

pub stage_attachment_act-requires-clause-memory : goal.stage_attachment_act-requires-clause-memory
stage_attachment_act-requires-clause-memory c = c.stage_attachment.ensures.memory 11 65888 2 (memory_of 1 1 0 2 c.args.out.now c.requires.spare)

pub stage_attachment_act-requires-clause-writes_room : goal.stage_attachment_act-requires-clause-writes_room
stage_attachment_act-requires-clause-writes_room c = omega (arith, c.stage_attachment.ensures.writes.len, c.stage_attachment.ensures.writes.capacity, c.requires.spare.writes)

pub returns : goal.returns
returns c =
    let x = c.args.index.now in
    let m = c.args.space.now in
    let i : AttItem = c.args.item.now in
    let s = attachment_in i.info c.args.bytes.now in
    let o = edited (act_of (act_at c.args.seat s)) in
    let d : DirectoryChange = c.args.out.now.change.attdir in
    let staged = c.stage_attachment.ensures in
    let same : c.stage_attachment.new.out.change.attdir ≡ d = ap (λ (p : EditPlan). p.change.attdir) staged.others in
    let begins = begins_at of_attachments x m c.stage_attachment.new.region c.args.seat s i i.span d _ c.args.out.now c.stage_attachment.new.out refl same c.requires.starts staged.used staged.end staged.others
    (is_new_item x m i c.args.bytes.now c.requires.item c.requires.walked staged.says c.requires.fits) staged.staged c.requires.place in
    subst (λ (a : CodeAct AttItem). Stages of_attachments x m a o c.stage_attachment_act.new.region d c.stage_attachment_act.new.out) c.act-act.ensures
    (subst (λ (e : DirectoryChange). Stages of_attachments x m c.act-act.result o c.stage_attachment_act.new.region e c.stage_attachment_act.new.out) same (c.stage_attachment_act.ensures.stages o (rw c.act-act.ensures begins)))
