use Rattle.std.proofs.Common.{◌≡◌, ap, sym, ◌∙◌, subst, length, arith}
use Rattle.std.proofs.lemmas.Result.{err_from_is_err_and}
use Rattle.czi_format.specs.Space.{fit}
use Rattle.czi_image.specs.declared.change.DirectoryChange.{DirectoryChange}
use Rattle.czi_image.specs.declared.index.Index.{Index}
use Rattle.czi_image.specs.declared.types.AttItem.{AttItem}
use Rattle.czi_space.specs.State.{space_of}
use Rattle.czi_plan.specs.Changing.{Begins, Stages, returned, size_after}
use Rattle.czi_plan.specs.Directory.{need_of}
use Rattle.czi_plan.specs.Kind.{of_attachments}
use Rattle.czi_plan.specs.Listing.{fits_in_place}
use Rattle.czi_plan.specs.Placing.{IsFull}
use Rattle.czi_plan.specs.declared.plan.EditPlan.{EditPlan}
use Rattle.czi_plan.proofs.Back.{kinds_back, memory_attachments, place_as, room_for, attachments_back}
use Rattle.czi_plan.proofs.Entries.{sizes_total}
use Rattle.czi_plan.proofs.Parts.{map_extents}
use Rattle.czi_plan.proofs.Attached.{count_as, sizes_for}
use Rattle.czi_plan.proofs.Parts.{few_brought, few_leaving}
use Rattle.czi_plan.proofs.undoing.plan_attachments.Goals as goal

pub plan_directory-requires-clause-rise : goal.plan_directory-requires-clause-rise
plan_directory-requires-clause-rise c = map_extents c.args.index.now c.args.space.now c.requires.of_index

pub att_sizes-sizes-requires-clause-few : goal.att_sizes-sizes-requires-clause-few
att_sizes-sizes-requires-clause-few c = omega (arith, count_as c.args.act _ _ c.att_parts-parts.result c.deref.ensures.value c.att_parts-parts.ensures, c.requires.few)

pub att_sizes-sizes-requires-clause-brought : goal.att_sizes-sizes-requires-clause-brought
att_sizes-sizes-requires-clause-brought c = omega (arith, ap (length {A = AttItem}) c.att_parts-parts.ensures.brought, few_brought c.args.act)

pub att_sizes-sizes-requires-clause-leaving : goal.att_sizes-sizes-requires-clause-leaving
att_sizes-sizes-requires-clause-leaving c = omega (arith, ap (length {A = AttItem}) c.att_parts-parts.ensures.leaving, few_leaving c.args.act c.deref.result.now)

pub link_attachment-requires-clause-back : goal.link_attachment-requires-clause-back
link_attachment-requires-clause-back c = kinds_back of_attachments c.args.index.now c.args.space.now _ c.requires.back

pub link_attachment-requires-clause-memory : goal.link_attachment-requires-clause-memory
link_attachment-requires-clause-memory c = memory_attachments c.args.out.now c.length-out.result c.in_ok-out.field-0 c.requires.memory

pub stage_attachment_act-requires-clause-begins : goal.stage_attachment_act-requires-clause-begins
stage_attachment_act-requires-clause-begins c =
    let x : Index = c.args.index.now in
    let m = c.args.space.now in
    let linked = c.link_attachment.ensures in
    let place = place_as of_attachments x m c.args.act c.att_sizes-sizes.result c.total-size.result c.in_ok-out.field-0 (sizes_for c.args.act _ c.args.index.now.attachments.items c.att_parts-parts.result c.att_sizes-sizes.result c.deref.ensures.value c.att_parts-parts.ensures c.att_sizes-sizes.ensures.sizes) c.total-size.ensures c.in_ok-out.ensures.place in (
      returned,
      subst (λ (d : DirectoryChange). Begins of_attachments x m c.args.region.now c.args.act returned d c.link_attachment.new.out) (sym (ap (λ (p : EditPlan). p.change.attdir) linked.others))
          (attachments_back x m c.args.region.now c.args.act c.args.out.now c.link_attachment.new.out c.length-out.result c.in_ok-out.field-0 c.requires.of_index c.requires.empty c.length-out.ensures linked.others linked.used c.requires.back place),
    )

pub stage_attachment_act-requires-clause-room : goal.stage_attachment_act-requires-clause-room
stage_attachment_act-requires-clause-room c =
    let x : Index = c.args.index.now in
    let m = c.args.space.now in
    let place = place_as of_attachments x m c.args.act c.att_sizes-sizes.result c.total-size.result c.in_ok-out.field-0 (sizes_for c.args.act _ c.args.index.now.attachments.items c.att_parts-parts.result c.att_sizes-sizes.result c.deref.ensures.value c.att_parts-parts.ensures c.att_sizes-sizes.ensures.sizes) c.total-size.ensures c.in_ok-out.ensures.place in
    rw (ap (λ (p : EditPlan). p.change.attdir) c.link_attachment.ensures.others) (room_for of_attachments x c.args.act (space_of m) c.in_ok-out.field-0 _ place c.requires.room)

pub stage_attachment_act-requires-clause-writes_room : goal.stage_attachment_act-requires-clause-writes_room
stage_attachment_act-requires-clause-writes_room c = rw (ap (λ (p : EditPlan). p.writes) c.link_attachment.ensures.others) c.requires.writes_room

pub returns-in_err-out-clause-full : goal.returns-in_err-out-clause-full
returns-in_err-out-clause-full c =
    let p = err_from_is_err_and c.from_residual.result c.from_residual.ensures.1 in
    let x : Index = c.args.index.now in
    let are = (sizes_for c.args.act _ c.args.index.now.attachments.items c.att_parts-parts.result c.att_sizes-sizes.result c.deref.ensures.value c.att_parts-parts.ensures c.att_sizes-sizes.ensures.sizes) in
    let size : c.total-size.result ≡ size_after of_attachments c.args.act x = c.total-size.ensures ∙ sizes_total of_attachments c.att_sizes-sizes.result _ _ _ are in
    rw (p.1, p.2) ((λ j. fits_in_place x.attdir (sym size j) (sym are.middle_is j)) ∙ c.in_err-out.ensures.full.0, subst (λ n. IsFull c.in_err-out.field-0.0 (fit (space_of c.args.space.now) (need_of n))) size c.in_err-out.ensures.full.1)

pub returns-in_err-out-clause-never : goal.returns-in_err-out-clause-never
returns-in_err-out-clause-never c =
    let p = err_from_is_err_and c.from_residual.result c.from_residual.ensures.1 in
    rw (p.1, p.2) c.in_err-out.ensures.never

pub returns-clause-stages : goal.returns-clause-stages
returns-clause-stages c =
    let x : Index = c.args.index.now in
    let m = c.args.space.now in
    let linked = c.link_attachment.ensures in
    let place = place_as of_attachments x m c.args.act c.att_sizes-sizes.result c.total-size.result c.in_ok-out.field-0 (sizes_for c.args.act _ c.args.index.now.attachments.items c.att_parts-parts.result c.att_sizes-sizes.result c.deref.ensures.value c.att_parts-parts.ensures c.att_sizes-sizes.ensures.sizes) c.total-size.ensures c.in_ok-out.ensures.place in
    let begins = subst (λ (d : DirectoryChange). Begins of_attachments x m c.args.region.now c.args.act returned d c.link_attachment.new.out) (sym (ap (λ (p : EditPlan). p.change.attdir) linked.others))
    (attachments_back x m c.args.region.now c.args.act c.args.out.now c.link_attachment.new.out c.length-out.result c.in_ok-out.field-0 c.requires.of_index c.requires.empty c.length-out.ensures linked.others linked.used c.requires.back place) in
    let stages = c.stage_attachment_act.ensures.stages returned begins in
    subst (λ (d : DirectoryChange). Stages of_attachments x m c.args.act returned c.stage_attachment_act.new.region d c.stage_attachment_act.new.out) (sym stages.change.attdir) stages
