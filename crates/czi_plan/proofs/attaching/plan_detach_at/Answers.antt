use Rattle.std.proofs.Common.{◌+◌, drop, take, [], ap, ◌∙◌, subst, arith, length}
use Rattle.std.proofs.lemmas.Result.{err_from_is_err_and}
use Rattle.czi_format.specs.Document.{Attachment}
use Rattle.czi_image.specs.declared.change.Act.{Act as CodeAct}
use Rattle.czi_image.specs.declared.change.Act.TheVariants.{Out}
use Rattle.czi_image.specs.declared.index.Index.{Index}
use Rattle.czi_image.specs.declared.types.AttItem.{AttItem}
use Rattle.czi_machine.specs.Change.{out as taken_out}
use Rattle.czi_space.specs.State.{space_of}
use Rattle.czi_plan.specs.Changing.{edited, entries_in, range_after}
use Rattle.czi_plan.specs.Kind.{of_attachments}
use Rattle.czi_plan.specs.Listing.{IsPlace}
use Rattle.czi_plan.proofs.Attached.{count_as, out_count, sizes_for}
use Rattle.czi_plan.proofs.Acting.{brief_attachments}
use Rattle.czi_plan.proofs.Changed.{is_plan}
use Rattle.czi_plan.proofs.Doing.{does}
use Rattle.czi_plan.proofs.Entries.{sizes_total}
use Rattle.czi_plan.proofs.KindLaws.{att_laws}
use Rattle.czi_plan.proofs.Memory.{begins_attachments}
use Rattle.czi_plan.proofs.Machines.{att_machine}
use Rattle.czi_plan.proofs.Acts.{range_as, size_as}
use Rattle.czi_plan.proofs.Needs.{no_memory, no_place}
use Rattle.czi_plan.proofs.Parts.{few_brought, few_held, map_extents}
use Rattle.czi_plan.proofs.attaching.plan_detach_at.Goals as goal

pub plan_directory-requires-clause-rise : goal.plan_directory-requires-clause-rise
plan_directory-requires-clause-rise c = map_extents c.args.index.now c.args.space.now c.requires.of_index

pub att_sizes-sizes-requires-clause-few : goal.att_sizes-sizes-requires-clause-few
att_sizes-sizes-requires-clause-few c =
    let a : CodeAct AttItem = Out c.args.i in
    omega (arith, count_as a _ _ c.att_parts-parts.result c.deref.ensures.value c.att_parts-parts.ensures, out_count c.args.i c.args.index.now.attachments.items c.requires.inside, c.args.index.now.few_attachments, c.args.index.now.attachments.ok)

pub att_sizes-sizes-requires-clause-brought : goal.att_sizes-sizes-requires-clause-brought
att_sizes-sizes-requires-clause-brought c = let a : CodeAct AttItem = Out c.args.i in omega (arith, ap (length {A = AttItem}) c.att_parts-parts.ensures.brought, few_brought a)

pub stage_detachment-requires-clause-starts : goal.stage_detachment-requires-clause-starts
stage_detachment-requires-clause-starts c = begins_attachments c.args.space.now c.args.out.now c.take_memory.new.out c.length-out.result c.in_ok-out.field-0 c.requires.empty c.length-out.ensures c.take_memory.ensures.same

pub stage_detachment-requires-clause-no_writes : goal.stage_detachment-requires-clause-no_writes
stage_detachment-requires-clause-no_writes c = c.take_memory.ensures.same.writes ∙ c.requires.empty.writes

pub stage_detachment-requires-clause-no_marks : goal.stage_detachment-requires-clause-no_marks
stage_detachment-requires-clause-no_marks c = c.take_memory.ensures.same.marks ∙ c.requires.empty.marks

pub stage_detachment-requires-clause-place : goal.stage_detachment-requires-clause-place
stage_detachment-requires-clause-place c =
    let x : Index = c.args.index.now in
    let a : CodeAct AttItem = Out c.args.i in
    let s = c.att_sizes-sizes.result in
    let are = sizes_for a _ x.attachments.items c.att_parts-parts.result s c.deref.ensures.value c.att_parts-parts.ensures c.att_sizes-sizes.ensures.sizes in
    rw c.take_memory.ensures.same.attdir (subst (λ n. IsPlace x x.attdir n (range_after of_attachments a x) (space_of c.args.space.now) c.in_ok-out.field-0) (c.total-size.ensures ∙ sizes_total of_attachments s _ _ _ are)
    (subst (λ n. IsPlace x x.attdir c.total-size.result n (space_of c.args.space.now) c.in_ok-out.field-0) are.middle_is c.in_ok-out.ensures.place))

pub returns-in_err-out-clause-full : goal.returns-in_err-out-clause-full
returns-in_err-out-clause-full c =
    let p = err_from_is_err_and c.from_residual.result c.from_residual.ensures.1 in
    let x : Index = c.args.index.now in
    let s = c.att_sizes-sizes.result in
    let a : CodeAct AttItem = Out c.args.i in
    let b : CodeAct Attachment = Out c.args.i in
    let are = sizes_for a _ x.attachments.items c.att_parts-parts.result s c.deref.ensures.value c.att_parts-parts.ensures c.att_sizes-sizes.ensures.sizes in
    rw (p.1, p.2) (no_place att_laws att_machine x c.args.space.now b [] c.total-size.result s.middle c.in_err-out.field-0.0 c.requires.of_index (c.requires.inside, tt) tt
    (c.total-size.ensures ∙ (sizes_total of_attachments s _ _ _ are ∙ size_as of_attachments a [] x.attachments.items)) (are.middle_is ∙ range_as of_attachments [] (entries_in of_attachments (take 1 (drop c.args.i x.attachments.items))) (entries_in of_attachments (drop (c.args.i + 1) x.attachments.items))) c.in_err-out.ensures.full.0 c.in_err-out.ensures.full.1)

pub returns-in_err-take_memory-clause-full : goal.returns-in_err-take_memory-clause-full
returns-in_err-take_memory-clause-full c =
    let p = err_from_is_err_and c.from_residual-in_err-take_memory.result c.from_residual-in_err-take_memory.ensures.1 in
    let x : Index = c.args.index.now in
    let s = c.att_sizes-sizes.result in
    let a : CodeAct AttItem = Out c.args.i in
    let b : CodeAct Attachment = Out c.args.i in
    let are = sizes_for a _ x.attachments.items c.att_parts-parts.result s c.deref.ensures.value c.att_parts-parts.ensures c.att_sizes-sizes.ensures.sizes in
    rw (p.1, p.2) (no_memory att_laws att_machine x c.args.space.now b [] c.total-size.result s.middle c.in_ok-out.field-0 c.requires.of_index (c.requires.inside, tt) tt
    (c.total-size.ensures ∙ (sizes_total of_attachments s _ _ _ are ∙ size_as of_attachments a [] x.attachments.items)) (are.middle_is ∙ range_as of_attachments [] (entries_in of_attachments (take 1 (drop c.args.i x.attachments.items))) (entries_in of_attachments (drop (c.args.i + 1) x.attachments.items))) c.in_ok-out.ensures.place)

pub returns-clause-plan : goal.returns-clause-plan
returns-clause-plan c =
    is_plan att_laws c.args.index.now c.args.space.now (Out c.args.i) (edited (taken_out c.args.i)) c.stage_detachment.new.region _ c.stage_detachment.new.out c.requires.of_index c.stage_detachment.ensures

pub returns-clause-does : goal.returns-clause-does
returns-clause-does c =
    does att_laws att_machine c.args.index.now c.args.space.now (Out c.args.i) (taken_out c.args.i) c.stage_detachment.new.region _ c.stage_detachment.new.out c.requires.of_index c.stage_detachment.ensures

pub returns-clause-held : goal.returns-clause-held
returns-clause-held c = few_held att_laws (Out c.args.i) c.args.index.now c.stage_detachment.new.out.held.items c.stage_detachment.ensures.held

pub returns-clause-brief : goal.returns-clause-brief
returns-clause-brief c =
    brief_attachments c.args.index.now c.args.space.now (Out c.args.i) (edited (taken_out c.args.i)) c.stage_detachment.new.region _ c.stage_detachment.new.out c.requires.of_index c.stage_detachment.ensures
