use Rattle.std.proofs.Common.{◌+◌, ◌^◌, [], ◌∷◌, ap, sym, ◌∙◌, subst}
use Rattle.std.proofs.lemmas.Result.{err_from_is_err_and}
use Rattle.czi_doc.specs.declared.items.AttInfo.{AttInfo}
use Rattle.czi_format.specs.Space.{fit, use_span}
use Rattle.czi_image.specs.Change.{act_of}
use Rattle.czi_image.specs.declared.index.Index.{Index}
use Rattle.czi_machine.specs.Edit.{in_attachments}
use Rattle.czi_num.specs.Span.{span_of}
use Rattle.czi_space.specs.State.{space_of}
use Rattle.czi_plan.specs.Attaching.{attachment_in}
use Rattle.czi_plan.specs.Bringing.{act_at}
use Rattle.czi_plan.specs.Does.{Does}
use Rattle.czi_plan.specs.Kind.{of_attachments}
use Rattle.czi_plan.specs.Listing.{IsPlace}
use Rattle.czi_plan.specs.Placing.{IsFull}
use Rattle.czi_plan.proofs.Attached.{range_brought, seat_sizes, size_brought}
use Rattle.czi_plan.proofs.Brought.{brought_at, fit_at, place_at, within_at}
use Rattle.czi_plan.proofs.Acting.{brief_attachments}
use Rattle.czi_plan.proofs.Changed.{is_plan}
use Rattle.czi_plan.proofs.Doing.{does}
use Rattle.czi_plan.proofs.Entries.{sizes_total}
use Rattle.czi_plan.proofs.KindLaws.{att_laws}
use Rattle.czi_plan.proofs.Memory.{begins_attachments}
use Rattle.czi_plan.proofs.Machines.{att_machine}
use Rattle.czi_plan.proofs.Needs.{no_memory, no_place, no_room}
use Rattle.czi_plan.proofs.Parts.{few_held, map_extents}
use Rattle.czi_plan.proofs.attaching.plan_attached.Goals as goal

pub place-requires-clause-rise : goal.place-requires-clause-rise
place-requires-clause-rise c = map_extents c.args.index.now c.args.space.now c.requires.of_index

pub plan_directory-requires-clause-rise : goal.plan_directory-requires-clause-rise
plan_directory-requires-clause-rise c = map_extents c.args.index.now c.args.space.now c.requires.of_index

pub stage_attached-requires-clause-starts : goal.stage_attached-requires-clause-starts
stage_attached-requires-clause-starts c = begins_attachments c.args.space.now c.args.out.now c.take_memory.new.out c.length-out.result c.in_ok-out.field-0 c.requires.empty c.length-out.ensures c.take_memory.ensures.same

pub stage_attached-requires-clause-no_writes : goal.stage_attached-requires-clause-no_writes
stage_attached-requires-clause-no_writes c = c.take_memory.ensures.same.writes ∙ c.requires.empty.writes

pub stage_attached-requires-clause-no_marks : goal.stage_attached-requires-clause-no_marks
stage_attached-requires-clause-no_marks c = c.take_memory.ensures.same.marks ∙ c.requires.empty.marks

pub stage_attached-requires-clause-place : goal.stage_attached-requires-clause-place
stage_attached-requires-clause-place c =
    let x : Index = c.args.index.now in
    let i = c.new_attachment-item.result in
    let sizes = c.att_sizes-sizes.result in
    let space = use_span (space_of c.args.space.now) (span_of c.in_ok-span.span) in
    let are = seat_sizes c.args.seat i x c.act-act.result _ c.att_parts-parts.result sizes c.act-act.ensures c.deref.ensures.value c.att_parts-parts.ensures c.att_sizes-sizes.ensures.sizes in
    let there = ap (λ z. use_span (space_of c.args.space.now) (span_of z)) (sym c.new_attachment-item.ensures.item.span_is) in
    rw c.take_memory.ensures.same.attdir (place_at of_attachments x c.args.seat i sizes (use_span (space_of c.args.space.now) (span_of i.span)) c.in_ok-out.field-0 are
    (subst (λ z. IsPlace x x.attdir (sizes.front + sizes.middle + sizes.back) sizes.middle z c.in_ok-out.field-0) there (subst (λ n. IsPlace x x.attdir n sizes.middle space c.in_ok-out.field-0) c.total-size.ensures c.in_ok-out.ensures.place)))

pub returns-in_err-span-clause-full : goal.returns-in_err-span-clause-full
returns-in_err-span-clause-full c =
    let p = err_from_is_err_and c.from_residual.result c.from_residual.ensures.1 in
    let s = attachment_in c.args.info.now c.args.bytes.now in
    rw (p.1, p.2) (no_room att_laws att_machine c.args.index.now c.args.space.now (act_at c.args.seat s) s c.in_err-span.field-0.0 (brought_at c.args.seat s)
    (subst (λ n. IsFull c.in_err-span.field-0.0 (fit (space_of c.args.space.now) (32 + n))) c.att_size.ensures.value c.in_err-span.ensures.full))

pub returns-in_err-out-clause-full : goal.returns-in_err-out-clause-full
returns-in_err-out-clause-full c =
    let p = err_from_is_err_and c.from_residual-in_err-out.result c.from_residual-in_err-out.ensures.1 in
    let x : Index = c.args.index.now in
    let i = c.new_attachment-item.result in
    let s = attachment_in c.args.info.now c.args.bytes.now in
    let sizes = c.att_sizes-sizes.result in
    let are = seat_sizes c.args.seat i x c.act-act.result _ c.att_parts-parts.result sizes c.act-act.ensures c.deref.ensures.value c.att_parts-parts.ensures c.att_sizes-sizes.ensures.sizes in
    rw (p.1, p.2) (no_place att_laws att_machine x c.args.space.now (act_at c.args.seat s) (span_of c.in_ok-span.span ∷ []) c.total-size.result sizes.middle c.in_err-out.field-0.0 c.requires.of_index (within_at c.args.seat s _ (2 ^ 12) c.requires.seat)
    (fit_at of_attachments.need c.args.space.now c.args.seat s _ (span_of c.in_ok-span.span) (ap (λ n. 32 + n) (sym c.att_size.ensures.value)) c.in_ok-span.ensures.placed)
    (c.total-size.ensures ∙ (sizes_total of_attachments sizes _ _ _ are ∙ size_brought c.args.seat i s x)) (are.middle_is ∙ range_brought c.args.seat i s x) c.in_err-out.ensures.full.0 c.in_err-out.ensures.full.1)

pub returns-in_err-take_memory-clause-full : goal.returns-in_err-take_memory-clause-full
returns-in_err-take_memory-clause-full c =
    let p = err_from_is_err_and c.from_residual-in_err-take_memory.result c.from_residual-in_err-take_memory.ensures.1 in
    let x : Index = c.args.index.now in
    let i = c.new_attachment-item.result in
    let s = attachment_in c.args.info.now c.args.bytes.now in
    let sizes = c.att_sizes-sizes.result in
    let are = seat_sizes c.args.seat i x c.act-act.result _ c.att_parts-parts.result sizes c.act-act.ensures c.deref.ensures.value c.att_parts-parts.ensures c.att_sizes-sizes.ensures.sizes in
    rw (p.1, p.2) (no_memory att_laws att_machine x c.args.space.now (act_at c.args.seat s) (span_of c.in_ok-span.span ∷ []) c.total-size.result sizes.middle c.in_ok-out.field-0 c.requires.of_index (within_at c.args.seat s _ (2 ^ 12) c.requires.seat)
    (fit_at of_attachments.need c.args.space.now c.args.seat s _ (span_of c.in_ok-span.span) (ap (λ n. 32 + n) (sym c.att_size.ensures.value)) c.in_ok-span.ensures.placed)
    (c.total-size.ensures ∙ (sizes_total of_attachments sizes _ _ _ are ∙ size_brought c.args.seat i s x)) (are.middle_is ∙ range_brought c.args.seat i s x) c.in_ok-out.ensures.place)

pub returns-clause-plan : goal.returns-clause-plan
returns-clause-plan c =
    is_plan att_laws c.args.index.now c.args.space.now (act_at c.args.seat c.new_attachment-item.result) _ c.stage_attached.new.region _ c.stage_attached.new.out c.requires.of_index c.stage_attached.ensures

pub returns-clause-does : goal.returns-clause-does
returns-clause-does c =
    let x : Index = c.args.index.now in
    let i = c.new_attachment-item.result in
    subst (λ (info : AttInfo). Does x c.args.space.now c.stage_attached.new.region c.stage_attached.new.out (in_attachments (act_of (act_at c.args.seat (attachment_in info c.args.bytes.now))))) c.new_attachment-item.ensures.item.info_is
    (does att_laws att_machine x c.args.space.now (act_at c.args.seat i) (act_of (act_at c.args.seat (attachment_in i.info c.args.bytes.now))) c.stage_attached.new.region _ c.stage_attached.new.out c.requires.of_index c.stage_attached.ensures)

pub returns-clause-held : goal.returns-clause-held
returns-clause-held c = few_held att_laws (act_at c.args.seat c.new_attachment-item.result) c.args.index.now c.stage_attached.new.out.held.items c.stage_attached.ensures.held

pub returns-clause-brief : goal.returns-clause-brief
returns-clause-brief c =
    brief_attachments c.args.index.now c.args.space.now (act_at c.args.seat c.new_attachment-item.result) _ c.stage_attached.new.region _ c.stage_attached.new.out c.requires.of_index c.stage_attached.ensures
