use Rattle.std.proofs.Common.{Some, sym, subst, ◌∙◌}
use Rattle.czi_image.specs.declared.change.Setting.TheVariants.{To}
use Rattle.std.proofs.lemmas.Result.{err_from_is_err_and}
use Rattle.czi_format.specs.Space.{fit}
use Rattle.czi_num.specs.Span.{span_of}
use Rattle.czi_space.specs.State.{space_of}
use Rattle.czi_plan.specs.Attaching.{metadata_in}
use Rattle.czi_plan.specs.Placing.{IsFull}
use Rattle.czi_plan.proofs.Acting.{brief_metadata}
use Rattle.czi_plan.proofs.Parts.{map_extents}
use Rattle.czi_plan.proofs.Setting.{does, few_held, is_plan, no_memory, no_place}
use Rattle.czi_plan.proofs.metadata.plan_set_meta.Goals as goal

pub place-requires-clause-rise : goal.place-requires-clause-rise
place-requires-clause-rise c = map_extents c.args.index.now c.args.space.now c.requires.of_index

pub stage_setting-requires-clause-empty : goal.stage_setting-requires-clause-empty
stage_setting-requires-clause-empty c =
    let same = c.reserve.ensures.same in
    let none = c.requires.empty.change in
    record { directory = same.directory ∙ none.directory; tiles = same.tiles ∙ none.tiles; attdir = same.attdir ∙ none.attdir; attachments = same.attachments ∙ none.attachments; metadata = same.metadata ∙ none.metadata }

pub stage_setting-requires-clause-no_writes : goal.stage_setting-requires-clause-no_writes
stage_setting-requires-clause-no_writes c = c.reserve.ensures.same.writes ∙ c.requires.empty.writes

pub stage_setting-requires-clause-no_links : goal.stage_setting-requires-clause-no_links
stage_setting-requires-clause-no_links c = c.reserve.ensures.same.links ∙ c.requires.empty.links

pub stage_setting-requires-clause-no_used : goal.stage_setting-requires-clause-no_used
stage_setting-requires-clause-no_used c = c.reserve.ensures.same.used ∙ c.requires.empty.used

pub stage_setting-requires-clause-no_freed : goal.stage_setting-requires-clause-no_freed
stage_setting-requires-clause-no_freed c = c.reserve.ensures.same.freed ∙ c.requires.empty.freed

pub stage_setting-requires-clause-no_held : goal.stage_setting-requires-clause-no_held
stage_setting-requires-clause-no_held c = c.reserve.ensures.same.held ∙ c.requires.empty.held

pub stage_setting-requires-clause-no_marks : goal.stage_setting-requires-clause-no_marks
stage_setting-requires-clause-no_marks c = c.reserve.ensures.same.marks ∙ c.requires.empty.marks

pub stage_setting-requires-clause-no_dead : goal.stage_setting-requires-clause-no_dead
stage_setting-requires-clause-no_dead c = c.reserve.ensures.same.dead ∙ c.requires.empty.dead

pub returns-in_err-span-clause-full : goal.returns-in_err-span-clause-full
returns-in_err-span-clause-full c =
    let p = err_from_is_err_and c.from_residual.result c.from_residual.ensures.1 in
    rw (p.1, p.2) (no_place c.args.index.now c.args.space.now (metadata_in c.args.xml.now c.args.tail.now) c.in_err-span.field-0.0
    (subst (λ n. IsFull c.in_err-span.field-0.0 (fit (space_of c.args.space.now) n)) (sym c.data_len.ensures.need) c.in_err-span.ensures.full))

pub returns-in_err-reserve-clause-full : goal.returns-in_err-reserve-clause-full
returns-in_err-reserve-clause-full c =
    let p = err_from_is_err_and c.from_residual-in_err-reserve.result c.from_residual-in_err-reserve.ensures.1 in
    rw (p.1, p.2) (no_memory c.args.index.now c.args.space.now (metadata_in c.args.xml.now c.args.tail.now) (span_of c.in_ok-span.span) (rw c.data_len.ensures.need c.in_ok-span.ensures.placed))

pub returns-in_err-ensure-clause-full : goal.returns-in_err-ensure-clause-full
returns-in_err-ensure-clause-full c =
    let p = err_from_is_err_and c.from_residual-in_err-ensure.result c.from_residual-in_err-ensure.ensures.1 in
    rw (p.1, p.2) (no_memory c.args.index.now c.args.space.now (metadata_in c.args.xml.now c.args.tail.now) (span_of c.in_ok-span.span) (rw c.data_len.ensures.need c.in_ok-span.ensures.placed))

pub returns-clause-plan : goal.returns-clause-plan
returns-clause-plan c = is_plan c.requires.of_index c.stage_setting.ensures.1

pub returns-clause-does : goal.returns-clause-does
returns-clause-does c = does c.args.index.now c.args.space.now c.stage_setting.ensures.0 (metadata_in c.args.xml.now c.args.tail.now) c.stage_setting.new.region c.stage_setting.new.out c.requires.of_index c.stage_setting.ensures.1

pub returns-clause-held : goal.returns-clause-held
returns-clause-held c = few_held (To (Some c.stage_setting.ensures.0)) c.args.index.now c.stage_setting.new.out.held.items c.stage_setting.ensures.1.held

pub returns-clause-brief : goal.returns-clause-brief
returns-clause-brief c = brief_metadata c.args.index.now c.args.space.now (To (Some c.stage_setting.ensures.0)) _ c.stage_setting.new.region c.stage_setting.new.out c.stage_setting.ensures.1
