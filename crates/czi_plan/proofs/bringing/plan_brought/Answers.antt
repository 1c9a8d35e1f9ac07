use Rattle.std.proofs.Common.{◌∷◌, [], ◌^◌, ap, sum, sym, ◌∙◌, subst}
use Rattle.std.proofs.lemmas.Result.{err_from_is_err_and}
use Rattle.czi_format.specs.Space.{fit}
use Rattle.czi_image.specs.Change.{act_of}
use Rattle.czi_num.specs.Span.{span_of}
use Rattle.czi_space.specs.State.{space_of}
use Rattle.czi_plan.specs.Kind.{of_subblocks}
use Rattle.czi_plan.specs.Bringing.{AreSizesOf, act_at, subblock_of}
use Rattle.czi_plan.specs.Placing.{IsFull}
use Rattle.czi_plan.proofs.Brought.{as_entries, brought_at, entries_as_long, fit_at, range_of_act, size_of_act, within_at}
use Rattle.czi_plan.proofs.Acting.{brief_tiles}
use Rattle.czi_plan.proofs.Changed.{is_plan}
use Rattle.czi_plan.proofs.Doing.{does}
use Rattle.czi_plan.specs.Changing.{tiles_brought}
use Rattle.czi_plan.proofs.KindLaws.{tile_laws}
use Rattle.czi_plan.proofs.Memory.{begins_tiles}
use Rattle.czi_plan.proofs.Machines.{tile_machine}
use Rattle.czi_plan.proofs.Needs.{no_memory, no_place, no_room}
use Rattle.czi_plan.proofs.Parts.{few_held, map_extents}
use Rattle.czi_plan.proofs.bringing.plan_brought.Goals as goal

pub place-requires-clause-rise : goal.place-requires-clause-rise
place-requires-clause-rise c = map_extents c.args.index.now c.args.space.now c.requires.of_index

pub plan_directory-requires-clause-rise : goal.plan_directory-requires-clause-rise
plan_directory-requires-clause-rise c = map_extents c.args.index.now c.args.space.now c.requires.of_index

pub stage_brought-requires-clause-starts : goal.stage_brought-requires-clause-starts
stage_brought-requires-clause-starts c = begins_tiles c.args.space.now c.args.out.now c.take_memory.new.out c.length-out.result c.in_ok-out.field-0 c.requires.empty c.length-out.ensures c.take_memory.ensures.same

pub stage_brought-requires-clause-no_writes : goal.stage_brought-requires-clause-no_writes
stage_brought-requires-clause-no_writes c = c.take_memory.ensures.same.writes ∙ c.requires.empty.writes

pub stage_brought-requires-clause-no_marks : goal.stage_brought-requires-clause-no_marks
stage_brought-requires-clause-no_marks c = c.take_memory.ensures.same.marks ∙ c.requires.empty.marks

pub stage_brought-requires-clause-sizes : goal.stage_brought-requires-clause-sizes
stage_brought-requires-clause-sizes c =
    let s = subblock_of c.args.new.now in
    subst (AreSizesOf of_subblocks c.sizes-sizes.result (act_at c.args.seat s)) c.deref.ensures.value (c.sizes-sizes.ensures.sizes s (sym c.entry_len.ensures))

pub returns-in_err-span-clause-full : goal.returns-in_err-span-clause-full
returns-in_err-span-clause-full c =
    let p = err_from_is_err_and c.from_residual.result c.from_residual.ensures.1 in
    let s = subblock_of c.args.new.now in
    rw (p.1, p.2) (no_room tile_laws tile_machine c.args.index.now c.args.space.now (act_at c.args.seat s) s c.in_err-span.field-0.0 (brought_at c.args.seat s)
    (subst (λ n. IsFull c.in_err-span.field-0.0 (fit (space_of c.args.space.now) n)) (sym c.data_len.ensures.need) c.in_err-span.ensures.full))

pub returns-in_err-out-clause-full : goal.returns-in_err-out-clause-full
returns-in_err-out-clause-full c =
    let p = err_from_is_err_and c.from_residual-in_err-out.result c.from_residual-in_err-out.ensures.1 in
    let x = c.args.index.now in
    let s = subblock_of c.args.new.now in
    let of = subst (AreSizesOf of_subblocks c.sizes-sizes.result (act_at c.args.seat s)) c.deref.ensures.value (c.sizes-sizes.ensures.sizes s (sym c.entry_len.ensures)) in
    let long = ap sum (entries_as_long (tiles_brought (act_at c.args.seat s))) in
    rw (p.1, p.2) (no_place tile_laws tile_machine x c.args.space.now (act_at c.args.seat s) (span_of c.in_ok-span.span ∷ []) c.total-size.result c.sizes-sizes.result.middle c.in_err-out.field-0.0 c.requires.of_index (within_at c.args.seat s _ (2 ^ 20) c.requires.seat)
    (fit_at of_subblocks.need c.args.space.now c.args.seat s _ (span_of c.in_ok-span.span) c.data_len.ensures.need c.in_ok-span.ensures.placed) (c.total-size.ensures ∙ size_of_act of_subblocks c.sizes-sizes.result (act_at c.args.seat s) (as_entries (tiles_brought (act_at c.args.seat s))) x long of) (range_of_act of_subblocks c.sizes-sizes.result (act_at c.args.seat s) (as_entries (tiles_brought (act_at c.args.seat s))) x long of)
    c.in_err-out.ensures.full.0 c.in_err-out.ensures.full.1)

pub returns-in_err-take_memory-clause-full : goal.returns-in_err-take_memory-clause-full
returns-in_err-take_memory-clause-full c =
    let p = err_from_is_err_and c.from_residual-in_err-take_memory.result c.from_residual-in_err-take_memory.ensures.1 in
    let x = c.args.index.now in
    let s = subblock_of c.args.new.now in
    let of = subst (AreSizesOf of_subblocks c.sizes-sizes.result (act_at c.args.seat s)) c.deref.ensures.value (c.sizes-sizes.ensures.sizes s (sym c.entry_len.ensures)) in
    let long = ap sum (entries_as_long (tiles_brought (act_at c.args.seat s))) in
    rw (p.1, p.2) (no_memory tile_laws tile_machine x c.args.space.now (act_at c.args.seat s) (span_of c.in_ok-span.span ∷ []) c.total-size.result c.sizes-sizes.result.middle c.in_ok-out.field-0 c.requires.of_index (within_at c.args.seat s _ (2 ^ 20) c.requires.seat)
    (fit_at of_subblocks.need c.args.space.now c.args.seat s _ (span_of c.in_ok-span.span) c.data_len.ensures.need c.in_ok-span.ensures.placed) (c.total-size.ensures ∙ size_of_act of_subblocks c.sizes-sizes.result (act_at c.args.seat s) (as_entries (tiles_brought (act_at c.args.seat s))) x long of) (range_of_act of_subblocks c.sizes-sizes.result (act_at c.args.seat s) (as_entries (tiles_brought (act_at c.args.seat s))) x long of)
    c.in_ok-out.ensures.place)

pub returns-in_err-tile-clause-full : goal.returns-in_err-tile-clause-full
returns-in_err-tile-clause-full c =
    let p = err_from_is_err_and c.from_residual-in_err-tile.result c.from_residual-in_err-tile.ensures.1 in
    let x = c.args.index.now in
    let s = subblock_of c.args.new.now in
    let of = subst (AreSizesOf of_subblocks c.sizes-sizes.result (act_at c.args.seat s)) c.deref.ensures.value (c.sizes-sizes.ensures.sizes s (sym c.entry_len.ensures)) in
    let long = ap sum (entries_as_long (tiles_brought (act_at c.args.seat s))) in
    rw (p.1, p.2) (no_memory tile_laws tile_machine x c.args.space.now (act_at c.args.seat s) (span_of c.in_ok-span.span ∷ []) c.total-size.result c.sizes-sizes.result.middle c.in_ok-out.field-0 c.requires.of_index (within_at c.args.seat s _ (2 ^ 20) c.requires.seat)
    (fit_at of_subblocks.need c.args.space.now c.args.seat s _ (span_of c.in_ok-span.span) c.data_len.ensures.need c.in_ok-span.ensures.placed) (c.total-size.ensures ∙ size_of_act of_subblocks c.sizes-sizes.result (act_at c.args.seat s) (as_entries (tiles_brought (act_at c.args.seat s))) x long of) (range_of_act of_subblocks c.sizes-sizes.result (act_at c.args.seat s) (as_entries (tiles_brought (act_at c.args.seat s))) x long of)
    c.in_ok-out.ensures.place)

pub returns-clause-plan : goal.returns-clause-plan
returns-clause-plan c =
    is_plan tile_laws c.args.index.now c.args.space.now (act_at c.args.seat c.in_ok-tile.tile) _ c.stage_brought.new.region _ c.stage_brought.new.out c.requires.of_index c.stage_brought.ensures

pub returns-clause-does : goal.returns-clause-does
returns-clause-does c =
    does tile_laws tile_machine c.args.index.now c.args.space.now (act_at c.args.seat c.in_ok-tile.tile) (act_of (act_at c.args.seat (subblock_of c.args.new.now))) c.stage_brought.new.region _ c.stage_brought.new.out c.requires.of_index c.stage_brought.ensures

pub returns-clause-held : goal.returns-clause-held
returns-clause-held c =
    few_held tile_laws (act_at c.args.seat c.in_ok-tile.tile) c.args.index.now c.stage_brought.new.out.held.items c.stage_brought.ensures.held

pub returns-clause-brief : goal.returns-clause-brief
returns-clause-brief c =
    brief_tiles c.args.index.now c.args.space.now (act_at c.args.seat c.in_ok-tile.tile) _ c.stage_brought.new.region _ c.stage_brought.new.out c.requires.of_index c.stage_brought.ensures
