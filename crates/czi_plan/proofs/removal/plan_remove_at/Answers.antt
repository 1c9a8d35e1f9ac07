use Rattle.std.proofs.Common.{[], refl, ◌∙◌, subst}
use Rattle.std.proofs.lemmas.Result.{err_from_is_err_and}
use Rattle.czi_format.specs.Document.{Subblock}
use Rattle.czi_image.specs.declared.change.Act.{Act as CodeAct}
use Rattle.czi_image.specs.declared.change.Act.TheVariants.{Out}
use Rattle.czi_image.specs.declared.index.Index.{Index}
use Rattle.czi_machine.specs.Change.{out as taken_out}
use Rattle.czi_space.specs.State.{space_of}
use Rattle.czi_plan.specs.Kind.{of_subblocks}
use Rattle.czi_plan.specs.Bringing.{AreSizesOf}
use Rattle.czi_plan.specs.Changing.{edited, back_entries, front_entries, middle_entries, range_after}
use Rattle.czi_plan.specs.Listing.{AreSizes, IsPlace}
use Rattle.czi_plan.proofs.Brought.{range_of_act, size_of_act, sizes_out}
use Rattle.czi_plan.proofs.Acting.{brief_tiles}
use Rattle.czi_plan.proofs.Changed.{is_plan}
use Rattle.czi_plan.proofs.Doing.{does}
use Rattle.czi_plan.proofs.Entries.{sizes_total}
use Rattle.czi_plan.proofs.KindLaws.{tile_laws}
use Rattle.czi_plan.proofs.Memory.{begins_tiles}
use Rattle.czi_plan.proofs.Machines.{tile_machine}
use Rattle.czi_plan.proofs.Needs.{no_memory, no_place}
use Rattle.czi_plan.proofs.Parts.{few_held, map_extents}
use Rattle.czi_plan.proofs.removal.plan_remove_at.Goals as goal

pub plan_directory-requires-clause-rise : goal.plan_directory-requires-clause-rise
plan_directory-requires-clause-rise c = map_extents c.args.index.now c.args.space.now c.requires.of_index

pub stage_removal-requires-clause-starts : goal.stage_removal-requires-clause-starts
stage_removal-requires-clause-starts c = begins_tiles c.args.space.now c.args.out.now c.take_memory.new.out c.length-out.result c.in_ok-out.field-0 c.requires.empty c.length-out.ensures c.take_memory.ensures.same

pub stage_removal-requires-clause-no_writes : goal.stage_removal-requires-clause-no_writes
stage_removal-requires-clause-no_writes c = c.take_memory.ensures.same.writes ∙ c.requires.empty.writes

pub stage_removal-requires-clause-no_marks : goal.stage_removal-requires-clause-no_marks
stage_removal-requires-clause-no_marks c = c.take_memory.ensures.same.marks ∙ c.requires.empty.marks

pub stage_removal-requires-clause-sizes : goal.stage_removal-requires-clause-sizes
stage_removal-requires-clause-sizes c =
    let s = c.sizes_after-sizes.result in
    let of : AreSizesOf of_subblocks s (Out c.args.i) c.args.index.now.tiles.items = subst (AreSizesOf of_subblocks s (Out c.args.i)) c.deref.ensures.value (sizes_out s c.deref.result.now c.args.i c.sizes_after-sizes.ensures.sizes) in
    of [] refl

pub stage_removal-requires-clause-place : goal.stage_removal-requires-clause-place
stage_removal-requires-clause-place c =
    let x : Index = c.args.index.now in
    let s = c.sizes_after-sizes.result in
    let of : AreSizesOf of_subblocks s (Out c.args.i) x.tiles.items = subst (AreSizesOf of_subblocks s (Out c.args.i)) c.deref.ensures.value (sizes_out s c.deref.result.now c.args.i c.sizes_after-sizes.ensures.sizes) in
    let are : AreSizes of_subblocks s (front_entries of_subblocks (Out c.args.i) x.tiles.items) (middle_entries of_subblocks (Out c.args.i) x.tiles.items) (back_entries of_subblocks (Out c.args.i) x.tiles.items) = of [] refl in
    rw c.take_memory.ensures.same.directory (subst (λ n. IsPlace x x.directory n (range_after of_subblocks (Out c.args.i) x) (space_of c.args.space.now) c.in_ok-out.field-0) (c.total-size.ensures ∙ sizes_total of_subblocks s _ _ _ are)
    (subst (λ n. IsPlace x x.directory c.total-size.result n (space_of c.args.space.now) c.in_ok-out.field-0) are.middle_is c.in_ok-out.ensures.place))

pub returns-in_err-out-clause-full : goal.returns-in_err-out-clause-full
returns-in_err-out-clause-full c =
    let p = err_from_is_err_and c.from_residual.result c.from_residual.ensures.1 in
    let x : Index = c.args.index.now in
    let s = c.sizes_after-sizes.result in
    let b : CodeAct Subblock = Out c.args.i in
    let of : AreSizesOf of_subblocks s b x.tiles.items = subst (AreSizesOf of_subblocks s b) c.deref.ensures.value (sizes_out s c.deref.result.now c.args.i c.sizes_after-sizes.ensures.sizes) in
    rw (p.1, p.2) (no_place tile_laws tile_machine x c.args.space.now b [] c.total-size.result s.middle c.in_err-out.field-0.0 c.requires.of_index (c.requires.inside, tt) tt (c.total-size.ensures ∙ size_of_act of_subblocks s b [] x refl of) (range_of_act of_subblocks s b [] x refl of) c.in_err-out.ensures.full.0 c.in_err-out.ensures.full.1)

pub returns-in_err-take_memory-clause-full : goal.returns-in_err-take_memory-clause-full
returns-in_err-take_memory-clause-full c =
    let p = err_from_is_err_and c.from_residual-in_err-take_memory.result c.from_residual-in_err-take_memory.ensures.1 in
    let x : Index = c.args.index.now in
    let s = c.sizes_after-sizes.result in
    let b : CodeAct Subblock = Out c.args.i in
    let of : AreSizesOf of_subblocks s b x.tiles.items = subst (AreSizesOf of_subblocks s b) c.deref.ensures.value (sizes_out s c.deref.result.now c.args.i c.sizes_after-sizes.ensures.sizes) in
    rw (p.1, p.2) (no_memory tile_laws tile_machine x c.args.space.now b [] c.total-size.result s.middle c.in_ok-out.field-0 c.requires.of_index (c.requires.inside, tt) tt (c.total-size.ensures ∙ size_of_act of_subblocks s b [] x refl of) (range_of_act of_subblocks s b [] x refl of) c.in_ok-out.ensures.place)

pub returns-clause-plan : goal.returns-clause-plan
returns-clause-plan c =
    is_plan tile_laws c.args.index.now c.args.space.now (Out c.args.i) (edited (taken_out c.args.i)) c.stage_removal.new.region _ c.stage_removal.new.out c.requires.of_index c.stage_removal.ensures

pub returns-clause-does : goal.returns-clause-does
returns-clause-does c =
    does tile_laws tile_machine c.args.index.now c.args.space.now (Out c.args.i) (taken_out c.args.i) c.stage_removal.new.region _ c.stage_removal.new.out c.requires.of_index c.stage_removal.ensures

pub returns-clause-held : goal.returns-clause-held
returns-clause-held c = few_held tile_laws (Out c.args.i) c.args.index.now c.stage_removal.new.out.held.items c.stage_removal.ensures.held

pub returns-clause-brief : goal.returns-clause-brief
returns-clause-brief c =
    brief_tiles c.args.index.now c.args.space.now (Out c.args.i) (edited (taken_out c.args.i)) c.stage_removal.new.region _ c.stage_removal.new.out c.requires.of_index c.stage_removal.ensures
