use Rattle.std.proofs.Common.{◌≡◌, ap, sym, ◌∙◌, subst}
use Rattle.std.proofs.lemmas.Result.{err_from_is_err_and}
use Rattle.czi_format.specs.Space.{fit}
use Rattle.czi_image.specs.declared.change.DirectoryChange.{DirectoryChange}
use Rattle.czi_image.specs.declared.index.Index.{Index}
use Rattle.czi_space.specs.State.{space_of}
use Rattle.czi_plan.specs.Changing.{Begins, Stages, returned, size_after}
use Rattle.czi_plan.specs.Directory.{need_of}
use Rattle.czi_plan.specs.Kind.{of_subblocks}
use Rattle.czi_plan.specs.Listing.{fits_in_place}
use Rattle.czi_plan.specs.Placing.{IsFull}
use Rattle.czi_plan.specs.declared.plan.EditPlan.{EditPlan}
use Rattle.czi_plan.proofs.Back.{kinds_back, memory_tiles, place_as, room_for, tiles_back}
use Rattle.czi_plan.proofs.Entries.{sizes_total}
use Rattle.czi_plan.proofs.Inverses.{tiles_back as comes_back, tiles_in_range}
use Rattle.czi_plan.proofs.Parts.{map_extents}
use Rattle.czi_plan.proofs.undoing.plan_tiles.Goals as goal

pub plan_directory-requires-clause-rise : goal.plan_directory-requires-clause-rise
plan_directory-requires-clause-rise c = map_extents c.args.index.now c.args.space.now c.requires.of_index

pub link_tile-requires-clause-back : goal.link_tile-requires-clause-back
link_tile-requires-clause-back c = kinds_back of_subblocks c.args.index.now c.args.space.now _ (comes_back c.args.index.now c.args.space.now c.args.part.now c.tile_act-act.result c.requires.fits c.tile_act-act.ensures)

pub link_tile-requires-clause-memory : goal.link_tile-requires-clause-memory
link_tile-requires-clause-memory c = memory_tiles c.args.out.now c.length-out.result c.in_ok-out.field-0 c.tile_act-act.new.dimensions c.requires.memory

pub stage_act-requires-clause-within : goal.stage_act-requires-clause-within
stage_act-requires-clause-within c = (tiles_in_range c.args.index.now c.args.space.now c.args.part.now c.tile_act-act.result c.requires.fits c.tile_act-act.ensures).0

pub stage_act-requires-clause-few : goal.stage_act-requires-clause-few
stage_act-requires-clause-few c = (tiles_in_range c.args.index.now c.args.space.now c.args.part.now c.tile_act-act.result c.requires.fits c.tile_act-act.ensures).1

pub stage_act-requires-clause-sizes : goal.stage_act-requires-clause-sizes
stage_act-requires-clause-sizes c = c.tile_sizes-sizes.ensures.sizes c.tile_act-act.result c.tile_act-act.ensures

pub stage_act-requires-clause-begins : goal.stage_act-requires-clause-begins
stage_act-requires-clause-begins c =
    let x : Index = c.args.index.now in
    let m = c.args.space.now in
    let a = c.tile_act-act.result in
    let back = comes_back x m c.args.part.now a c.requires.fits c.tile_act-act.ensures in
    let linked = c.link_tile.ensures in
    let place = place_as of_subblocks x m a c.tile_sizes-sizes.result c.total-size.result c.in_ok-out.field-0 (c.tile_sizes-sizes.ensures.sizes a c.tile_act-act.ensures) c.total-size.ensures c.in_ok-out.ensures.place in (
      returned,
      subst (λ (d : DirectoryChange). Begins of_subblocks x m c.args.region.now a returned d c.link_tile.new.out) (sym (ap (λ (p : EditPlan). p.change.directory) linked.others))
          (tiles_back x m c.args.region.now a c.args.out.now c.link_tile.new.out c.length-out.result c.in_ok-out.field-0 c.tile_act-act.new.dimensions c.requires.of_index c.requires.empty c.length-out.ensures linked.others linked.used back place),
    )

pub stage_act-requires-clause-room : goal.stage_act-requires-clause-room
stage_act-requires-clause-room c =
    let x : Index = c.args.index.now in
    let m = c.args.space.now in
    let a = c.tile_act-act.result in
    let place = place_as of_subblocks x m a c.tile_sizes-sizes.result c.total-size.result c.in_ok-out.field-0 (c.tile_sizes-sizes.ensures.sizes a c.tile_act-act.ensures) c.total-size.ensures c.in_ok-out.ensures.place in
    rw (ap (λ (p : EditPlan). p.change.directory) c.link_tile.ensures.others) (room_for of_subblocks x a (space_of m) c.in_ok-out.field-0 _ place (c.requires.room a c.tile_act-act.ensures))

pub stage_act-requires-clause-writes_room : goal.stage_act-requires-clause-writes_room
stage_act-requires-clause-writes_room c = rw (ap (λ (p : EditPlan). p.writes) c.link_tile.ensures.others) c.requires.writes_room

pub returns-in_err-out-clause-full : goal.returns-in_err-out-clause-full
returns-in_err-out-clause-full c =
    let p = err_from_is_err_and c.from_residual.result c.from_residual.ensures.1 in
    let x : Index = c.args.index.now in
    rw (p.1, p.2) (λ a act.
    let are = c.tile_sizes-sizes.ensures.sizes a act in
    let size : c.total-size.result ≡ size_after of_subblocks a x = c.total-size.ensures ∙ sizes_total of_subblocks c.tile_sizes-sizes.result _ _ _ are in
    ((λ j. fits_in_place x.directory (sym size j) (sym are.middle_is j)) ∙ c.in_err-out.ensures.full.0, subst (λ n. IsFull c.in_err-out.field-0.0 (fit (space_of c.args.space.now) (need_of n))) size c.in_err-out.ensures.full.1))

pub returns-in_err-out-clause-never : goal.returns-in_err-out-clause-never
returns-in_err-out-clause-never c =
    let p = err_from_is_err_and c.from_residual.result c.from_residual.ensures.1 in
    rw (p.1, p.2) c.in_err-out.ensures.never

pub returns-clause-stages : goal.returns-clause-stages
returns-clause-stages c =
    let x : Index = c.args.index.now in
    let m = c.args.space.now in
    let a = c.tile_act-act.result in
    let back = comes_back x m c.args.part.now a c.requires.fits c.tile_act-act.ensures in
    let linked = c.link_tile.ensures in
    let place = place_as of_subblocks x m a c.tile_sizes-sizes.result c.total-size.result c.in_ok-out.field-0 (c.tile_sizes-sizes.ensures.sizes a c.tile_act-act.ensures) c.total-size.ensures c.in_ok-out.ensures.place in
    let begins = subst (λ (d : DirectoryChange). Begins of_subblocks x m c.args.region.now a returned d c.link_tile.new.out) (sym (ap (λ (p : EditPlan). p.change.directory) linked.others))
    (tiles_back x m c.args.region.now a c.args.out.now c.link_tile.new.out c.length-out.result c.in_ok-out.field-0 c.tile_act-act.new.dimensions c.requires.of_index c.requires.empty c.length-out.ensures linked.others linked.used back place) in
    let stages = c.stage_act.ensures.stages returned begins in
    (a, c.tile_act-act.ensures, subst (λ (d : DirectoryChange). Stages of_subblocks x m a returned c.stage_act.new.region d c.stage_act.new.out) (sym stages.change.directory) stages)
