use Rattle.std.proofs.Common.{◌^◌, ◌≡◌, ap, subst, arith}
use Rattle.czi_image.specs.Change.{act_of}
use Rattle.czi_image.specs.declared.change.Act.{Act as CodeAct}
use Rattle.czi_image.specs.declared.change.DirectoryChange.{DirectoryChange}
use Rattle.czi_image.specs.declared.types.Tile.{Tile}
use Rattle.czi_region.specs.Pieces.{room}
use Rattle.czi_plan.specs.Kind.{of_subblocks}
use Rattle.czi_plan.specs.Bringing.{act_at, subblock_of}
use Rattle.czi_plan.specs.Changing.{Stages, edited}
use Rattle.czi_plan.specs.Listing.{HasRoomFor}
use Rattle.czi_plan.specs.declared.plan.EditPlan.{EditPlan}
use Rattle.czi_format.specs.Entry.{info_len}
use Rattle.czi_format.specs.Space.{use_span}
use Rattle.czi_space.specs.State.{space_of}
use Rattle.czi_num.specs.Span.{span_of}
use Rattle.czi_num.specs.declared.span.Span.{Span as CodeSpan}
use Rattle.czi_plan.proofs.Marking.{first_marks}
use Rattle.czi_plan.proofs.Memory.{memory_of}
use Rattle.czi_plan.proofs.Brought.{begins_at, few_at, is_new, marks_at, place_at, sizes_at}
use Rattle.czi_plan.proofs.bringing.stage_brought.Goals as goal

pub stage_act-requires-clause-few : goal.stage_act-requires-clause-few
stage_act-requires-clause-few c =
    rw c.act-act.ensures (few_at (2 ^ 20) c.args.incoming.now.seat c.args.tile c.args.index.now.tiles.items c.requires.seat (omega (arith, c.args.index.now.few_tiles)))

pub stage_act-requires-clause-sizes : goal.stage_act-requires-clause-sizes
stage_act-requires-clause-sizes c =
    let i = c.args.incoming.now in
    rw c.act-act.ensures (sizes_at of_subblocks i.sizes i.seat (subblock_of i.new.now) c.args.tile c.args.index.now.tiles.items (ap info_len c.requires.tile.info) c.requires.sizes)

pub stage_act-requires-clause-begins : goal.stage_act-requires-clause-begins
stage_act-requires-clause-begins c =
    let x = c.args.index.now in
    let i = c.args.incoming.now in
    let s = subblock_of i.new.now in
    let t : Tile = c.args.tile in
    let staged = c.stage_subblock.ensures in
    let sizes = sizes_at of_subblocks i.sizes i.seat s t x.tiles.items (ap info_len c.requires.tile.info) c.requires.sizes in
    rw c.act-act.ensures (
      edited (act_of (act_at i.seat s)),
      begins_at of_subblocks x c.args.space.now c.stage_subblock.new.region i.seat s t i.span c.args.out.now.change.directory _ c.args.out.now c.stage_subblock.new.out (ap span_of c.requires.tile.span_is) (ap (λ (p : EditPlan). p.change.directory) staged.others) c.requires.starts
          (rw c.requires.tile.span_is at staged.used) (rw c.requires.tile.span_is at staged.end) staged.others (is_new x c.args.space.now s i.span t c.requires.tile c.requires.walked staged.item c.requires.fits) staged.staged
          (place_at of_subblocks x i.seat t i.sizes (use_span (space_of c.args.space.now) (span_of i.span)) c.args.out.now.change.directory sizes c.requires.place),
    )

pub stage_act-requires-clause-marks : goal.stage_act-requires-clause-marks
stage_act-requires-clause-marks c = λ r. rw (c.act-act.ensures, marks_at of_subblocks c.args.incoming.now.seat c.args.tile) (first_marks c.requires.no_marks (c.stage_subblock.ensures.marks r))

pub stage_act-requires-clause-room : goal.stage_act-requires-clause-room
stage_act-requires-clause-room c =
    let i = c.args.incoming.now in
    let s = subblock_of i.new.now in
    let sizes = sizes_at of_subblocks i.sizes i.seat s c.args.tile c.args.index.now.tiles.items (ap info_len c.requires.tile.info) c.requires.sizes in
    let long : c.args.tile.span.len ≡ i.span.len = ap (λ (z : CodeSpan). z.len) c.requires.tile.span_is in
    rw (ap (λ (p : EditPlan). p.change.directory) c.stage_subblock.ensures.others, c.act-act.ensures)
    (subst (λ n. HasRoomFor c.args.out.now.change.directory n (room c.stage_subblock.new.region)) sizes.middle_is (c.requires.room (room c.stage_subblock.new.region) (omega (arith, c.stage_subblock.ensures.left, long))))

pub stage_act-requires-clause-memory : goal.stage_act-requires-clause-memory
stage_act-requires-clause-memory c = c.stage_subblock.ensures.memory 11 65888 2 (memory_of 1 1 0 2 c.args.out.now c.requires.spare)

pub stage_act-requires-clause-writes_room : goal.stage_act-requires-clause-writes_room
stage_act-requires-clause-writes_room c = omega (arith, c.stage_subblock.ensures.writes.len, c.stage_subblock.ensures.writes.capacity, c.requires.spare.writes)

pub returns : goal.returns
returns c =
    let x = c.args.index.now in
    let m = c.args.space.now in
    let i = c.args.incoming.now in
    let s = subblock_of i.new.now in
    let t : Tile = c.args.tile in
    let o = edited (act_of (act_at i.seat s)) in
    let staged = c.stage_subblock.ensures in
    let d : DirectoryChange = c.args.out.now.change.directory in
    let sizes = sizes_at of_subblocks i.sizes i.seat s t x.tiles.items (ap info_len c.requires.tile.info) c.requires.sizes in
    let same : c.stage_subblock.new.out.change.directory ≡ d = ap (λ (p : EditPlan). p.change.directory) staged.others in
    let begins = begins_at of_subblocks x m c.stage_subblock.new.region i.seat s t i.span d _ c.args.out.now c.stage_subblock.new.out (ap span_of c.requires.tile.span_is) same c.requires.starts
    (rw c.requires.tile.span_is at staged.used) (rw c.requires.tile.span_is at staged.end) staged.others (is_new x m s i.span t c.requires.tile c.requires.walked staged.item c.requires.fits) staged.staged
    (place_at of_subblocks x i.seat t i.sizes (use_span (space_of m) (span_of i.span)) d sizes c.requires.place) in
    subst (λ (a : CodeAct Tile). Stages of_subblocks x m a o c.stage_act.new.region d c.stage_act.new.out) c.act-act.ensures (subst (λ (e : DirectoryChange). Stages of_subblocks x m c.act-act.result o c.stage_act.new.region e c.stage_act.new.out) same
    (c.stage_act.ensures.stages o (rw c.act-act.ensures begins)))
