use Rattle.std.proofs.Common.{subst}
use Rattle.czi_image.specs.declared.change.Act.TheVariants.{Out}
use Rattle.czi_plan.specs.Bringing.{AreSizesOf, act_at}
use Rattle.czi_plan.specs.Kind.{of_subblocks}
use Rattle.czi_plan.specs.declared.bringing.Seat.TheVariants.{Before, Over}
use Rattle.czi_plan.proofs.Brought.{sizes_out}
use Rattle.czi_plan.proofs.Inverses.{sizes_brought, sizes_dropped}
use Rattle.czi_plan.proofs.undoing.tile_sizes.Goals as goal

pub returns-in-DropSub-clause-sizes : goal.returns-in-DropSub-clause-sizes
returns-in-DropSub-clause-sizes c =
    let s = c.sizes_after.result in
    let i = c.in-DropSub.place in
    let of : AreSizesOf of_subblocks s (Out i) c.args.index.now.tiles.items = subst (AreSizesOf of_subblocks s (Out i)) c.deref.ensures.value (sizes_out s c.deref.result.now i c.sizes_after.ensures.sizes) in
    rw c.in-DropSub.is (λ a act. sizes_dropped s c.args.index.now.tiles.items i a of act)

pub returns-in-PutSub-clause-sizes : goal.returns-in-PutSub-clause-sizes
returns-in-PutSub-clause-sizes c =
    let s = c.sizes.result in
    let seat = Over c.in-PutSub.place in
    rw c.in-PutSub.is (λ a act. sizes_brought s c.args.index.now.tiles.items seat c.in-PutSub.info _ c.entry_len.result a
    (λ b e. subst (AreSizesOf of_subblocks s (act_at seat b)) c.deref-in-PutSub.ensures.value (c.sizes.ensures.sizes b e)) c.entry_len.ensures act)

pub returns-in-InsertSub-clause-sizes : goal.returns-in-InsertSub-clause-sizes
returns-in-InsertSub-clause-sizes c =
    let s = c.sizes-in-InsertSub.result in
    let seat = Before c.in-InsertSub.place in
    rw c.in-InsertSub.is (λ a act. sizes_brought s c.args.index.now.tiles.items seat c.in-InsertSub.info _ c.entry_len-in-InsertSub.result a
    (λ b e. subst (AreSizesOf of_subblocks s (act_at seat b)) c.deref-in-InsertSub.ensures.value (c.sizes-in-InsertSub.ensures.sizes b e)) c.entry_len-in-InsertSub.ensures act)
