use Rattle.std.proofs.Common.{map, length, refl, ap, sym, subst, arith}
use Rattle.czi_image.specs.Summary.{entries_len}
use Rattle.czi_image.specs.View.{tile_of}
use Rattle.czi_plan.specs.Need.{region_by}
use Rattle.czi_plan.specs.Undoing.{HasNoUndo, Undoes}
use Rattle.czi_region.specs.declared.block.Region.{Region}
use Rattle.czi_plan.proofs.Needing.{undos_have_room}
use Rattle.czi_engine.proofs.reserve.UndoMemory.plan.Goals as goal

pub plan_inverse-requires-clause-room : goal.plan_inverse-requires-clause-room
plan_inverse-requires-clause-room c =
    let e = entries_len (map tile_of c.args.index.now.tiles.items) in
    let a = length c.args.index.now.attachments.items in
    omega (arith, c.requires.room, undos_have_room c.requires.fits.part e e a a 1 (omega arith) (omega arith), ap (λ ps. region_by ps e a) c.requires.fits.only)

pub returns-in-Ok-clause-undoes : goal.returns-in-Ok-clause-undoes
returns-in-Ok-clause-undoes c = subst (λ (r : Region). Undoes c.args.index.now c.args.space.now c.args.inverse.now r c.plan_inverse.new.out) (sym c.swap.ensures.y_after) c.in-Ok.ensures.undoes

pub returns-in-Err-Full-clause-refusal : goal.returns-in-Err-Full-clause-refusal
returns-in-Err-Full-clause-refusal c = record { need = c.in-Err-Full.need; length = c.in-Err-Full.length; is = refl; none = subst (HasNoUndo c.args.index.now c.args.space.now c.args.inverse.now) c.in-Err-Full.field-0-is c.in-Err-Full.ensures.full }
