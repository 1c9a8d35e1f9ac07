use Rattle.std.proofs.Common.{refl}
use Rattle.czi_plan.proofs.undoing.tile_act.Goals as goal

pub returns-in-PutSub : goal.returns-in-PutSub
returns-in-PutSub c = rw c.in-PutSub.is (c.tile_back.result, refl, c.tile_back.ensures)

pub returns-in-InsertSub : goal.returns-in-InsertSub
returns-in-InsertSub c = rw c.in-InsertSub.is (c.tile_back-in-InsertSub.result, refl, c.tile_back-in-InsertSub.ensures)
