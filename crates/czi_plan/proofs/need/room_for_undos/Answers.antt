use Rattle.czi_plan.proofs.Needing.{undo_room_rises, undos_have_room}
use Rattle.czi_plan.proofs.need.room_for_undos.Goals as goal

pub returns-clause-suffices : goal.returns-clause-suffices
returns-clause-suffices c = undos_have_room

pub returns-clause-rises : goal.returns-clause-rises
returns-clause-rises c = undo_room_rises
