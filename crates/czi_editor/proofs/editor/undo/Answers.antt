use Rattle.std.proofs.Common.{refl}
use Rattle.czi_machine.specs.Machine.{after_undo}
use Rattle.czi_engine.specs.Devices.{undo_fault}
use Rattle.czi_editor.proofs.Performing.{performed_by, unstarted}
use Rattle.czi_editor.proofs.editor.undo.Goals as goal

pub returns-in_err-take_room : goal.returns-in_err-take_room
returns-in_err-take_room g c = unstarted g.met.R.Rig.only_now c.from_residual.ensures.1 c.in_err-take_room.ensures.stopped

pub returns : goal.returns
returns g c = performed_by undo_fault after_undo refl c.requires.ready c.undo-answer.ensures c.in_ok-take_room.ensures.kept c.push_undone.ensures
