use Rattle.std.proofs.Common.{refl}
use Rattle.czi_doc.specs.View.{dims_of}
use Rattle.czi_machine.specs.Edit.{remove}
use Rattle.czi_editor.proofs.Performing.{performed, unstarted}
use Rattle.czi_editor.proofs.editor.remove.Goals as goal

pub returns-in_err-take_room : goal.returns-in_err-take_room
returns-in_err-take_room g c = unstarted g.met.R.Rig.only_now c.from_residual.ensures.1 c.in_err-take_room.ensures.stopped

pub returns : goal.returns
returns g c = performed (remove (dims_of c.args.dims.now)) refl c.requires.ready c.remove-answer.ensures c.in_ok-take_room.ensures.kept c.push_answer.ensures
