use Rattle.std.proofs.Common.{sym}
use Rattle.czi_doc.specs.View.{att_of}
use Rattle.czi_machine.specs.Edit.{attach}
use Rattle.czi_editor.specs.Replies.{edits}
use Rattle.czi_editor.proofs.Performing.{performed, unstarted}
use Rattle.czi_editor.proofs.editor.attach.Goals as goal

pub returns-in_err-take_room : goal.returns-in_err-take_room
returns-in_err-take_room g c = unstarted g.met.R.Rig.only_now c.from_residual.ensures.1 c.in_err-take_room.ensures.stopped

pub returns : goal.returns
returns g c = performed (attach (record { info = att_of c.args.info.now; bytes = c.as_slice.result.now })) (λ k. edits (attach (record { info = att_of c.args.info.now; bytes = sym c.as_slice.ensures k }))) c.requires.ready c.attach-answer.ensures c.in_ok-take_room.ensures.kept c.push_answer.ensures
