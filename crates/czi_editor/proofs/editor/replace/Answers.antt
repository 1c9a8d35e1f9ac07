use Rattle.std.proofs.Common.{sym}
use Rattle.czi_doc.specs.View.{info_of}
use Rattle.czi_machine.specs.Edit.{replace}
use Rattle.czi_editor.specs.Replies.{edits}
use Rattle.czi_editor.proofs.Performing.{performed, unstarted}
use Rattle.czi_editor.proofs.editor.replace.Goals as goal

pub returns-in_err-take_room : goal.returns-in_err-take_room
returns-in_err-take_room g c = unstarted g.met.R.Rig.only_now c.from_residual.ensures.1 c.in_err-take_room.ensures.stopped

pub returns : goal.returns
returns g c =
    performed (replace (record { info = info_of c.args.info.now; meta = c.as_slice.result.now; pixels = c.as_slice-2.result.now; tail = c.as_slice-3.result.now }))
    (λ k. edits (replace (record { info = info_of c.args.info.now; meta = sym c.as_slice.ensures k; pixels = sym c.as_slice-2.ensures k; tail = sym c.as_slice-3.ensures k })))
    c.requires.ready c.replace-answer.ensures c.in_ok-take_room.ensures.kept c.push_answer.ensures
