use Rattle.std.proofs.Common.{sym}
use Rattle.czi_machine.specs.Edit.{set_meta}
use Rattle.czi_editor.specs.Replies.{edits}
use Rattle.czi_editor.proofs.Performing.{performed, unstarted}
use Rattle.czi_editor.proofs.editor.set_meta.Goals as goal

pub returns-in_err-take_room : goal.returns-in_err-take_room
returns-in_err-take_room g c = unstarted g.met.R.Rig.only_now c.from_residual.ensures.1 c.in_err-take_room.ensures.stopped

pub returns : goal.returns
returns g c =
    performed (set_meta (record { xml = c.as_slice.result.now; tail = c.as_slice-2.result.now })) (λ k. edits (set_meta (record { xml = sym c.as_slice.ensures k; tail = sym c.as_slice-2.ensures k })))
    c.requires.ready c.set_meta-answer.ensures c.in_ok-take_room.ensures.kept c.push_answer.ensures
