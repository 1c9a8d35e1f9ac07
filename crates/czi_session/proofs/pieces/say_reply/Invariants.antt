use Rattle.czi_session.proofs.PieceWise.{SayingOn}
use Rattle.czi_session.proofs.pieces.say_reply.Given as goal

abbrev pub invariant-loop-editor : goal.invariant-loop-editor
invariant-loop-editor g l = SayingOn g.R.Rig g.E.Editor.model g.E.Editor.stands g.E.Editor.ready g.E.Editor.says g.E.Editor.owes g.E.Editor.pieces_left l.initial.editor l.editor l.initial.rig l.rig

abbrev pub decreases-loop-editor : goal.decreases-loop-editor
decreases-loop-editor g l = g.E.Editor.pieces_left l.editor
