use Rattle.std.proofs.Common.{refl}
use Rattle.czi_editor.specs.Answering.{MayPaint}
use Rattle.czi_editor.proofs.Going.{next_goes, painter_inside, painting_there, piece_next}
use Rattle.czi_editor.proofs.editor.ImageEditorEditor.next_piece.Goals as goal

pub next_row-requires-clause-in_file : goal.next_row-requires-clause-in_file
next_row-requires-clause-in_file g c =
    let e = c.args.self.now in
    painter_inside e.engine (g.R.Rig.state c.args.rig.now) c.in-Some.painting c.requires.ready.engine (painting_there (MayPaint e.engine.state.index.tiles.items) e.painting c.in-Some.painting c.in-Some.is c.requires.ready.painting)

pub returns-in-Some-clause-next : goal.returns-in-Some-clause-next
returns-in-Some-clause-next g c =
    let e = c.args.self.now in
    piece_next e.engine (g.R.Rig.state c.args.rig.now) c.in-Some.painting c.next_row.new.self e.reply.items e.painting c.in-Some.is c.next_row.result c.next_row.ensures.kept c.next_row.ensures.row c.next_row.ensures.last

pub returns-in-Some-clause-ready : goal.returns-in-Some-clause-ready
returns-in-Some-clause-ready g c = next_goes g.R.Rig c.args.rig.now c.next_row.new.rig c.args.self.now _ c.in-Some.painting c.next_row.new.self c.next_row.result c.requires.ready c.next_row.ensures.untouched refl refl c.in-Some.is refl c.next_row.ensures.kept
