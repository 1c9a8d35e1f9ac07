use Rattle.std.proofs.Common.{◌≡◌, ◌++◌, ◌*◌, drop}
use Rattle.czi_format.proofs.Pixels.{pixels}
use Rattle.czi_report.proofs.Turning.{turned}
use Rattle.czi_report.proofs.pnm.turn_round.Given as goal

abbrev pub invariant-loop-i : goal.invariant-loop-i
invariant-loop-i g l = l.row ≡ pixels (turned g.row.SIZE l.initial.row) 0 l.i ++ drop (l.i * g.row.SIZE) l.initial.row
