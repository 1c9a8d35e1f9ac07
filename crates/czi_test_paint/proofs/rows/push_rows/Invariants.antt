use Rattle.std.proofs.Common.{◌≡◌, length}
use Rattle.czi_rig.specs.Quiet.{Untouched}
use Rattle.czi_doc.specs.QueryView.{query_of}
use Rattle.czi_paint.specs.Painted.{Paints, row_len}
use Rattle.czi_test_paint.proofs.rows.push_rows.Given as goal

-- so many rows were appended, and the one behind them is next
abbrev pub invariant-loop : goal.invariant-loop
invariant-loop g l = record {
  paints : Paints (query_of l.query) l.index.tiles.items l.counter l.painter;
  width : length l.row.items ≡ row_len l.painter;
  untouched : Untouched g.R.Rig l.initial.rig l.rig;
}
