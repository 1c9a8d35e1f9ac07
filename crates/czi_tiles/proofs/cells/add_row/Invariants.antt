use Rattle.std.proofs.Common.{ℕ, ◌<◌, ◌≤◌}
use Rattle.std.specs.List.{Contains}
use Rattle.czi_tiles.specs.Cells.{Keeps, KeepsBound, cell_at}
use Rattle.czi_tiles.proofs.cells.add_row.Given as goal

abbrev pub invariant-loop-column : goal.invariant-loop-column
invariant-loop-column l = record {
  keeps : Keeps l.initial.cells.items l.cells.items;
  bound : KeepsBound l.place l.initial.cells.items l.cells.items;
  there : (column : ℕ) → l.fn.columns.first ≤ column → column < l.column → Contains l.cells.items (cell_at l.sheet l.row column l.place);
}
