use Rattle.std.proofs.Common.{ℕ, ◌<◌, ◌≤◌}
use Rattle.std.specs.List.{Contains}
use Rattle.czi_tiles.specs.Cells.{Keeps, KeepsBound, cell_at}
use Rattle.czi_tiles.proofs.cells.add_cells.Given as goal

abbrev pub invariant-loop-row : goal.invariant-loop-row
invariant-loop-row l = record {
  keeps : Keeps l.initial.cells.items l.cells.items;
  bound : KeepsBound l.place l.initial.cells.items l.cells.items;
  there : (row column : ℕ) → l.fn.rows.first ≤ row → row < l.row → l.fn.columns.first ≤ column → column ≤ l.fn.columns.last → Contains l.cells.items (cell_at l.sheet row column l.place);
}
