use Rattle.std.proofs.Common.{ℕ, ◌+◌, ◌-◌, ◌<◌, ◌≤◌}
use Rattle.std.specs.List.{Contains}
use Rattle.czi_tiles.specs.declared.cell.Cell.{Cell}
use Rattle.czi_tiles.specs.Cells.{AddsTo, number_of}
use Rattle.czi_tiles.proofs.places.push_all.Given as goal

abbrev pub invariant-loop-row : goal.invariant-loop-row
invariant-loop-row l = record {
  adds : AddsTo l.cells l.initial.places.items l.places.items;
  there : (row : ℕ) (c : Cell) → l.rows.first ≤ row → row < l.row → row ≤ l.rows.last → Contains l.cells c → number_of l.sheet row l.columns.first ≤ c.number → c.number ≤ number_of l.sheet row l.columns.last → Contains l.places.items c.place;
}

abbrev pub decreases-loop-row : goal.decreases-loop-row
decreases-loop-row l = l.rows.last + 1 - l.row
