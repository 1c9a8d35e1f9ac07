use Rattle.std.proofs.Common.{ℕ, ◌+◌, ◌-◌, ◌<◌, ◌≤◌, ◌^◌}
use Rattle.std.specs.List.{Contains}
use Rattle.czi_format.specs.Painting.{point}
use Rattle.czi_tiles.specs.Cells.{AddsTo, cell_at, cell_of, sheet_of}
use Rattle.czi_tiles.proofs.places.push_keys.Given as goal

abbrev pub invariant-loop-at : goal.invariant-loop-at
invariant-loop-at l = record {
  adds : AddsTo l.cells l.initial.places.items l.places.items;
  there : (k i j place : ℕ) → l.fn.keys.first ≤ k → sheet_of l.level k < l.at → k ≤ l.fn.keys.last → i < l.query.w → j < l.query.h
      → cell_of l.level (point l.query.y l.query.layer j) < 2 ^ 21 → cell_of l.level (point l.query.x l.query.layer i) < 2 ^ 21
      → Contains l.cells (cell_at (sheet_of l.level k) (cell_of l.level (point l.query.y l.query.layer j)) (cell_of l.level (point l.query.x l.query.layer i)) place) → Contains l.places.items place;
}

abbrev pub decreases-loop-at : goal.decreases-loop-at
decreases-loop-at l = l.last + 1 - l.at
