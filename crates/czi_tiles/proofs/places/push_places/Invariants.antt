use Rattle.std.proofs.Common.{◌≡◌, ℕ, ◌<◌, ◌≤◌, get_or}
use Rattle.std.specs.List.{Contains}
use Rattle.czi_tiles.specs.declared.cell.Cell.{Cell}
use Rattle.czi_tiles.specs.Cells.{AddsTo}
use Rattle.czi_tiles.proofs.places.push_places.Given as goal

abbrev pub invariant-loop-i : goal.invariant-loop-i
invariant-loop-i l = record {
  adds : AddsTo l.cells l.initial.places.items l.places.items;
  there : (k : ℕ) (c : Cell) → l.from ≤ k → k < l.i → c ≡ get_or l.cells k c → Contains l.places.items c.place;
}
