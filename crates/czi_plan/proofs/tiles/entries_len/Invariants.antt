use Rattle.std.proofs.Common.{◌≡◌, ◌*◌, ◌≤◌, map, sum, take}
use Rattle.czi_format.specs.Entry.{entry_len}
use Rattle.czi_plan.specs.Directory.{entries_of}
use Rattle.czi_plan.proofs.tiles.entries_len.Given as goal

abbrev pub invariant-loop-tile : goal.invariant-loop-tile
invariant-loop-tile l = record {
  len : l.len ≡ sum (map entry_len (entries_of (take l.tile-index l.tiles)));
  bound : l.len ≤ 832 * l.tile-index;
}
