use Rattle.std.proofs.Common.{◌≡◌, ◌+◌, ◌++◌, length, map, sum, take, drop, flat_map}
use Rattle.czi_format.specs.Entry.{IsEntry, entry_len, entry_bytes}
use Rattle.std.specs.List.{AllByRecursion}
use Rattle.czi_plan.specs.Directory.{entries_of}
use Rattle.czi_plan.proofs.directory.write_entries.Given as goal

abbrev pub invariant-loop-tile : goal.invariant-loop-tile
invariant-loop-tile l = record {
  end : l.end + sum (map entry_len (entries_of (drop l.tile-index l.tiles))) ≡ l.at + sum (map entry_len (entries_of l.tiles));
  seam : l.at + length (flat_map entry_bytes (entries_of (take l.tile-index l.tiles))) ≡ l.end;
  entries : AllByRecursion IsEntry (entries_of (take l.tile-index l.tiles));
  written : l.out ≡ take l.at l.initial.out ++ (flat_map entry_bytes (entries_of (take l.tile-index l.tiles)) ++ drop l.end l.initial.out);
}
