use Rattle.std.proofs.Common.{◌≡◌, ◌+◌, ◌-◌, ◌≤◌, ◌<◌, length, map}
use Rattle.czi_doc.specs.View.{dim_of}
use Rattle.czi_doc.specs.Reading.{with_front, items_at}
use Rattle.czi_doc.proofs.reading.read_dims.Given as goal

-- what was read, and what the rest reads as, are the whole
abbrev pub invariant-loop-i : goal.invariant-loop-i
invariant-loop-i l = record {
  whole : with_front (map dim_of l.dims.items) (items_at (40 - l.i) l.rest) ≡ items_at 40 l.text;
  inside : length l.rest ≤ length l.text;
  comma : 0 < l.i → length l.rest + 1 ≤ length l.text;
}
