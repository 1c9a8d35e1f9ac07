use Rattle.std.proofs.Common.{◌≡◌, ◌≤◌, ◌*◌, ◌-◌, ◌++◌, map, length}
use Rattle.czi_doc.specs.View.{dim_of}
use Rattle.czi_format.specs.Entry.{dims}
use Rattle.czi_dv.proofs.reading.read_dims.Given as goal

-- what was read, and what the rest reads as, are the whole
abbrev pub invariant-loop-i : goal.invariant-loop-i
invariant-loop-i l = record {
  left : 20 * (l.count - l.i) ≤ length l.rest;
  count : length l.list.items ≡ l.i;
  whole : map dim_of l.list.items ++ dims (l.count - l.i) l.rest ≡ dims l.count l.bytes;
}
