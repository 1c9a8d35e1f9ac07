use Rattle.std.proofs.Common.{◌≡◌, ◌≤◌, take, count_by}
use Rattle.czi_plan.specs.Search.{has_axis}
use Rattle.czi_plan.proofs.search.times.Given as goal

abbrev pub invariant-loop-other : goal.invariant-loop-other
invariant-loop-other l = record {
  count : l.count ≡ count_by (has_axis l.dim) (take l.other-index l.dims);
  bound : l.count ≤ l.other-index;
}
