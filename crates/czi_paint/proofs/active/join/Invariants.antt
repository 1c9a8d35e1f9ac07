use Rattle.std.proofs.Common.{◌≡◌, ◌+◌, ◌++◌, take}
use Rattle.std.specs.Vec.{vec_len, vec_capacity}
use Rattle.czi_paint.proofs.active.join.Given as goal

abbrev pub invariant-loop-at : goal.invariant-loop-at
invariant-loop-at l = record {
  items : l.active.items ≡ l.initial.active.items ++ take l.at-index l.more;
  len : vec_len l.active ≡ vec_len l.initial.active + l.at-index;
  capacity : vec_capacity l.active ≡ vec_capacity l.initial.active;
}
