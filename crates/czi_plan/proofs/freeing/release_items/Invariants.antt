use Rattle.std.proofs.Common.{◌≡◌, ◌+◌, ◌≤◌, ◌++◌, map, take, vec_len, vec_capacity}
use Rattle.czi_num.specs.Span.{span_of}
use Rattle.czi_plan.specs.Plan.{dead_of, usable_of}
use Rattle.czi_plan.proofs.freeing.release_items.Given as goal

abbrev pub invariant-loop-item : goal.invariant-loop-item
invariant-loop-item g l = record {
  freed : map span_of l.freed.items ≡ map span_of l.initial.freed.items ++ usable_of (map g.I.Listed.place (take l.item-index l.items));
  dead : map span_of l.dead.items ≡ map span_of l.initial.dead.items ++ dead_of (map g.I.Listed.place (take l.item-index l.items));
  freed_len : vec_len l.freed ≤ vec_len l.initial.freed + l.item-index;
  dead_len : vec_len l.dead ≤ vec_len l.initial.dead + l.item-index;
  freed_capacity : vec_capacity l.initial.freed ≤ vec_capacity l.freed;
  dead_capacity : vec_capacity l.initial.dead ≤ vec_capacity l.dead;
}
