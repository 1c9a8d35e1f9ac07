use Rattle.std.proofs.Common.{◌≤◌, ◌+◌, map, drop, take, length, vec_len, vec_capacity}
use Rattle.std.specs.List.{AllByRecursion}
use Rattle.czi_num.specs.Span.{span_of}
use Rattle.czi_region.specs.declared.block.Region.{Region}
use Rattle.czi_plan.specs.Marks.{AddsMarks, IsMarked, deleted_mark}
use Rattle.czi_plan.proofs.marks.mark_dead.Given as goal

abbrev pub invariant-loop-span : goal.invariant-loop-span
invariant-loop-span l = record {
  marks : (r : Region) → AddsMarks r l.initial.marks.items l.marks.items (map deleted_mark (map span_of (take l.span-index l.dead)));
  long : AllByRecursion IsMarked (map span_of (drop l.span-index l.dead));
  room : vec_len l.marks + length (drop l.span-index l.dead) ≤ vec_capacity l.marks;
}
