use Rattle.std.proofs.Common.{◌≡◌, ◌≤◌, ◌+◌, map, drop, take, filter, length, vec_len, vec_capacity}
use Rattle.std.specs.List.{AllByRecursion}
use Rattle.czi_num.specs.Span.{span_of}
use Rattle.czi_region.specs.declared.block.Region.{Region}
use Rattle.czi_plan.specs.Marks.{AddsMarks, IsMarked, deleted_mark, is_new}
use Rattle.czi_plan.proofs.marks.mark_new.Given as goal

abbrev pub invariant-loop-extent : goal.invariant-loop-extent
invariant-loop-extent l = record {
  marks : (r : Region) → AddsMarks r l.initial.marks.items l.marks.items (map deleted_mark (filter (is_new (map span_of l.before)) (map span_of (take l.extent-index l.after))));
  long : AllByRecursion IsMarked (map span_of (drop l.extent-index l.after));
  len : vec_len l.marks + length (filter (is_new (map span_of l.before)) (map span_of (drop l.extent-index l.after))) ≡ vec_len l.initial.marks + length (filter (is_new (map span_of l.before)) (map span_of l.after));
  capacity : vec_capacity l.initial.marks ≤ vec_capacity l.marks;
}
