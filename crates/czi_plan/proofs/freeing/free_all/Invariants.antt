use Rattle.std.proofs.Common.{◌≡◌, ◌+◌, ◌*◌, ◌≤◌, map, drop}
use Rattle.czi_format.specs.Space.{with_all_freed}
use Rattle.czi_num.specs.Span.{span_of}
use Rattle.czi_plan.specs.Geometry.{AreFreed}
use Rattle.czi_plan.proofs.freeing.free_all.Given as goal

abbrev pub invariant-loop-span : goal.invariant-loop-span
invariant-loop-span l = record {
  left : AreFreed l.initial.space.length (map span_of (drop l.span-index l.freed)) l.space.extents;
  extents : with_all_freed (map span_of (drop l.span-index l.freed)) l.space.extents ≡ with_all_freed (map span_of l.freed) l.initial.space.extents;
  held : l.space.held ≡ l.initial.space.held;
  size : l.space.length ≡ l.initial.space.length;
  spare : l.initial.space.spare ≤ l.space.spare + 2 * l.span-index;
}
