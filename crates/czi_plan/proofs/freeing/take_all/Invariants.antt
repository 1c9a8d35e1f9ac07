use Rattle.std.proofs.Common.{◌≡◌, ◌+◌, ◌*◌, ◌≤◌, map, drop}
use Rattle.czi_format.specs.Space.{without}
use Rattle.czi_num.specs.Span.{span_of}
use Rattle.czi_space.specs.State.{AreExtents}
use Rattle.czi_plan.specs.Geometry.{AreUsed}
use Rattle.czi_plan.proofs.freeing.take_all.Given as goal

abbrev pub invariant-loop-span : goal.invariant-loop-span
invariant-loop-span l = record {
  rise : AreExtents 0 l.initial.space.length l.space.extents;
  left : AreUsed l.initial.space.length (map span_of (drop l.span-index l.used)) l.space.extents;
  extents : without (map span_of (drop l.span-index l.used)) l.space.extents ≡ without (map span_of l.used) l.initial.space.extents;
  held : l.space.held ≡ l.initial.space.held;
  size : l.space.length ≡ l.initial.space.length;
  spare : l.initial.space.spare ≤ l.space.spare + 2 * l.span-index;
}
