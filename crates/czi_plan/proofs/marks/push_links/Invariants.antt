use Rattle.std.proofs.Common.{◌≡◌, ◌++◌, ◌≤◌, drop, length}
use Rattle.std.specs.Prelude.{sum_by}
use Rattle.czi_links.specs.Record.{AreRising, Bytes, next_place}
use Rattle.czi_plan.specs.Marks.{AreSized, marks_of}
use Rattle.czi_plan.proofs.marks.push_links.Given as goal

abbrev pub invariant-loop-span : goal.invariant-loop-span
invariant-loop-span l = record {
  links : l.links.links ++ marks_of l.region (drop l.span-index l.marks) ≡ marks_of l.region l.marks;
  spare : length (drop l.span-index l.marks) ≤ l.links.spare_links;
  room : sum_by (λ (b : Bytes). length b.bytes) (marks_of l.region (drop l.span-index l.marks)) ≤ l.links.spare_bytes;
  rise : AreRising (next_place 84 l.links.links) (marks_of l.region (drop l.span-index l.marks));
  sized : AreSized l.region (drop l.span-index l.marks);
}
