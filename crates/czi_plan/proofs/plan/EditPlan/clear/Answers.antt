use Rattle.std.proofs.Common.{arith, ap}
use Rattle.czi_links.specs.WriteSet.{WriteSet}
use Rattle.czi_plan.proofs.plan.EditPlan.clear.Goals as goal

pub returns-clause-spare : goal.returns-clause-spare
returns-clause-spare c = λ n h. record {
  writes = omega (arith, h.writes, c.clear.ensures.len, c.clear.ensures.capacity);
  links = omega (arith, h.links, ap (λ (s : WriteSet). s.spare_links) c.clear-2.ensures);
  link_bytes = omega (arith, h.link_bytes, ap (λ (s : WriteSet). s.spare_bytes) c.clear-2.ensures);
  used = omega (arith, h.used, c.clear-3.ensures.len, c.clear-3.ensures.capacity);
  freed = omega (arith, h.freed, c.clear-4.ensures.len, c.clear-4.ensures.capacity);
  held = omega (arith, h.held, c.clear-5.ensures.len, c.clear-5.ensures.capacity);
  tiles = omega (arith, h.tiles, c.clear_change.ensures.tiles.0, c.clear_change.ensures.tiles.1);
  attachments = omega (arith, h.attachments, c.clear_change.ensures.attachments.0, c.clear_change.ensures.attachments.1);
  dimensions = h.dimensions;
  marks = omega (arith, h.marks, c.clear-6.ensures.len, c.clear-6.ensures.capacity);
  dead = omega (arith, h.dead, c.clear-7.ensures.len, c.clear-7.ensures.capacity);
  touched = h.touched;
}
