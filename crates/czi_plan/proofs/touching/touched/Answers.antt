use Rattle.std.proofs.Common.{◌++◌, map, filter, ap, ◌∙◌, arith, length}
use Rattle.czi_num.specs.Span.{span_of}
use Rattle.czi_plan.specs.Geometry.{is_touched}
use Rattle.czi_plan.proofs.touching.touched.Goals as goal

pub push_touched-requires-clause-rise : goal.push_touched-requires-clause-rise
push_touched-requires-clause-rise c = rw (c.clear.ensures.map.length, c.clear.ensures.map.extents, c.length.ensures, c.extents.ensures.extents) c.extents.ensures.rising

pub push_touched-requires-clause-spare : goal.push_touched-requires-clause-spare
push_touched-requires-clause-spare c = rw c.extents.ensures.extents (omega (arith, c.requires, c.clear.ensures.spare))

pub returns-clause-map : goal.returns-clause-map
returns-clause-map c = record {
  extents = c.push_touched.ensures.map.extents ∙ (λ i. c.clear.ensures.map.extents i ++ filter (is_touched (map span_of c.args.used.now) (map span_of c.args.freed.now)) (c.extents.ensures.extents i));
  held = c.push_touched.ensures.map.held ∙ c.clear.ensures.map.held;
  length = c.push_touched.ensures.map.length ∙ (c.clear.ensures.map.length ∙ c.length.ensures);
}

pub returns-clause-spare : goal.returns-clause-spare
returns-clause-spare c = omega (arith, c.push_touched.ensures.spare, c.clear.ensures.spare, ap (λ l. length (filter (is_touched (map span_of c.args.used.now) (map span_of c.args.freed.now)) l)) c.extents.ensures.extents)
