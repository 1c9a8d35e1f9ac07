use Rattle.std.proofs.Common.{sym, subst, arith}
use Rattle.czi_plan.specs.Marks.{ArePut, marks_of}
use Rattle.czi_plan.proofs.Linking.{in_order, links_rise, sized_moved, sum_moved}
use Rattle.czi_plan.proofs.marks.put_marks.Goals as goal

pub push_links-requires-clause-sized : goal.push_links-requires-clause-sized
push_links-requires-clause-sized c = sized_moved c.args.region.now _ _ c.sort_items.ensures.items c.requires.sized

pub push_links-requires-clause-room : goal.push_links-requires-clause-room
push_links-requires-clause-room c = omega (arith, sum_moved c.args.region.now _ _ c.sort_items.ensures.items, c.requires.room)

pub push_links-requires-clause-rise : goal.push_links-requires-clause-rise
push_links-requires-clause-rise c = links_rise _ _ c.requires.can (in_order c.args.region.now _ _ c.requires.sized c.sort_items.ensures.items c.sort_items.ensures.spans)

pub returns : goal.returns
returns c = subst (ArePut (marks_of c.args.region.now c.args.marks.now)) (sym c.push_links.ensures) (in_order c.args.region.now _ _ c.requires.sized c.sort_items.ensures.items c.sort_items.ensures.spans)
