use Rattle.std.proofs.Common.{◌+◌, ◌≤◌, ◌^◌, map, arith, sym}
use Rattle.czi_num.specs.Span.{span_of}
use Rattle.czi_plan.proofs.Parts.{placed_ends}
use Rattle.czi_plan.proofs.placing.place.Goals as goal

pub invariant_of-result : goal.invariant_of-result
invariant_of-result c =
    let ends : c.in-At.at + c.args.need ≤ 2 ^ 62 = placed_ends c.args.space.now.length c.args.need c.in-At.at c.args.space.now.held (map span_of c.args.used.now) c.args.space.now.extents c.requires.rise c.requires.small (sym c.in-At.ensures) in
    record { within = omega (arith, ends) }

pub returns-in-At-clause-ends : goal.returns-in-At-clause-ends
returns-in-At-clause-ends c = placed_ends c.args.space.now.length c.args.need c.in-At.at c.args.space.now.held (map span_of c.args.used.now) c.args.space.now.extents c.requires.rise c.requires.small (sym c.in-At.ensures)
