use Rattle.std.proofs.Common.{sym, subst, map, ◌+◌, ◌≤◌}
use Rattle.czi_num.specs.Span.{span_of}
use Rattle.czi_num.specs.declared.span.Span.{Span as CodeSpan}
use Rattle.czi_space.specs.State.{SkipsTo}
use Rattle.czi_space.proofs.Sides.{skips, skips_all, passed_more}
use Rattle.czi_space.proofs.fitting.ending_past.Goals as goal

pub returns-then-span-place : goal.returns-then-span-place
returns-then-span-place c = subst (λ l. SkipsTo c.args.place (map span_of c.args.held.now) (map span_of l)) (sym c.split_at.ensures.back) (skips span_of c.args.place c.args.held.now c.loop-i.i c.loop-i.invariant)

pub loop-i-preserved : goal.loop-i-preserved
loop-i-preserved c = passed_more span_of c.args.place c.args.held.now c.loop-i.i c.index-held-i.result c.loop-i-test.true
    (subst (λ (z : CodeSpan). z.at + z.len ≤ c.args.place) c.index-held-i.is c.if-span-place.false) c.loop-i.invariant

pub returns : goal.returns
returns c = skips_all span_of c.args.place c.args.held.now c.loop-i.i c.loop-i-test.false c.loop-i.invariant
