use Rattle.std.proofs.Common.{refl, sym, arith, inl, inr}
use Rattle.czi_num.specs.Span.{span_of}
use Rattle.czi_space.proofs.Taken.{without_extents}
use Rattle.czi_plan.proofs.Order.{untouched}
use Rattle.czi_plan.proofs.freeing.take_used.Goals as goal

pub take-requires-clause-inside : goal.take-requires-clause-inside
take-requires-clause-inside c = elim c.requires.lies [ inl i ↦ i | inr p ↦ absurd (omega (arith, p, c.if-span-length.true, c.length.ensures)) ]

pub returns-then-span-length-clause-rise : goal.returns-then-span-length-clause-rise
returns-then-span-length-clause-rise c = without_extents 0 c.args.space.now.length (span_of c.args.span.now) c.args.space.now.extents c.requires.whole.at c.requires.whole.len c.requires.rise

pub returns-else-span-length-clause-map : goal.returns-else-span-length-clause-map
returns-else-span-length-clause-map c =
    record { extents = sym (untouched 0 c.args.space.now.length (span_of c.args.span.now) c.args.space.now.extents c.requires.rise (omega (arith, c.if-span-length.false, c.length.ensures))); held = refl; length = refl }

pub returns-else-span-length-clause-rise : goal.returns-else-span-length-clause-rise
returns-else-span-length-clause-rise c = without_extents 0 c.args.space.now.length (span_of c.args.span.now) c.args.space.now.extents c.requires.whole.at c.requires.whole.len c.requires.rise
