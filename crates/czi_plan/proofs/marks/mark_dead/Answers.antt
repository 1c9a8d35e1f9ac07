use Rattle.std.proofs.Common.{List, ap, subst, arith, map, length}
use Rattle.std.specs.List.{AllByRecursion}
use Rattle.std.proofs.lemmas.List.{take_all}
use Rattle.czi_num.specs.Span.{span_of}
use Rattle.czi_num.specs.declared.span.Span.{Span as CodeSpan}
use Rattle.czi_plan.specs.Marks.{IsMarked, deleted_mark}
use Rattle.czi_plan.proofs.Entries.{drop_here}
use Rattle.czi_plan.proofs.Marking.{adds_as, adds_both, dead_next}
use Rattle.czi_plan.proofs.marks.mark_dead.Goals as goal

pub loop-span-preserved : goal.loop-span-preserved
loop-span-preserved c =
    let xs : List CodeSpan = c.args.dead.now in
    let here = drop_here xs c.loop-span.span-index c.span-item.result c.loop-span-test.true c.span-item.is in
    record {
      marks = λ r. adds_as (dead_next xs c.loop-span.span-index c.span-item.result c.loop-span-test.true c.span-item.is) (adds_both (c.loop-span.invariant.marks r) (c.mark_deleted.ensures.marks r));
      long = (subst (λ (l : List CodeSpan). AllByRecursion IsMarked (map span_of l)) here c.loop-span.invariant.long).1;
      room = omega (arith, ap (length {A = CodeSpan}) here, c.loop-span.invariant.room, c.mark_deleted.ensures.len, c.mark_deleted.ensures.capacity);
    }

pub returns : goal.returns
returns c = record { marks = λ r. adds_as (ap (λ (l : List CodeSpan). map deleted_mark (map span_of l)) (take_all c.loop-span.span-index c.args.dead.now (omega (arith, c.loop-span-test.false)))) (c.loop-span.invariant.marks r) }
