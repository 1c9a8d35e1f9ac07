use Rattle.std.proofs.Common.{◌≡◌, List, filter, map, not, true, false, ap, sym, ◌∙◌, subst, arith}
use Rattle.std.specs.List.{AllByRecursion}
use Rattle.std.proofs.lemmas.List.{take_all}
use Rattle.czi_num.specs.Span.{span_of}
use Rattle.czi_num.specs.declared.span.Span.{Span as CodeSpan}
use Rattle.czi_plan.specs.Marks.{IsMarked, deleted_mark, is_new}
use Rattle.czi_plan.proofs.Entries.{drop_here}
use Rattle.czi_plan.proofs.Marking.{adds_as, adds_both, new_next, news_kept, news_left, old_next}
use Rattle.czi_plan.proofs.marks.mark_new.Goals as goal
use Rattle.czi_plan.proofs.marks.mark_new.Goals.{then-not-is_among, else-not-is_among}

pub loop-extent-preserved : goal.loop-extent-preserved
loop-extent-preserved c =
    let xs : List CodeSpan = c.args.after.now in
    let before = map span_of c.args.before.now in
    let i = c.loop-extent.extent-index in
    let s : CodeSpan = c.extent-item.result in
    let long = (subst (λ (l : List CodeSpan). AllByRecursion IsMarked (map span_of l)) (drop_here xs i s c.loop-extent-test.true c.extent-item.is) c.loop-extent.invariant.long).1 in
    elim c.if-not-is_among.branch [
      | then-not-is_among w ↦ let new : is_new before (span_of s) ≡ true = ap not (sym c.is_among.ensures ∙ w.if-not-is_among.true) in
          rw w.marks-is (record {
            marks = λ r. adds_as (new_next before xs i s c.loop-extent-test.true c.extent-item.is new) (adds_both (c.loop-extent.invariant.marks r) (w.mark_deleted.ensures.marks r));
            long = long;
            len = omega (arith, news_left before xs i s c.loop-extent-test.true c.extent-item.is new, c.loop-extent.invariant.len, w.mark_deleted.ensures.len);
            capacity = omega (arith, c.loop-extent.invariant.capacity, w.mark_deleted.ensures.capacity);
          })
      | else-not-is_among w ↦ let old : is_new before (span_of s) ≡ false = ap not (sym c.is_among.ensures ∙ w.if-not-is_among.false) in
          rw w.marks-is (record {
            marks = λ r. adds_as (ap (map deleted_mark) (old_next before xs i s c.loop-extent-test.true c.extent-item.is old)) (c.loop-extent.invariant.marks r);
            long = long;
            len = omega (arith, news_kept before xs i s c.loop-extent-test.true c.extent-item.is old, c.loop-extent.invariant.len);
            capacity = c.loop-extent.invariant.capacity;
          })
    ]

pub returns-clause-marks : goal.returns-clause-marks
returns-clause-marks c = λ r. adds_as (ap (λ (l : List CodeSpan). map deleted_mark (filter (is_new (map span_of c.args.before.now)) (map span_of l))) (take_all c.loop-extent.extent-index c.args.after.now (omega (arith, c.loop-extent-test.false)))) (c.loop-extent.invariant.marks r)
