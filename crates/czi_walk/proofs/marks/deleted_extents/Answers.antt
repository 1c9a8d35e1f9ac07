use Rattle.std.proofs.Common.{◌≡◌, ◌∙◌, ap, sym, subst, map, filter, take, arith, List, IsTrue, ◌≤◌}
use Rattle.std.specs.List.{AllByRecursion, list_any}
use Rattle.std.specs.Prelude.{IsFalse}
use Rattle.czi_format.specs.Span.{end_of, is_aligned, meets}
use Rattle.std.proofs.lemmas.List.{take_all}
use Rattle.czi_num.specs.declared.span.Span.{Span as CodeSpan}
use Rattle.czi_num.specs.Span.{span_of}
use Rattle.czi_seg.specs.declared.header.SegHeader.{SegHeader}
use Rattle.czi_spans.specs.Apart.{AreApart}
use Rattle.czi_walk.specs.Marks.{is_free_item}
use Rattle.czi_walk.proofs.Marked.{free_is, free_apart, free_aligned, free_clear, free_inside}
use Rattle.czi_walk.proofs.marks.deleted_extents.Goals as goal

pub returns-clause-free : goal.returns-clause-free
returns-clause-free c = λ segments are.
    let all : take c.loop-item.item-index c.args.walk.now ≡ c.args.walk.now = take_all c.loop-item.item-index c.args.walk.now (omega arith) in
    ap (map span_of) (c.loop-item.invariant ∙ ap (λ (l : List (CodeSpan × SegHeader)). map (λ (i : CodeSpan × SegHeader). i.0) (filter (is_free_item (map span_of c.args.live.now)) l)) all)
    ∙ free_is c.args.live.now segments c.args.walk.now c.requires.row.extents are

pub returns-clause-apart : goal.returns-clause-apart
returns-clause-apart c =
    subst (λ (l : List CodeSpan). AreApart 0 (map span_of l))
    (sym (c.loop-item.invariant ∙ ap (λ (l : List (CodeSpan × SegHeader)). map (λ (i : CodeSpan × SegHeader). i.0) (filter (is_free_item (map span_of c.args.live.now)) l)) (take_all c.loop-item.item-index c.args.walk.now (omega arith))))
    (free_apart (is_free_item (map span_of c.args.live.now)) 0 c.args.walk.now c.requires.row.apart)

pub returns-clause-aligned : goal.returns-clause-aligned
returns-clause-aligned c =
    subst (λ (l : List CodeSpan). AllByRecursion (λ s. IsTrue (is_aligned s)) (map span_of l))
    (sym (c.loop-item.invariant ∙ ap (λ (l : List (CodeSpan × SegHeader)). map (λ (i : CodeSpan × SegHeader). i.0) (filter (is_free_item (map span_of c.args.live.now)) l)) (take_all c.loop-item.item-index c.args.walk.now (omega arith))))
    (free_aligned (map span_of c.args.live.now) c.args.walk.now)

pub returns-clause-clear : goal.returns-clause-clear
returns-clause-clear c =
    subst (λ (l : List CodeSpan). AllByRecursion (λ s. IsFalse (list_any (meets s) (map span_of c.args.live.now))) (map span_of l))
    (sym (c.loop-item.invariant ∙ ap (λ (l : List (CodeSpan × SegHeader)). map (λ (i : CodeSpan × SegHeader). i.0) (filter (is_free_item (map span_of c.args.live.now)) l)) (take_all c.loop-item.item-index c.args.walk.now (omega arith))))
    (free_clear (map span_of c.args.live.now) c.args.walk.now)

pub returns-clause-inside : goal.returns-clause-inside
returns-clause-inside c = λ size ends.
    subst (λ (l : List CodeSpan). AllByRecursion (λ s. end_of s ≤ size) (map span_of l))
    (sym (c.loop-item.invariant ∙ ap (λ (l : List (CodeSpan × SegHeader)). map (λ (i : CodeSpan × SegHeader). i.0) (filter (is_free_item (map span_of c.args.live.now)) l)) (take_all c.loop-item.item-index c.args.walk.now (omega arith))))
    (free_inside (is_free_item (map span_of c.args.live.now)) size c.args.walk.now ends)
