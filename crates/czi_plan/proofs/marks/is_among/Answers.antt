use Rattle.std.proofs.Common.{◌<◌, ◌≤◌, nat_lt, length, rules, arith, sym, ap, ◌∙◌, map}
use Rattle.std.specs.List.Sorted.{IsPartitionedBy}
use Rattle.std.proofs.lemmas.Bool.{le-ltb}
use Rattle.std.proofs.lemmas.List.Sorted.{IsPartitionPoint-from_clause}
use Rattle.czi_format.specs.Space.{same_span}
use Rattle.czi_num.specs.declared.span.Span.{Span as CodeSpan}
use Rattle.czi_num.specs.Span.{span_of}
use Rattle.czi_spans.specs.Apart.{AreApart}
use Rattle.czi_spans.proofs.Apart.{places_parted}
use Rattle.czi_plan.proofs.Order.{extents_apart, span_decided, span_nowhere, same_turned}
use Rattle.czi_plan.proofs.marks.is_among.Goals as goal

pub returns-then-i-extents : goal.returns-then-i-extents
returns-then-i-extents c =
    let apart : AreApart 0 (map span_of c.args.extents.now) = extents_apart 0 c.requires.0 _ c.requires.1 in
    let parted : IsPartitionedBy (λ (s : CodeSpan). nat_lt s.at c.args.span.now.at) c.args.extents.now = places_parted span_of c.args.span.now.at c.args.extents.now apart in
    let point = IsPartitionPoint-from_clause (λ (s : CodeSpan). nat_lt s.at c.args.span.now.at) _ _ c.partition_point-i.ensures.partitioned parted (λ a r q k. search rules) in
    let inside : c.partition_point-i.result < length c.args.extents.now = omega (arith, c.if-i-extents.true) in
    c.eq.ensures ∙ (same_turned (span_of c.index-extents-i.result) (span_of c.args.span.now)
    ∙ (ap (λ (z : CodeSpan). same_span (span_of c.args.span.now) (span_of z)) c.index-extents-i.is
    ∙ sym (span_decided span_of (span_of c.args.span.now) c.args.extents.now c.partition_point-i.result c.index-extents-i.result apart inside (λ k e l. point.0 k e (omega arith) l) (λ e. point.1 c.partition_point-i.result e (omega arith) inside))))

pub returns-else-i-extents : goal.returns-else-i-extents
returns-else-i-extents c =
    let apart : AreApart 0 (map span_of c.args.extents.now) = extents_apart 0 c.requires.0 _ c.requires.1 in
    let parted : IsPartitionedBy (λ (s : CodeSpan). nat_lt s.at c.args.span.now.at) c.args.extents.now = places_parted span_of c.args.span.now.at c.args.extents.now apart in
    let point = IsPartitionPoint-from_clause (λ (s : CodeSpan). nat_lt s.at c.args.span.now.at) _ _ c.partition_point-i.ensures.partitioned parted (λ a r q k. search rules) in
    let past : length c.args.extents.now ≤ c.partition_point-i.result = omega (arith, c.if-i-extents.false) in
    le-ltb _ _ past ∙ sym (span_nowhere span_of (span_of c.args.span.now) c.args.extents.now (λ k e l. point.0 k e (omega arith) (omega (arith, past))))
