use Rattle.std.proofs.Common.{◌<◌, ◌≤◌, nat_lt, length, rules, arith, sym, ◌∙◌}
use Rattle.std.specs.List.Sorted.{IsPartitionedBy}
use Rattle.std.proofs.lemmas.Bool.{le-ltb}
use Rattle.std.proofs.lemmas.List.Sorted.{IsPartitionPoint-from_clause}
use Rattle.czi_num.specs.declared.span.Span.{Span as CodeSpan}
use Rattle.czi_num.specs.Span.{span_of}
use Rattle.czi_spans.proofs.Apart.{places_parted, place_decided, place_nowhere}
use Rattle.czi_spans.proofs.search.has_place.Goals as goal

pub returns-then-i-spans : goal.returns-then-i-spans
returns-then-i-spans c =
    let parted : IsPartitionedBy (λ (s : CodeSpan). nat_lt s.at c.args.at) c.args.spans.now = places_parted span_of c.args.at c.args.spans.now c.requires in
    let point = IsPartitionPoint-from_clause (λ (s : CodeSpan). nat_lt s.at c.args.at) _ _ c.partition_point-i.ensures.partitioned parted (λ a r q k. search rules) in
    let inside : c.partition_point-i.result < length c.args.spans.now = omega (arith, c.if-i-spans.true) in
    sym (place_decided span_of c.args.at c.args.spans.now c.partition_point-i.result c.index-spans-i.result c.requires inside (λ k e l. point.0 k e (omega arith) l) (λ e. point.1 c.partition_point-i.result e (omega arith) inside))

pub returns-else-i-spans : goal.returns-else-i-spans
returns-else-i-spans c =
    let parted : IsPartitionedBy (λ (s : CodeSpan). nat_lt s.at c.args.at) c.args.spans.now = places_parted span_of c.args.at c.args.spans.now c.requires in
    let point = IsPartitionPoint-from_clause (λ (s : CodeSpan). nat_lt s.at c.args.at) _ _ c.partition_point-i.ensures.partitioned parted (λ a r q k. search rules) in
    let past : length c.args.spans.now ≤ c.partition_point-i.result = omega (arith, c.if-i-spans.false) in
    le-ltb _ _ past ∙ sym (place_nowhere span_of c.args.at c.args.spans.now (λ k e l. point.0 k e (omega arith) (omega (arith, past))))
