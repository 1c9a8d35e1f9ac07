use Rattle.std.proofs.Common.{◌+◌, ◌<◌, nat_le, length, rules, arith}
use Rattle.std.proofs.lemmas.Bool.{lt-ltb, ltb-true}
use Rattle.std.specs.List.Sorted.{IsPartitionedBy}
use Rattle.std.proofs.lemmas.List.Sorted.{IsPartitionPoint-from_clause}
use Rattle.czi_num.specs.declared.span.Span.{Span as CodeSpan}
use Rattle.czi_num.specs.Span.{span_of}
use Rattle.czi_spans.proofs.Apart.{ends_parted}
use Rattle.czi_plan.proofs.Found.{lies_at, lies_first}
use Rattle.czi_plan.proofs.fits.lies_in_one.Goals as goal

pub returns-then-i-extents : goal.returns-then-i-extents
returns-then-i-extents c =
    let xs = c.args.extents.now in
    let i = c.partition_point-i.result in
    let s = span_of c.args.span.now in
    let parted : IsPartitionedBy (λ (e : CodeSpan). nat_le (e.at + e.len) s.at) xs = ends_parted span_of s.at xs c.requires.rising in
    let point = IsPartitionPoint-from_clause (λ (e : CodeSpan). nat_le (e.at + e.len) s.at) _ _ c.partition_point-i.ensures.partitioned parted (λ a r q k. search rules) in
    let inside : i < length xs = omega (arith, c.if-i-extents.true) in (
      λ t. let has = c.has_all_of.ensures.0 t in lies_at span_of xs s i c.index-extents-i.result inside c.index-extents-i.is has.0 has.1,
      λ lies. c.has_all_of.ensures.1 ((lies_first span_of xs s i c.requires.rising c.requires.some (λ k e l h. point.0 k e (omega arith) l) (λ e h. point.1 i e (omega arith) h) lies).1 c.index-extents-i.result c.index-extents-i.is),
    )

pub returns-else-i-extents : goal.returns-else-i-extents
returns-else-i-extents c =
    let xs = c.args.extents.now in
    let i = c.partition_point-i.result in
    let s = span_of c.args.span.now in
    let parted : IsPartitionedBy (λ (e : CodeSpan). nat_le (e.at + e.len) s.at) xs = ends_parted span_of s.at xs c.requires.rising in
    let point = IsPartitionPoint-from_clause (λ (e : CodeSpan). nat_le (e.at + e.len) s.at) _ _ c.partition_point-i.ensures.partitioned parted (λ a r q k. search rules) in (
      λ t. absurd (omega (arith, c.if-i-extents.false, ltb-true _ _ t)),
      λ lies. lt-ltb _ _ (lies_first span_of xs s i c.requires.rising c.requires.some (λ k e l h. point.0 k e (omega arith) l) (λ e h. point.1 i e (omega arith) h) lies).0,
    )
