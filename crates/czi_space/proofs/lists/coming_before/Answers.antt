use Rattle.std.proofs.Common.{rules, arith}
use Rattle.std.specs.List.Sorted.{IsPartitionedBy}
use Rattle.std.proofs.lemmas.List.Sorted.{IsPartitionPoint-from_clause}
use Rattle.czi_num.specs.Span.{span_of}
use Rattle.czi_space.specs.State.{comes_before}
use Rattle.czi_space.proofs.Counted.{counted}
use Rattle.czi_space.proofs.Ordered.{held_parted}
use Rattle.czi_space.proofs.lists.coming_before.Goals as goal

pub returns-clause-count : goal.returns-clause-count
returns-clause-count c =
    let parted : IsPartitionedBy (λ e. comes_before (span_of c.args.span.now) (span_of e)) c.args.held.now = held_parted span_of (span_of c.args.span.now) c.args.held.now c.requires in
    let point = IsPartitionPoint-from_clause (λ e. comes_before (span_of c.args.span.now) (span_of e)) _ _ c.partition_point.ensures.partitioned parted (λ a r q k. search rules) in
    counted span_of (comes_before (span_of c.args.span.now)) c.args.held.now c.partition_point.result c.partition_point.ensures.bound (λ k d h. point.0 k d (omega arith) h) (λ d h. point.1 c.partition_point.result d (omega arith) h)
