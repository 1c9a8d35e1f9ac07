use Rattle.std.proofs.Common.{rules, arith}
use Rattle.std.specs.List.Sorted.{IsPartitionedBy}
use Rattle.std.proofs.lemmas.List.Sorted.{IsPartitionPoint-from_clause}
use Rattle.czi_num.specs.Span.{span_of}
use Rattle.czi_space.specs.State.{ends_by}
use Rattle.czi_space.proofs.Counted.{counted}
use Rattle.czi_space.proofs.Ordered.{ends_parted}
use Rattle.czi_space.proofs.lists.ending_by.Goals as goal

pub returns-clause-count : goal.returns-clause-count
returns-clause-count c =
    let parted : IsPartitionedBy (λ e. ends_by c.args.place (span_of e)) c.args.extents.now = ends_parted span_of 0 c.requires.0 c.args.place c.args.extents.now c.requires.1 in
    let point = IsPartitionPoint-from_clause (λ e. ends_by c.args.place (span_of e)) _ _ c.partition_point.ensures.partitioned parted (λ a r q k. search rules) in
    counted span_of (ends_by c.args.place) c.args.extents.now c.partition_point.result c.partition_point.ensures.bound (λ k d h. point.0 k d (omega arith) h) (λ d h. point.1 c.partition_point.result d (omega arith) h)
