use Rattle.std.proofs.Common.{◌≡◌, ◌<◌, ◌==◌, nat_lt, length, rules, arith, subst}
use Rattle.std.specs.List.Sorted.{IsPartitionedBy}
use Rattle.std.proofs.lemmas.Bool.{eq-eqb}
use Rattle.std.proofs.lemmas.List.{get_or_default}
use Rattle.std.proofs.lemmas.List.Sorted.{IsPartitionPoint-from_clause}
use Rattle.czi_num.specs.declared.span.Span.{Span as CodeSpan}
use Rattle.czi_spans.specs.Apart.{first_of}
use Rattle.czi_spans.proofs.Apart.{places_parted, place_before, place_missed, position_hit, position_miss}
use Rattle.czi_spans.proofs.search.find_place.Goals as goal
use Rattle.czi_spans.proofs.search.find_place.Goals.{else-i-items-via-then-i-items+else-items-i, else-i-items-via-else-i-items}

pub returns-then-items-i-clause-position : goal.returns-then-items-i-clause-position
returns-then-items-i-clause-position g c =
    let parted : IsPartitionedBy (λ (p : CodeSpan × g.row.T.Denot). nat_lt p.0.at c.args.at) c.args.items.now = places_parted first_of c.args.at c.args.items.now c.requires in
    let point = IsPartitionPoint-from_clause (λ (p : CodeSpan × g.row.T.Denot). nat_lt p.0.at c.args.at) _ _ c.partition_point-i.ensures.partitioned parted (λ a r q k. search rules) in
    let inside : c.partition_point-i.result < length c.args.items.now = omega (arith, c.if-i-items.true) in
    position_hit (λ (p : CodeSpan × g.row.T.Denot). p.0.at == c.args.at) c.args.items.now c.partition_point-i.result c.index-items-i.result inside
    (λ k l. place_before first_of c.args.at c.args.items.now c.partition_point-i.result (λ j e m. point.0 j e (omega arith) m) k c.index-items-i.result l)
    (eq-eqb _ _ c.if-items-i.true)

pub returns-else-i-items-clause-position : goal.returns-else-i-items-clause-position
returns-else-i-items-clause-position g c =
    let parted : IsPartitionedBy (λ (p : CodeSpan × g.row.T.Denot). nat_lt p.0.at c.args.at) c.args.items.now = places_parted first_of c.args.at c.args.items.now c.requires in
    let point = IsPartitionPoint-from_clause (λ (p : CodeSpan × g.row.T.Denot). nat_lt p.0.at c.args.at) _ _ c.partition_point-i.ensures.partitioned parted (λ a r q k. search rules) in
    position_miss (λ (p : CodeSpan × g.row.T.Denot). p.0.at == c.args.at) c.args.items.now (λ k d l.
    place_missed first_of c.args.at c.args.items.now c.partition_point-i.result c.requires (λ j e m. point.0 j e (omega arith) m) (λ e m. point.1 c.partition_point-i.result e (omega arith) m)
    (λ e inside same. elim c.else-i-items.branch [
      | else-i-items-via-then-i-items+else-items-i w ↦ w.if-items-i.false (subst (λ (p : CodeSpan × g.row.T.Denot). p.0.at ≡ c.args.at) (get_or_default c.args.items.now c.partition_point-i.result e w.index-items-i.result inside) same)
      | else-i-items-via-else-i-items w ↦ omega (arith, w.if-i-items.false, inside)
    ]) k d l)
