use Rattle.std.proofs.Common.{◌≡◌, ◌≤◌, nat_lt, true, false, rules, arith}
use Rattle.std.specs.List.Sorted.{IsPartitionPoint}
use Rattle.std.proofs.lemmas.List.Sorted.{IsPartitionPoint-from_clause, IsPartitionedBy-ltb}
use Rattle.czi_tiles.specs.declared.cell.Cell.{Cell}
use Rattle.czi_tiles.proofs.Skipped.{not_below, not_before, least}
use Rattle.czi_tiles.proofs.places.next_row.Goals as goal

abbrev none : Cell
none = record { number = 0; place = 0 }

pub returns-then-at-cells-clause-none : goal.returns-then-at-cells-clause-none
returns-then-at-cells-clause-none c = λ r x more has from to.
    let point : IsPartitionPoint (λ (x : Cell). nat_lt x.number c.number-behind.result ≡ true) (λ (x : Cell). nat_lt x.number c.number-behind.result ≡ false) c.args.cells.now c.partition_point-at.result
    = IsPartitionPoint-from_clause (λ (x : Cell). nat_lt x.number c.number-behind.result) _ _ c.partition_point-at.ensures.partitioned (IsPartitionedBy-ltb (λ (x : Cell). x.number) c.args.cells.now c.number-behind.result c.requires.sorted) (λ a r q k. search rules) in
    let limit : c.number-behind.result ≤ x.number = omega (arith, c.number-behind.ensures, more, from) in
    absurd (omega (arith, not_before c.args.cells.now c.number-behind.result c.partition_point-at.result point x has limit, has.1, c.if-at-cells.true))

pub overflow_sub-result : goal.overflow_sub-result
overflow_sub-result c =
    let point : IsPartitionPoint (λ (x : Cell). nat_lt x.number c.number-behind.result ≡ true) (λ (x : Cell). nat_lt x.number c.number-behind.result ≡ false) c.args.cells.now c.partition_point-at.result
    = IsPartitionPoint-from_clause (λ (x : Cell). nat_lt x.number c.number-behind.result) _ _ c.partition_point-at.ensures.partitioned (IsPartitionedBy-ltb (λ (x : Cell). x.number) c.args.cells.now c.number-behind.result c.requires.sorted) (λ a r q k. search rules) in
    omega (arith, c.number-behind.ensures, not_below c.args.cells.now c.number-behind.result c.partition_point-at.result point none (omega (arith, c.if-at-cells.false, c.partition_point-at.ensures.bound)))

pub returns-clause-behind : goal.returns-clause-behind
returns-clause-behind c =
    let point : IsPartitionPoint (λ (x : Cell). nat_lt x.number c.number-behind.result ≡ true) (λ (x : Cell). nat_lt x.number c.number-behind.result ≡ false) c.args.cells.now c.partition_point-at.result
    = IsPartitionPoint-from_clause (λ (x : Cell). nat_lt x.number c.number-behind.result) _ _ c.partition_point-at.ensures.partitioned (IsPartitionedBy-ltb (λ (x : Cell). x.number) c.args.cells.now c.number-behind.result c.requires.sorted) (λ a r q k. search rules) in
    omega (arith, c.number-behind.ensures, not_below c.args.cells.now c.number-behind.result c.partition_point-at.result point none (omega (arith, c.if-at-cells.false, c.partition_point-at.ensures.bound)))

pub returns-clause-none : goal.returns-clause-none
returns-clause-none c = λ r x more has from to.
    let point : IsPartitionPoint (λ (x : Cell). nat_lt x.number c.number-behind.result ≡ true) (λ (x : Cell). nat_lt x.number c.number-behind.result ≡ false) c.args.cells.now c.partition_point-at.result
    = IsPartitionPoint-from_clause (λ (x : Cell). nat_lt x.number c.number-behind.result) _ _ c.partition_point-at.ensures.partitioned (IsPartitionedBy-ltb (λ (x : Cell). x.number) c.args.cells.now c.number-behind.result c.requires.sorted) (λ a r q k. search rules) in
    let limit : c.number-behind.result ≤ x.number = omega (arith, c.number-behind.ensures, more, from) in
    omega (arith, least c.args.cells.now c.number-behind.result c.partition_point-at.result point none x c.requires.sorted has limit, to)
