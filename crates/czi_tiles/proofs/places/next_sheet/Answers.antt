use Rattle.std.proofs.Common.{◌≡◌, ◌+◌, ◌*◌, ◌≤◌, nat_lt, true, false, rules, arith}
use Rattle.std.specs.List.Sorted.{IsPartitionPoint}
use Rattle.std.proofs.lemmas.List.Sorted.{IsPartitionPoint-from_clause, IsPartitionedBy-ltb}
use Rattle.czi_tiles.specs.declared.cell.Cell.{Cell}
use Rattle.czi_tiles.proofs.Skipped.{not_below, not_before, least}
use Rattle.czi_tiles.proofs.places.next_sheet.Goals as goal

abbrev none : Cell
none = record { number = 0; place = 0 }

pub returns-then-at-cells-clause-none : goal.returns-then-at-cells-clause-none
returns-then-at-cells-clause-none c = λ r x more has from to.
    let point : IsPartitionPoint (λ (x : Cell). nat_lt x.number ((c.args.sheet + 1) * 4398046511104) ≡ true) (λ (x : Cell). nat_lt x.number ((c.args.sheet + 1) * 4398046511104) ≡ false) c.args.cells.now c.partition_point-at.result
    = IsPartitionPoint-from_clause (λ (x : Cell). nat_lt x.number ((c.args.sheet + 1) * 4398046511104)) _ _ c.partition_point-at.ensures.partitioned (IsPartitionedBy-ltb (λ (x : Cell). x.number) c.args.cells.now ((c.args.sheet + 1) * 4398046511104) c.requires.sorted) (λ a r q k. search rules) in
    let limit : ((c.args.sheet + 1) * 4398046511104) ≤ x.number = omega (arith, more, from) in
    absurd (omega (arith, not_before c.args.cells.now ((c.args.sheet + 1) * 4398046511104) c.partition_point-at.result point x has limit, has.1, c.if-at-cells.true))

pub returns-clause-behind : goal.returns-clause-behind
returns-clause-behind c =
    let point : IsPartitionPoint (λ (x : Cell). nat_lt x.number ((c.args.sheet + 1) * 4398046511104) ≡ true) (λ (x : Cell). nat_lt x.number ((c.args.sheet + 1) * 4398046511104) ≡ false) c.args.cells.now c.partition_point-at.result
    = IsPartitionPoint-from_clause (λ (x : Cell). nat_lt x.number ((c.args.sheet + 1) * 4398046511104)) _ _ c.partition_point-at.ensures.partitioned (IsPartitionedBy-ltb (λ (x : Cell). x.number) c.args.cells.now ((c.args.sheet + 1) * 4398046511104) c.requires.sorted) (λ a r q k. search rules) in
    omega (arith, not_below c.args.cells.now ((c.args.sheet + 1) * 4398046511104) c.partition_point-at.result point none (omega (arith, c.if-at-cells.false, c.partition_point-at.ensures.bound)))

pub returns-clause-none : goal.returns-clause-none
returns-clause-none c = λ r x more has from to.
    let point : IsPartitionPoint (λ (x : Cell). nat_lt x.number ((c.args.sheet + 1) * 4398046511104) ≡ true) (λ (x : Cell). nat_lt x.number ((c.args.sheet + 1) * 4398046511104) ≡ false) c.args.cells.now c.partition_point-at.result
    = IsPartitionPoint-from_clause (λ (x : Cell). nat_lt x.number ((c.args.sheet + 1) * 4398046511104)) _ _ c.partition_point-at.ensures.partitioned (IsPartitionedBy-ltb (λ (x : Cell). x.number) c.args.cells.now ((c.args.sheet + 1) * 4398046511104) c.requires.sorted) (λ a r q k. search rules) in
    let limit : ((c.args.sheet + 1) * 4398046511104) ≤ x.number = omega (arith, more, from) in
    omega (arith, least c.args.cells.now ((c.args.sheet + 1) * 4398046511104) c.partition_point-at.result point none x c.requires.sorted has limit, to)
