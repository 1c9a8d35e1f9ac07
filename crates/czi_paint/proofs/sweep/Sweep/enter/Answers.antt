use Rattle.std.proofs.Common.{◌≡◌, ℕ, ◌++◌, ◌-◌, nat_le, true, false, take, drop, refl, subst, sym, rules, arith}
use Rattle.std.specs.List.Sorted.{IsNonDecreasingBy, IsPartitionPoint, IsPermutation}
use Rattle.std.proofs.lemmas.List.Sorted.{IsPartitionPoint-from_clause, IsPartitionedBy-leb}
use Rattle.czi_paint.specs.Meeting.{first_row}
use Rattle.czi_paint.proofs.Sweeping.{none_more, some_more}
use Rattle.czi_paint.proofs.sweep.Sweep.enter.Goals as goal

pub returns-then-to-self : goal.returns-then-to-self
returns-then-to-self c = λ i le was.
    let sorted : IsNonDecreasingBy (first_row c.args.patches.now) c.deref.result.now = subst (λ l. IsNonDecreasingBy (first_row c.args.patches.now) l) (sym c.deref.ensures.value) was.by_first in
    let point : IsPartitionPoint (λ k. nat_le (first_row c.args.patches.now k) c.args.j ≡ true) (λ k. nat_le (first_row c.args.patches.now k) c.args.j ≡ false) c.deref.result.now c.partition_point-to.result
    = IsPartitionPoint-from_clause (λ (k : ℕ). nat_le (first_row c.args.patches.now k) c.args.j) _ _ c.partition_point-to.ensures.partitioned (IsPartitionedBy-leb (first_row c.args.patches.now) c.deref.result.now c.args.j sorted) (λ a r q k. search rules) in
    some_more c.args.patches.now i c.args.j c.partition_point-to.result c.args.self.now _ le was
    (subst (λ l. IsPartitionPoint (λ k. nat_le (first_row c.args.patches.now k) c.args.j ≡ true) (λ k. nat_le (first_row c.args.patches.now k) c.args.j ≡ false) l c.partition_point-to.result) c.deref.ensures.value point)
    refl (omega (arith, c.if-to-self.true)) refl
    (subst (λ l. IsPermutation (l ++ take (c.partition_point-to.result - c.args.self.now.reached) (drop c.args.self.now.reached c.args.self.now.order.items)) c.join.new.active.items) c.leave.ensures.left
    (subst (λ l. IsPermutation (c.leave.new.active.items ++ take (c.partition_point-to.result - c.args.self.now.reached) (drop c.args.self.now.reached l)) c.join.new.active.items) c.deref-then-to-self.ensures.value c.join.ensures.joined))
    c.join.ensures.rising

pub returns-else-to-self : goal.returns-else-to-self
returns-else-to-self c = λ i le was.
    let sorted : IsNonDecreasingBy (first_row c.args.patches.now) c.deref.result.now = subst (λ l. IsNonDecreasingBy (first_row c.args.patches.now) l) (sym c.deref.ensures.value) was.by_first in
    let point : IsPartitionPoint (λ k. nat_le (first_row c.args.patches.now k) c.args.j ≡ true) (λ k. nat_le (first_row c.args.patches.now k) c.args.j ≡ false) c.deref.result.now c.partition_point-to.result
    = IsPartitionPoint-from_clause (λ (k : ℕ). nat_le (first_row c.args.patches.now k) c.args.j) _ _ c.partition_point-to.ensures.partitioned (IsPartitionedBy-leb (first_row c.args.patches.now) c.deref.result.now c.args.j sorted) (λ a r q k. search rules) in
    none_more c.args.patches.now i c.args.j c.partition_point-to.result c.args.self.now _ le was
    (subst (λ l. IsPartitionPoint (λ k. nat_le (first_row c.args.patches.now k) c.args.j ≡ true) (λ k. nat_le (first_row c.args.patches.now k) c.args.j ≡ false) l c.partition_point-to.result) c.deref.ensures.value point)
    refl (omega (arith, c.if-to-self.false)) refl c.leave.ensures.left
