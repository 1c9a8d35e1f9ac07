use Rattle.std.proofs.Common.{◌≡◌, ◌∙◌, ℕ, List, length, refl, subst, rules, arith}
use Rattle.std.specs.List.Sorted.{IsPermutation}
use Rattle.std.proofs.lemmas.List.FromFn.{length-range_with_len}
use Rattle.std.proofs.lemmas.List.Sorted.{IsNonDecreasingBy-from_sort_by_key, length_permutation}
use Rattle.czi_paint.specs.Meeting.{first_row}
use Rattle.czi_paint.proofs.Sweeping.{none_reached}
use Rattle.czi_paint.proofs.sweep.Sweep.new.Goals as goal

pub invariant_of-sweep : goal.invariant_of-sweep
invariant_of-sweep c =
    let items : List ℕ = c.sort_unstable_by_key.new.self.items in
    let long : length c.sort_unstable_by_key.new.self.items ≡ length c.args.patches.now =
    length_permutation _ c.sort_unstable_by_key.new.self.items (subst (λ l. IsPermutation l c.sort_unstable_by_key.new.self.items) c.in_ok-order.ensures c.sort_unstable_by_key.ensures.permutation)
    ∙ length-range_with_len 0 (length c.args.patches.now) in
    record { room = omega (arith, long, c.in_ok-active.ensures.len, c.in_ok-active.ensures.capacity); within = omega arith }

pub returns : goal.returns
returns c = c.enter.ensures 0 (omega arith) (none_reached c.args.patches.now c.sort_unstable_by_key.new.self.items _
    (subst (λ l. IsPermutation l c.sort_unstable_by_key.new.self.items) c.in_ok-order.ensures c.sort_unstable_by_key.ensures.permutation)
    (IsNonDecreasingBy-from_sort_by_key (first_row c.args.patches.now) _ c.sort_unstable_by_key.ensures.sorted (λ a r q k. search rules))
    refl refl c.in_ok-active.ensures.items)
