use Rattle.std.proofs.Common.{◌≡◌, ℕ, ◌<◌, nat_lt, nat_le, true, false, length, get_or, subst, sym, ap, ◌∙◌, rules, arith, inl, inr}
use Rattle.std.specs.List.{Contains}
use Rattle.std.proofs.lemmas.Bool.{cases_lt}
use Rattle.std.proofs.lemmas.Bool.Decides.{nat_tests}
use Rattle.std.proofs.lemmas.List.{get_or_default}
use Rattle.std.proofs.lemmas.List.Sorted.{IsPartitionPoint-from_clause, IsPartitionedBy-ltb, IsPartitionedBy-leb}
use Rattle.czi_tiles.specs.declared.cell.Cell.{Cell}
use Rattle.czi_tiles.proofs.Celled.{kept, added, all_more}
use Rattle.czi_tiles.proofs.places.push_places.Goals as goal

abbrev none : Cell
none = record { number = 0; place = 0 }

pub loop-i-preserved : goal.loop-i-preserved
loop-i-preserved c =
    let one : ℕ = (get_or c.args.cells.now c.loop-i.i none).place in
    let low : c.loop-i.i < length c.args.cells.now = omega (arith, c.loop-i-test.true, c.partition_point-to.ensures.bound) in
    record {
      adds = record {
        keeps = λ x h. kept _ _ one c.in_ok-push.ensures.items x (c.loop-i.invariant.adds.keeps x h);
        bound = λ n all old. all_more (λ k. k < n) _ _ one c.in_ok-push.ensures.items (c.loop-i.invariant.adds.bound n all old) (all c.loop-i.i none low);
      };
      there = λ k x from to is. elim (cases_lt k c.loop-i.i) [
        | inl less ↦ kept _ _ one c.in_ok-push.ensures.items x.place (c.loop-i.invariant.there k x from less is)
        | inr more ↦
            let same : k ≡ c.loop-i.i = omega (arith, more, to) in
            let this : x ≡ get_or c.args.cells.now c.loop-i.i none = is ∙ (ap (λ n. get_or c.args.cells.now n x) same ∙ get_or_default c.args.cells.now c.loop-i.i x none low) in
            subst (λ m. Contains c.push.new.self.items m) (ap (λ (c : Cell). c.place) (sym this)) (added _ _ one c.in_ok-push.ensures.items)
      ];
    }

pub returns : goal.returns
returns c =
    let low = IsPartitionPoint-from_clause (λ (x : Cell). nat_lt x.number c.args.first) _ _ c.partition_point-from.ensures.partitioned (IsPartitionedBy-ltb (λ (x : Cell). x.number) c.args.cells.now c.args.first c.requires) (λ a r q k. search rules) in
    let high = IsPartitionPoint-from_clause (λ (x : Cell). nat_le x.number c.args.last) _ _ c.partition_point-to.ensures.partitioned (IsPartitionedBy-leb (λ (x : Cell). x.number) c.args.cells.now c.args.last c.requires) (λ a r q k. search rules) in
    record {
      adds = c.loop-i.invariant.adds;
      there = λ x found from to. elim (cases_lt found.0 c.partition_point-from.result) [
        | inl before ↦
            let test : nat_lt (get_or c.args.cells.now found.0 x).number c.args.first ≡ true = low.0 found.0 x (omega arith) before in
            absurd (let same : (get_or c.args.cells.now found.0 x).number ≡ x.number = ap (λ (c : Cell). c.number) found.2 in grind (arith, nat_tests))
        | inr behind ↦ elim (cases_lt found.0 c.partition_point-to.result) [
          | inl within ↦ c.loop-i.invariant.there found.0 x behind (omega (arith, within, behind, c.loop-i-test.false)) (sym found.2)
          | inr past ↦
              let test : nat_le (get_or c.args.cells.now found.0 x).number c.args.last ≡ false = high.1 found.0 x past found.1 in
              absurd (let same : (get_or c.args.cells.now found.0 x).number ≡ x.number = ap (λ (c : Cell). c.number) found.2 in grind (arith, nat_tests))
        ]
      ];
    }
