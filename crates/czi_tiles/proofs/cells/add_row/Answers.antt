use Rattle.std.proofs.Common.{◌≡◌, ◌<◌, subst, arith, inl, inr}
use Rattle.std.specs.List.{Contains}
use Rattle.std.proofs.lemmas.Bool.{cases_lt}
use Rattle.czi_tiles.specs.declared.cell.Cell.{Cell}
use Rattle.czi_tiles.specs.Cells.{cell_at}
use Rattle.czi_tiles.proofs.Celled.{kept, added, all_more}
use Rattle.czi_tiles.proofs.cells.add_row.Goals as goal

pub loop-column-preserved : goal.loop-column-preserved
loop-column-preserved c =
    let one : Cell = record { number = c.number.result; place = c.args.place } in
    record {
      keeps = λ x h. kept _ _ one c.in_ok-push.ensures.items x (c.loop-column.invariant.keeps x h);
      bound = λ n low all. all_more (λ (c : Cell). c.place < n) _ _ one c.in_ok-push.ensures.items (c.loop-column.invariant.bound n low all) low;
      there = λ column from to. elim (cases_lt column c.loop-column.column) [
        | inl less ↦ kept _ _ one c.in_ok-push.ensures.items _ (c.loop-column.invariant.there column from less)
        | inr more ↦
            let same : c.loop-column.column ≡ column = omega (arith, more, to) in
            subst (λ k. Contains c.push.new.self.items (cell_at c.args.sheet c.args.row k c.args.place)) same
            (subst (λ n. Contains c.push.new.self.items (record { number = n; place = c.args.place })) c.number.ensures (added _ _ one c.in_ok-push.ensures.items))
      ];
    }
