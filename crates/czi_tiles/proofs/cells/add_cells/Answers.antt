use Rattle.std.proofs.Common.{◌≡◌, subst, arith, inl, inr}
use Rattle.std.specs.List.{Contains}
use Rattle.std.proofs.lemmas.Bool.{cases_lt}
use Rattle.czi_tiles.specs.Cells.{cell_at, AddsRow}
use Rattle.czi_tiles.proofs.cells.add_cells.Goals as goal

pub loop-row-preserved : goal.loop-row-preserved
loop-row-preserved c =
    let adds : AddsRow c.args.sheet c.loop-row.row c.args.columns.first c.args.columns.last c.args.place c.loop-row.cells.items c.add_row.new.cells.items = c.in_ok-add_row.ensures in
    record {
      keeps = λ x h. adds.keeps x (c.loop-row.invariant.keeps x h);
      bound = λ n low all. adds.bound n low (c.loop-row.invariant.bound n low all);
      there = λ row column from to left right. elim (cases_lt row c.loop-row.row) [
        | inl less ↦ adds.keeps _ (c.loop-row.invariant.there row column from less left right)
        | inr more ↦
            let same : c.loop-row.row ≡ row = omega (arith, more, to) in
            subst (λ k. Contains c.add_row.new.cells.items (cell_at c.args.sheet k column c.args.place)) same (adds.there column left right)
      ];
    }
