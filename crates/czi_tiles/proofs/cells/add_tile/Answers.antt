use Rattle.std.proofs.Common.{◌≡◌, ◌∙◌, ℕ, Option, ap, subst, ℤ, ◌≤◌, ◌≤ℤ◌, ◌<ℤ◌, ◌+ℤ◌, FitsSigned, w32, map, sym, rules}
use Rattle.std.proofs.lemmas.Int.{to_z-of_z}
use Rattle.czi_doc.specs.View.{dim_of}
use Rattle.czi_tiles.specs.Cells.{AddsCells, cell_at, cell_of, key, sheet_of, start_in}
use Rattle.std.specs.List.{Contains}
use Rattle.czi_tiles.proofs.Celled.{in_cells}
use Rattle.czi_tiles.proofs.cells.add_tile.Goals as goal

pub returns : goal.returns
returns c =
    let adds : AddsCells c.sheet-sheet.result c.in-Some-cells_of-2.rows.first c.in-Some-cells_of-2.rows.last c.in-Some-cells_of.columns.first c.in-Some-cells_of.columns.last c.args.place c.args.cells.now.items c.add_cells.new.cells.items = c.in_ok-add_cells.ensures in
    let fx : FitsSigned w32 c.in-Some.x.start = search rules in
    let fw : FitsSigned w32 c.in-Some.x.size = search rules in
    let fy : FitsSigned w32 c.in-Some-first_named.y.start = search rules in
    let fh : FitsSigned w32 c.in-Some-first_named.y.size = search rules in
    let columns : (p : ℤ) → c.in-Some.x.start ≤ℤ p → p <ℤ (c.in-Some.x.start +ℤ c.in-Some.x.size) → (c.in-Some-cells_of.columns.first ≤ cell_of c.level_of-level.result p) × (cell_of c.level_of-level.result p ≤ c.in-Some-cells_of.columns.last) = simp to_z-of_z at c.in-Some-cells_of.ensures.within in
    let rows : (p : ℤ) → c.in-Some-first_named.y.start ≤ℤ p → p <ℤ (c.in-Some-first_named.y.start +ℤ c.in-Some-first_named.y.size) → (c.in-Some-cells_of-2.rows.first ≤ cell_of c.level_of-level.result p) × (cell_of c.level_of-level.result p ≤ c.in-Some-cells_of-2.rows.last) = simp to_z-of_z at c.in-Some-cells_of-2.ensures.within in
    let sheet : c.sheet-sheet.result ≡ sheet_of c.level_of-level.result (key (start_in c.args.axis (map dim_of c.args.dims.now))) =
    c.sheet-sheet.ensures.value ∙ (ap (sheet_of c.level_of-level.result) c.key.ensures.value ∙ ap (λ (o : Option ℤ). sheet_of c.level_of-level.result (key o)) c.start_in.ensures) in
    let there : (row column : ℕ) → c.in-Some-cells_of-2.rows.first ≤ row → row ≤ c.in-Some-cells_of-2.rows.last → c.in-Some-cells_of.columns.first ≤ column → column ≤ c.in-Some-cells_of.columns.last
    → Contains c.add_cells.new.cells.items (cell_at (sheet_of c.level_of-level.result (key (start_in c.args.axis (map dim_of c.args.dims.now)))) row column c.args.place)
    = λ row column a b d e. subst (λ n. Contains c.add_cells.new.cells.items (cell_at n row column c.args.place)) sheet (adds.there row column a b d e) in
    record {
      keeps = adds.keeps;
      bound = adds.bound;
      indexed = in_cells c.args.axis c.add_cells.new.cells.items c.args.place (map dim_of c.args.dims.now) (dim_of c.in-Some.x) (dim_of c.in-Some-first_named.y) c.level_of-level.result c.in-Some-cells_of-2.rows.first c.in-Some-cells_of-2.rows.last
          c.in-Some-cells_of.columns.first c.in-Some-cells_of.columns.last (sym c.in-Some.ensures) (sym c.in-Some-first_named.ensures) c.level_of-level.ensures c.in-Some-cells_of-2.rows.small c.in-Some-cells_of.columns.small columns rows there;
    }
