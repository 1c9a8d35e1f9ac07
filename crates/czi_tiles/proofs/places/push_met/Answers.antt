use Rattle.std.proofs.Common.{FitsSigned, w32, rules}
use Rattle.std.proofs.lemmas.Int.{to_z-of_z}
use Rattle.czi_doc.specs.QueryView.{query_of}
use Rattle.czi_tiles.proofs.Gridded.{Meets, met_there}
use Rattle.czi_tiles.proofs.places.push_met.Goals as goal

pub returns : goal.returns
returns c =
    let fx : FitsSigned w32 c.args.query.now.x = search rules in
    let fy : FitsSigned w32 c.args.query.now.y = search rules in
    let columns : Meets c.args.level c.args.query.now.x c.args.query.now.layer c.args.query.now.w c.cells_met-columns.result.first c.cells_met-columns.result.last = simp to_z-of_z at c.cells_met-columns.ensures in
    let rows : Meets c.args.level c.args.query.now.y c.args.query.now.layer c.args.query.now.h c.cells_met-rows.result.first c.cells_met-rows.result.last = simp to_z-of_z at c.cells_met-rows.ensures in
    met_there (query_of c.args.query.now) c.args.cells.now c.args.level c.args.sheet c.cells_met-rows.result.first c.cells_met-rows.result.last c.cells_met-columns.result.first c.cells_met-columns.result.last
    c.args.places.now.items c.push_all.new.places.items columns rows c.in_ok-push_all.ensures
