use Rattle.std.proofs.Common.{List, subst, arith}
use Rattle.std.proofs.lemmas.List.Sorted.{IsNonDecreasingBy-from_sort}
use Rattle.czi_doc.specs.QueryView.{query_of}
use Rattle.czi_tiles.specs.declared.cell.Cell.{Cell}
use Rattle.czi_tiles.specs.Cells.{AddsKeys}
use Rattle.czi_tiles.proofs.Gridded.{AddsLevels, more_levels, candidates}
use Rattle.czi_tiles.proofs.grid.TileGrid.candidates.Goals as goal

pub loop-level-preserved : goal.loop-level-preserved
loop-level-preserved c = more_levels (query_of c.args.query.now) c.args.self.now.cells.items c.keys_of-keys.result.first c.keys_of-keys.result.last c.loop-level.level c.loop-level.places.items c.push_keys.new.places.items c.loop-level.invariant
    (subst (λ (cells : List Cell). AddsKeys (query_of c.args.query.now) cells c.loop-level.level c.keys_of-keys.result.first c.keys_of-keys.result.last c.loop-level.places.items c.push_keys.new.places.items) c.deref.ensures.value c.in_ok-push_keys.ensures)

pub returns : goal.returns
returns c = λ tiles grid. candidates (query_of c.args.query.now) tiles c.args.self.now c.keys_of-keys.result.first c.keys_of-keys.result.last c.loop-level.places.items c.sort_unstable.new.self.items grid c.keys_of-keys.ensures.asked
    (subst (λ n. AddsLevels (query_of c.args.query.now) c.args.self.now.cells.items c.keys_of-keys.result.first c.keys_of-keys.result.last n c.loop-level.places.items) (omega (arith, c.loop-level-test.false, c.loop-level.auto.level-end)) c.loop-level.invariant)
    c.sort_unstable.ensures.permutation (IsNonDecreasingBy-from_sort (λ x. x) c.sort_unstable.new.self.items c.sort_unstable.ensures.sorted)
