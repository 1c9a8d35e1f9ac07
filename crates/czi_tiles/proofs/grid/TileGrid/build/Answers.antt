use Rattle.std.proofs.Common.{List, map, ap, subst, arith, rules}
use Rattle.std.proofs.lemmas.List.Sorted.{IsNonDecreasingBy-from_sort_by_key}
use Rattle.czi_format.specs.Entry.{Dim}
use Rattle.czi_doc.specs.View.{dim_of}
use Rattle.czi_tiles.specs.declared.cell.Cell.{Cell}
use Rattle.czi_tiles.specs.Cells.{AddsTile}
use Rattle.czi_tiles.specs.Grid.{HasTiles}
use Rattle.czi_tiles.proofs.Gridded.{more_tiles, moved_cells}
use Rattle.czi_tiles.proofs.grid.TileGrid.build.Goals as goal

pub loop-i-preserved : goal.loop-i-preserved
loop-i-preserved c = more_tiles c.widest_axis-axis.result c.args.tiles.now c.loop-i.i c.loop-i.cells.items c.add_tile.new.cells.items c.index-tiles-i.result c.loop-i-test.true c.index-tiles-i.is c.loop-i.invariant
    (subst (λ (dims : List Dim). AddsTile c.widest_axis-axis.result dims c.loop-i.i c.loop-i.cells.items c.add_tile.new.cells.items) (ap (map dim_of) c.list.ensures.list) c.in_ok-add_tile.ensures)

pub invariant_of-result : goal.invariant_of-result
invariant_of-result c = record { sorted = IsNonDecreasingBy-from_sort_by_key (λ (x : Cell). x.number) _ c.sort_unstable_by_key.ensures.sorted (λ a r q k. search rules) }

pub returns : goal.returns
returns c = moved_cells c.widest_axis-axis.result c.args.tiles.now _ c.loop-i.cells.items c.sort_unstable_by_key.new.self.items c.sort_unstable_by_key.ensures.permutation
    (subst (λ n. HasTiles c.widest_axis-axis.result c.args.tiles.now n c.loop-i.cells.items) (omega arith) c.loop-i.invariant)
