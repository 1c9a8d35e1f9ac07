use Rattle.czi_tiles.specs.Grid.{HasTiles}
use Rattle.czi_tiles.proofs.grid.TileGrid.build.Given as goal

abbrev pub invariant-loop-i : goal.invariant-loop-i
invariant-loop-i l = HasTiles l.axis l.tiles l.i l.cells.items
