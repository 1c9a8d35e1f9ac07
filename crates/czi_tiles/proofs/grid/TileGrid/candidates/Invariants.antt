use Rattle.czi_doc.specs.QueryView.{query_of}
use Rattle.czi_tiles.proofs.Gridded.{AddsLevels}
use Rattle.czi_tiles.proofs.grid.TileGrid.candidates.Given as goal

abbrev pub invariant-loop-level : goal.invariant-loop-level
invariant-loop-level l = AddsLevels (query_of l.query) l.self.cells.items l.keys.first l.keys.last l.level l.places.items
