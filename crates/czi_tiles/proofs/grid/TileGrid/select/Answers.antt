use Rattle.std.proofs.Common.{◌<◌, length, subst, sym}
use Rattle.std.specs.List.{All}
use Rattle.std.specs.List.Sorted.{IsNonDecreasing}
use Rattle.czi_doc.specs.QueryView.{query_of}
use Rattle.czi_tiles.specs.Candidates.{HasChosen}
use Rattle.czi_tiles.proofs.grid.TileGrid.select.Goals as goal

pub turns_among-requires-clause-there : goal.turns_among-requires-clause-there
turns_among-requires-clause-there c = subst (λ l. All (λ k. k < length c.args.tiles.now) l) (sym c.deref.ensures.value) (c.in_ok-candidates.ensures c.args.tiles.now c.requires.built).there

pub turns_among-requires-clause-rising : goal.turns_among-requires-clause-rising
turns_among-requires-clause-rising c = subst (λ l. IsNonDecreasing l) (sym c.deref.ensures.value) (c.in_ok-candidates.ensures c.args.tiles.now c.requires.built).rising

pub turns_among-requires-clause-all : goal.turns_among-requires-clause-all
turns_among-requires-clause-all c = subst (λ l. HasChosen (query_of c.args.query.now) c.args.tiles.now l) (sym c.deref.ensures.value) (c.in_ok-candidates.ensures c.args.tiles.now c.requires.built).all
