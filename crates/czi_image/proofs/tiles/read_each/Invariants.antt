use Rattle.std.proofs.Common.{length, map}
use Rattle.czi_format.specs.Shows.{subblock_at}
use Rattle.czi_format.specs.Refusals.{bad_segment}
use Rattle.czi_dv.specs.View.{entry_of}
use Rattle.czi_image.specs.Inside.{TileEnds}
use Rattle.czi_image.specs.Summary.{Sums}
use Rattle.czi_image.specs.View.{tile_of}
use Rattle.czi_image.proofs.Midway.{ReadsEach}
use Rattle.czi_image.proofs.tiles.read_each.Given as goal

abbrev pub invariant-loop-entry : goal.invariant-loop-entry
invariant-loop-entry g l = record {
  read : ReadsEach g.R.Rig l.initial.rig l.rig subblock_at (λ e. bad_segment e.position) entry_of tile_of (TileEnds l.fn.size) l.fn.entries.items (length l.yielded) l.tiles.items;
  sums : Sums l.summary (map tile_of l.tiles.items);
}
