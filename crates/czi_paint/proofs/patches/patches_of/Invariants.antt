use Rattle.std.proofs.Common.{◌≡◌, take, drop}
use Rattle.czi_format.specs.Painting.{chosen}
use Rattle.czi_format.specs.PaintRefusals.{first_given}
use Rattle.czi_doc.specs.QueryView.{query_of}
use Rattle.czi_tiles.specs.Chosen.{tile_dims}
use Rattle.czi_paint.specs.Patched.{ArePatches}
use Rattle.czi_paint.specs.Refusing.{tile_cause, chosen_cause}
use Rattle.czi_paint.proofs.patches.patches_of.Given as goal

-- nothing refuses those that were passed, and each has its patch
abbrev pub invariant-loop-place : goal.invariant-loop-place
invariant-loop-place l = record {
  fine : first_given (tile_cause (query_of l.query)) (drop l.place-index (chosen tile_dims (query_of l.query) l.tiles)) ≡ chosen_cause (query_of l.query) l.tiles;
  patched : ArePatches (query_of l.query) (take l.place-index (chosen tile_dims (query_of l.query) l.tiles)) l.patches.items;
}
