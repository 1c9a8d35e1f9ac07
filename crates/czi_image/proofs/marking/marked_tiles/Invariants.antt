use Rattle.std.proofs.Common.{◌≡◌, ◌++◌, map, take, drop}
use Rattle.czi_walk.specs.View.{segment_of}
use Rattle.czi_image.specs.Marked.{tile_and_place, marked_tile}
use Rattle.czi_image.proofs.marking.marked_tiles.Given as goal

-- those so far are marked, and the others are as they were
abbrev pub invariant-loop-i : goal.invariant-loop-i
invariant-loop-i l = map tile_and_place l.tiles.items ≡ map (marked_tile (map segment_of l.fn.walk)) (take l.i l.fn.tiles.items) ++ map tile_and_place (drop l.i l.fn.tiles.items)
