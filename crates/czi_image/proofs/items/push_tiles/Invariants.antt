use Rattle.std.proofs.Common.{◌≡◌, ◌++◌, map, take}
use Rattle.czi_image.specs.Items.{tile_item}
use Rattle.czi_image.proofs.items.push_tiles.Given as goal

-- those so far were put behind what stood there
abbrev pub invariant-loop-tile : goal.invariant-loop-tile
invariant-loop-tile l = l.items.items ≡ l.fn.items.items ++ map tile_item (take l.tile-index l.tiles)
