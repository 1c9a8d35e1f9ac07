use Rattle.std.proofs.Common.{◌≡◌, ◌++◌, codes, length, map, take}
use Rattle.czi_image.specs.View.{tile_of}
use Rattle.czi_report.specs.Text.{lines, number_line, tile_line}
use Rattle.czi_report.proofs.listing.push_tiles.Given as goal

-- the line of each that was passed stands behind their number
abbrev pub invariant-loop-number : goal.invariant-loop-number
invariant-loop-number l = l.out.items ≡ l.fn.out.items ++ (number_line (codes "tiles ") (length l.tiles) ++ lines tile_line 0 (map tile_of (take l.number l.tiles)))
