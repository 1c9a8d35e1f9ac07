use Rattle.std.proofs.Common.{◌≡◌, map, drop}
use Rattle.std.specs.List.{list_all}
use Rattle.czi_doc.specs.View.{dim_of}
use Rattle.czi_format.specs.Painting.{has_start}
use Rattle.czi_doc.specs.QueryView.{plane_of}
use Rattle.czi_doc.specs.Items.{item_of}
use Rattle.czi_tiles.proofs.belonging.in_plane.Given as goal

-- each that was passed is met
abbrev pub invariant-loop-item : goal.invariant-loop-item
invariant-loop-item l = list_all (has_start (map dim_of l.dims)) (plane_of l.plane) ≡ list_all (has_start (map dim_of l.dims)) (map item_of (drop l.item-index l.items))
