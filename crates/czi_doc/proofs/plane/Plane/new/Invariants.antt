use Rattle.std.proofs.Common.{◌≡◌, map, drop}
use Rattle.czi_format.specs.Painting.{is_plane}
use Rattle.czi_doc.specs.Items.{item_of}
use Rattle.czi_doc.proofs.plane.Plane.new.Given as goal

-- those that were passed are named once, and can be
abbrev pub invariant-loop-i : goal.invariant-loop-i
invariant-loop-i l = is_plane (map item_of l.list.items) ≡ is_plane (map item_of (drop l.i l.list.items))
