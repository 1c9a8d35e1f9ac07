use Rattle.std.proofs.Common.{◌≡◌, map, drop}
use Rattle.czi_format.specs.Painting.{has_name}
use Rattle.czi_doc.specs.Items.{item_of}
use Rattle.czi_doc.proofs.plane.has_name.Given as goal

-- none that was passed has the name
abbrev pub invariant-loop-item : goal.invariant-loop-item
invariant-loop-item l = has_name l.name (map item_of l.items) ≡ has_name l.name (map item_of (drop l.item-index l.items))
