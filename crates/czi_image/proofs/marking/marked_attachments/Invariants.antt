use Rattle.std.proofs.Common.{◌≡◌, ◌++◌, map, take, drop}
use Rattle.czi_walk.specs.View.{segment_of}
use Rattle.czi_image.specs.Marked.{att_item_and_place, marked_att_item}
use Rattle.czi_image.proofs.marking.marked_attachments.Given as goal

-- those so far are marked, and the others are as they were
abbrev pub invariant-loop-i : goal.invariant-loop-i
invariant-loop-i l = map att_item_and_place l.attachments.items ≡ map (marked_att_item (map segment_of l.fn.walk)) (take l.i l.fn.attachments.items) ++ map att_item_and_place (drop l.i l.fn.attachments.items)
