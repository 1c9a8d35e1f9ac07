use Rattle.std.proofs.Common.{◌≡◌, ◌++◌, map, take}
use Rattle.czi_image.specs.Items.{att_item_item}
use Rattle.czi_image.proofs.items.push_attachments.Given as goal

-- those so far were put behind what stood there
abbrev pub invariant-loop-attachment : goal.invariant-loop-attachment
invariant-loop-attachment l = l.items.items ≡ l.fn.items.items ++ map att_item_item (take l.attachment-index l.attachments)
