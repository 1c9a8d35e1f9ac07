use Rattle.std.proofs.Common.{length}
use Rattle.czi_format.specs.Shows.{attachment_at}
use Rattle.czi_format.specs.Refusals.{bad_attachment}
use Rattle.czi_att.specs.View.{a1_of}
use Rattle.czi_image.specs.Inside.{AttItemEnds}
use Rattle.czi_image.specs.View.{att_item_of}
use Rattle.czi_image.proofs.Midway.{ReadsEach}
use Rattle.czi_image.proofs.attachments.read_each.Given as goal

abbrev pub invariant-loop-entry : goal.invariant-loop-entry
invariant-loop-entry g l = ReadsEach g.R.Rig l.initial.rig l.rig attachment_at (λ a. bad_attachment a.position) a1_of att_item_of (AttItemEnds l.fn.size) l.fn.entries.items (length l.yielded) l.items.items
