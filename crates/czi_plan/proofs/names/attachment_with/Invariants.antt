use Rattle.std.proofs.Common.{◌≡◌, ℕ, ◌<◌, get_or, false, bytes_eq}
use Rattle.czi_doc.specs.View.{att_of}
use Rattle.czi_format.specs.Key.{attachment_key}
use Rattle.czi_image.specs.declared.types.AttItem.{AttItem}
use Rattle.czi_plan.proofs.names.attachment_with.Given as goal

-- none that was passed has the name
abbrev pub invariant-loop-i : goal.invariant-loop-i
invariant-loop-i l = (k : ℕ) (d : AttItem) → k < l.i → bytes_eq (attachment_key (att_of (get_or l.index.attachments.items k d).info)) l.name ≡ false
