use Rattle.std.proofs.Common.{◌≡◌, ◌∙◌, ap, refl, sym, arith, rules, pos, ℤ, to_z, of_z, w64}
use Rattle.czi_format.specs.Segment.{attachment_id, in_segment}
use Rattle.czi_format.specs.Live.{att_item}
use Rattle.czi_doc.specs.View.{att_of}
use Rattle.czi_att.specs.View.{a1_of}
use Rattle.czi_image.specs.View.{att_item_of}
use Rattle.czi_image.proofs.Looks.{att_item_front}
use Rattle.czi_image.proofs.Windows.{nothing_near, read_shown}
use Rattle.czi_image.proofs.attachments.read_attachment.Goals as goal

pub returns-in-None-clause-found : goal.returns-in-None-clause-found
returns-in-None-clause-found g c = λ image is.
    let place : to_z w64 (of_z w64 c.args.entry.1) ≡ c.args.entry.1 = search rules in
    sym (nothing_near image attachment_id 288 (to_z w64 (of_z w64 c.args.entry.1)) (att_item_front (a1_of c.args.entry)) refl ((rw c.in-None.is at c.in_ok-read_front.ensures.found) image is))
    ∙ ap (λ (z : ℤ). in_segment image attachment_id z (att_item (a1_of c.args.entry))) place

pub returns-in-Some-clause-found : goal.returns-in-Some-clause-found
returns-in-Some-clause-found g c = λ image is.
    let place : to_z w64 (of_z w64 c.args.entry.1) ≡ c.args.entry.1 = search rules in
    let front = (rw c.in-Some.is at c.in_ok-read_front.ensures.found) image is in
    read_shown att_item_of c.attachment_in.result image attachment_id c.in-Some.front.bytes 288 36 c.args.size c.in-Some.front.at (to_z w64 (of_z w64 c.args.entry.1))
    (att_item_front (record { info = att_of c.args.entry.0; position = pos c.in-Some.front.at })) (omega arith) refl (c.requires.size image is) front c.attachment_in.ensures.found
    ∙ (ap (λ (z : ℤ). in_segment image attachment_id (to_z w64 (of_z w64 c.args.entry.1)) (att_item (record { info = att_of c.args.entry.0; position = z }))) (sym front.place)
    ∙ ap (λ (z : ℤ). in_segment image attachment_id z (att_item (record { info = att_of c.args.entry.0; position = z }))) place)
