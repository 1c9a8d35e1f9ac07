use Rattle.std.proofs.Common.{arith, refl, ap, ◌∙◌}
use Rattle.czi_format.specs.Live.{AttItem}
use Rattle.czi_format.specs.Layout.{Place, place_of}
use Rattle.czi_seg.specs.View.{header_of}
use Rattle.czi_walk.specs.View.{segment_of}
use Rattle.czi_image.specs.Marked.{att_item_and_place, marked_att_item}
use Rattle.czi_image.specs.View.{att_item_of}
use Rattle.std.proofs.Common.{map}
use Rattle.czi_image.proofs.Marks.{marked_more, place_is}
use Rattle.czi_image.proofs.marking.marked_attachments.Goals as goal

pub loop-i-preserved : goal.loop-i-preserved
loop-i-preserved c =
    let one = c.index_mut-attachment.result.now in
    let place = place_is (map segment_of c.args.walk.now) one.span one.head c.is_walked-attachment.result one.extent (c.is_walked-attachment.ensures (header_of one.span.at one.head) refl) in
    marked_more att_item_and_place (marked_att_item (map segment_of c.args.walk.now)) (λ (p : AttItem × Place). (p.0, place_of (map segment_of c.args.walk.now) p.0.segment)) (λ t. refl)
    c.args.attachments.items c.loop-i.attachments.items c.loop-i.i one _ (omega arith) c.loop-i.invariant
    ((λ j. (att_item_of one, place j)) ∙ ap (λ t. marked_att_item (map segment_of c.args.walk.now) t) c.index_mut-attachment.ensures.value)
