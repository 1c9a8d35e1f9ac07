use Rattle.std.proofs.Common.{◌++◌, ◌≡◌, ℕ, length, take, flat_map, ap, sym, ◌∙◌, append_assoc, arith, rules}
use Rattle.czi_format.specs.Entry.{a1_bytes}
use Rattle.czi_image.specs.View.{att_item_of}
use Rattle.czi_region.specs.Pieces.{bytes_put}
use Rattle.czi_plan.specs.Changing.{entries_in}
use Rattle.czi_plan.specs.Kind.{of_attachments}
use Rattle.czi_plan.proofs.Attached.{bytes_more, entries_more}
use Rattle.czi_plan.proofs.attachments.put_a1s.Goals as goal

pub loop-item-preserved : goal.loop-item-preserved
loop-item-preserved c =
    let items = c.args.items.now in
    let i : ℕ = c.loop-item.item-index in
    let t = c.item-item.result in
    let old = bytes_put c.args.region.now in
    let done = flat_map a1_bytes (entries_in of_attachments (take i items)) in
    let own : length c.a1_of.result ≡ 128 = search rules in
    record {
      bytes = c.put.ensures.bytes ∙ ((λ j. c.loop-item.invariant.bytes j ++ c.a1_of.ensures.written j) ∙ (append_assoc old done (a1_bytes (att_item_of t).entry) ∙ ap (λ l. old ++ l) (sym (bytes_more items i t c.loop-item-test.true c.item-item.is))));
      left = omega (arith, c.put.ensures.room, c.loop-item.invariant.left, own);
      entries = entries_more items i t c.loop-item-test.true c.item-item.is c.loop-item.invariant.entries c.a1_of.ensures.entry;
    }
