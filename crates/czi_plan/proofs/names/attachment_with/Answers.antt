use Rattle.std.proofs.Common.{◌≡◌, ◌<◌, get_or, length, ap, sym, ◌∙◌, arith, inl, inr, bytes_eq}
use Rattle.std.proofs.lemmas.Bool.{cases_lt}
use Rattle.czi_doc.specs.View.{att_of}
use Rattle.czi_format.specs.Key.{attachment_key}
use Rattle.czi_format.specs.Live.{AttItem}
use Rattle.czi_image.specs.View.{att_item_of}
use Rattle.czi_image.specs.declared.types.AttItem.{AttItem as CodeAttItem}
use Rattle.czi_space.proofs.Edited.{read_as}
use Rattle.czi_plan.proofs.Axes.{first_hit, first_miss}
use Rattle.czi_plan.proofs.names.attachment_with.Goals as goal

pub returns-then-has_name : goal.returns-then-has_name
returns-then-has_name c =
    let items = c.args.index.now.attachments.items in
    let inside : c.loop-i.i < length items = omega (arith, c.loop-i-test.true, c.len-i-end.ensures) in
    first_hit att_item_of (λ (a : AttItem). bytes_eq (attachment_key a.entry.info) c.args.name.now) items c.loop-i.i c.index.result.now inside
    (λ k h. c.loop-i.invariant k c.index.result.now h)
    (ap (λ (a : CodeAttItem). bytes_eq (attachment_key (att_of a.info)) c.args.name.now) (sym c.index.ensures) ∙ (sym c.has_name.ensures ∙ c.if-has_name.true))

pub loop-i-preserved : goal.loop-i-preserved
loop-i-preserved c =
    let items = c.args.index.now.attachments.items in
    let inside : c.loop-i.i < length items = omega (arith, c.loop-i-test.true, c.len-i-end.ensures) in
    λ k d h. elim (cases_lt k c.loop-i.i) [
      | inl low ↦ c.loop-i.invariant k d low
      | inr high ↦ let last : k ≡ c.loop-i.i = omega (arith, h, high) in
          ap (λ n. bytes_eq (attachment_key (att_of (get_or items n d).info)) c.args.name.now) last
          ∙ (ap (λ (a : CodeAttItem). bytes_eq (attachment_key (att_of a.info)) c.args.name.now) (read_as items c.loop-i.i c.index.result.now d inside c.index.ensures) ∙ (sym c.has_name.ensures ∙ c.if-has_name.false))
    ]

pub returns : goal.returns
returns c =
    first_miss att_item_of (λ (a : AttItem). bytes_eq (attachment_key a.entry.info) c.args.name.now) c.args.index.now.attachments.items
    (λ k d h. c.loop-i.invariant k d (omega (arith, h, c.loop-i-test.false, c.len-i-end.ensures)))
