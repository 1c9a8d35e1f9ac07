use Rattle.std.proofs.Common.{◌≡◌, Bool, true, false, ◌||◌, ap, sym, ◌∙◌}
use Rattle.std.specs.List.{list_any}
use Rattle.czi_format.specs.Span.{meets}
use Rattle.czi_image.specs.Holds.{att_item_place, tile_place}
use Rattle.czi_image.specs.declared.types.AttItem.{AttItem}
use Rattle.czi_image.specs.declared.types.Tile.{Tile}
use Rattle.czi_num.specs.Span.{span_of}
use Rattle.czi_plan.proofs.Found.{live_any}
use Rattle.czi_plan.proofs.fits.meets_live.Goals as goal
use Rattle.czi_plan.proofs.fits.meets_live.Goals.{then-meets_single, else-meets_single}

-- one of three is true where the first is, where the second is, or else as the third
first_true : (s t a : Bool) → s ≡ true → ((s || t) || a) ≡ true
first_true s t a e = λ i. (e i || t) || a

second_true : (s t a : Bool) → s ≡ false → t ≡ true → ((s || t) || a) ≡ true
second_true s t a e f = λ i. (e i || f i) || a

third : (s t a : Bool) → s ≡ false → t ≡ false → ((s || t) || a) ≡ a
third s t a e f = λ i. (e i || f i) || a

pub returns-then-meets_items : goal.returns-then-meets_items
returns-then-meets_items c =
    let s = span_of c.args.span.now in
    let x = c.args.index.now in
    c.if-meets_items.true ∙ sym (live_any s x ∙ elim c.if-meets_single.branch [
      | then-meets_single w ↦ first_true _ _ _ (sym c.meets_single.ensures ∙ w.if-meets_single.true)
      | else-meets_single w ↦ second_true _ _ _ (sym c.meets_single.ensures ∙ w.if-meets_single.false)
          (ap (list_any (λ (t : Tile). meets s (tile_place t).span)) (sym w.deref.ensures.value) ∙ (sym w.meets_items.ensures ∙ (sym w.value-is ∙ c.if-meets_items.true)))
    ])

pub returns-else-meets_items : goal.returns-else-meets_items
returns-else-meets_items c =
    let s = span_of c.args.span.now in
    let x = c.args.index.now in
    elim c.if-meets_single.branch [
      | then-meets_single w ↦ absurd (let clash : true ≡ false = sym w.if-meets_single.true ∙ (sym w.value-is ∙ c.if-meets_items.false) in cc (clash))
      | else-meets_single w ↦ c.meets_items-else-meets_items.ensures ∙ (ap (list_any (λ (a : AttItem). meets s (att_item_place a).span)) c.deref-else-meets_items.ensures.value
          ∙ sym (live_any s x ∙ third _ _ _ (sym c.meets_single.ensures ∙ w.if-meets_single.false)
          (ap (list_any (λ (t : Tile). meets s (tile_place t).span)) (sym w.deref.ensures.value) ∙ (sym w.meets_items.ensures ∙ (sym w.value-is ∙ c.if-meets_items.false)))))
    ]
