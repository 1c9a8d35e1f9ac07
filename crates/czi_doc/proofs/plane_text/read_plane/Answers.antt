use Rattle.std.proofs.Common.{◌≡◌, ◌∙◌, ◌++◌, ◌∷◌, [], ℕ, List, length, map, refl, sym, ap, subst, arith}
use Rattle.std.proofs.lemmas.Bool.{eqb-true}
use Rattle.std.proofs.lemmas.List.{map-append}
use Rattle.czi_format.specs.Key.{Axis}
use Rattle.czi_doc.specs.Items.{item_of}
use Rattle.czi_doc.proofs.PlaneItems.{Ended, Midway, begun, on_comma, on_end, told, told_only, no_item, no_comma, no_rest}
use Rattle.czi_doc.proofs.plane_text.read_plane.Goals as goal
use Rattle.czi_doc.proofs.plane_text.read_plane.Goals.{After-new}

pub loop-init : goal.loop-init
loop-init c = record { midway = rw c.new-items.ensures.items (begun c.args.text.now); inside = omega arith }

pub returns-in_default-clause-only : goal.returns-in_default-clause-only
returns-in_default-clause-only c = λ axes is. no_item c.args.text.now c.loop.rest.now (map item_of c.loop.items.items) c.in_default.field-0 axes c.loop.invariant.midway (sym c.in_default.ensures.read) is.items is.fits

no_bytes : (bytes : List ℕ) → length bytes ≡ 0 → bytes ≡ []
no_bytes [] e = refl
no_bytes (b ∷ bytes) e = absurd (omega (arith, e))

ended : (c : After-new) → Ended c.args.text.now (map item_of c.push.new.self.items)
ended c =
    let behind : c.in-Ok.behind.now ≡ [] = no_bytes c.in-Ok.behind.now (eqb-true _ _ (sym c.is_empty.ensures ∙ c.if-is_empty.true)) in
    let all : map item_of c.push.new.self.items ≡ map item_of c.loop.items.items ++ item_of c.in-Ok.item ∷ [] = ap (map item_of) c.in_ok-push.ensures.items ∙ map-append item_of c.loop.items.items (c.in-Ok.item ∷ []) in
    subst (λ (l : List Axis). Ended c.args.text.now l) (sym all)
    (on_end c.args.text.now c.loop.rest.now c.in-Ok.behind.now (map item_of c.loop.items.items) (item_of c.in-Ok.item) c.loop.invariant.midway (sym c.in-Ok.ensures.read) behind)

pub returns-then-is_empty-clause-found : goal.returns-then-is_empty-clause-found
returns-then-is_empty-clause-found c = told c.args.text.now c.new.result c.push.new.self.items (ended c) c.new.ensures.plane c.new.ensures.same

pub returns-then-is_empty-clause-only : goal.returns-then-is_empty-clause-only
returns-then-is_empty-clause-only c = told_only c.args.text.now c.new.result c.push.new.self.items (ended c) c.new.ensures.plane c.new.ensures.same

pub returns-then-not-begins_with-clause-only : goal.returns-then-not-begins_with-clause-only
returns-then-not-begins_with-clause-only c = λ axes is.
    no_comma c.args.text.now c.loop.rest.now c.in-Ok.behind.now (map item_of c.loop.items.items) (item_of c.in-Ok.item) axes c.loop.invariant.midway (sym c.in-Ok.ensures.read)
    (sym c.is_empty.ensures ∙ c.if-is_empty.false) (sym c.begins_with.ensures ∙ c.if-not-begins_with.true) is.items is.fits

pub loop-preserved : goal.loop-preserved
loop-preserved c =
    let all : map item_of c.push.new.self.items ≡ map item_of c.loop.items.items ++ item_of c.in-Ok.item ∷ [] = ap (map item_of) c.in_ok-push.ensures.items ∙ map-append item_of c.loop.items.items (c.in-Ok.item ∷ []) in
    record {
      midway = subst (λ (l : List Axis). Midway c.args.text.now c.split_at.result.1.now l) (sym all) (rw c.split_at.ensures.back
          (on_comma c.args.text.now c.loop.rest.now c.in-Ok.behind.now (map item_of c.loop.items.items) (item_of c.in-Ok.item) c.loop.invariant.midway (sym c.in-Ok.ensures.read) (sym c.begins_with.ensures ∙ c.if-not-begins_with.false)));
      inside = omega (arith, c.split_at.ensures.back_len, c.in-Ok.ensures.left, c.loop.invariant.inside);
    }

pub returns-clause-only : goal.returns-clause-only
returns-clause-only c = λ axes is. no_rest c.args.text.now c.loop.rest.now (map item_of c.loop.items.items) axes c.loop.invariant.midway (omega (arith, c.loop.invariant.inside, c.loop-test.false)) is.items is.fits
