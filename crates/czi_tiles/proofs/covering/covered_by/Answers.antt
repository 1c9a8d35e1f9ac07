use Rattle.std.proofs.Common.{◌≡◌, ◌∙◌, ℕ, ℤ, pos, ◌≤◌, ◌≤ℤ◌, ◌+◌, ◌&&◌, Bool, true, false, map, FitsSigned, w32, refl, sym, ap, rules, arith}
use Rattle.std.specs.Int.RustNames.{unsigned_abs}
use Rattle.std.proofs.lemmas.Int.{ints, to_z-of_z}
use Rattle.czi_doc.specs.View.{dim_of}
use Rattle.czi_tiles.specs.declared.window.Window.{Window}
use Rattle.czi_format.specs.Painting.{Query, meets_one}
use Rattle.czi_doc.specs.QueryView.{query_of}
use Rattle.czi_tiles.specs.Covered.{IsWindow}
use Rattle.czi_tiles.proofs.Covers.{met, unmet, chosen_by, covers}
use Rattle.czi_tiles.proofs.covering.covered_by.Goals as goal
use Rattle.czi_tiles.proofs.covering.covered_by.Goals.{then-columns-eq0-via-then-columns-eq0, then-columns-eq0-via-else-columns-eq0+then-rows-eq0}

late : (b : Bool) → (b && false) ≡ false
late true = refl
late false = refl

pub returns-then-columns-eq0-clause-chosen : goal.returns-then-columns-eq0-clause-chosen
returns-then-columns-eq0-clause-chosen c =
    let q : Query = query_of c.args.query.now in
    let fx : FitsSigned w32 c.args.query.now.x = search rules in
    let fy : FitsSigned w32 c.args.query.now.y = search rules in
    let columns : IsWindow c.args.query.now.layer (dim_of c.in_ok-x.x) c.args.query.now.x c.args.query.now.w c.window-columns.result = simp to_z-of_z at c.window-columns.ensures in
    let rows : IsWindow c.args.query.now.layer (dim_of c.in_ok-y.y) c.args.query.now.y c.args.query.now.h c.window-rows.result = simp to_z-of_z at c.window-rows.ensures in
    let chosen = chosen_by q (map dim_of c.args.dims.now) (dim_of c.in_ok-x.x) (dim_of c.in_ok-y.y) (sym c.in_plane.ensures ∙ c.if-not-in_plane.false) (sym c.in_scene.ensures ∙ c.if-not-in_scene.false)
    (sym c.in_ok-x.ensures) (sym c.in_ok-y.ensures) (sym c.in_layer.ensures ∙ c.if-not-in_layer.false) in
    sym (chosen ∙ elim c.then-columns-eq0.branch [
      | then-columns-eq0-via-then-columns-eq0 w ↦
          ap (λ b. b && meets_one q.layer (dim_of c.in_ok-y.y) q.y q.h) (unmet q.layer (dim_of c.in_ok-x.x) q.x q.w c.window-columns.result columns w.if-columns-eq0.true)
      | then-columns-eq0-via-else-columns-eq0+then-rows-eq0 w ↦
          ap (λ b. meets_one q.layer (dim_of c.in_ok-x.x) q.x q.w && b) (unmet q.layer (dim_of c.in_ok-y.y) q.y q.h c.window-rows.result rows w.if-rows-eq0.true) ∙ late (meets_one q.layer (dim_of c.in_ok-x.x) q.x q.w)
    ])

-- a size that isn't 0 and not negative
abbrev IsSize : ℤ → Type 0
IsSize z = pos 1 ≤ℤ z

size : (w : Window) (z s : ℤ) → (1 ≤ w.count → pos (w.from + w.count) ≤ℤ z) → 1 ≤ w.count → s ≡ z → IsSize s
size w z s stored some is = let h : pos (w.from + w.count) ≤ℤ z = stored some in let e : s ≡ z = is in omega (arith, ints, h, e, some)

magnitude : (z : ℤ) (n : ℕ) → IsSize z → n ≡ unsigned_abs z → z ≡ pos n
magnitude z n some is = let e : n ≡ unsigned_abs z = is in omega (arith, ints, e, some)

pub returns-clause-chosen : goal.returns-clause-chosen
returns-clause-chosen c =
    let q : Query = query_of c.args.query.now in
    let fx : FitsSigned w32 c.args.query.now.x = search rules in
    let fy : FitsSigned w32 c.args.query.now.y = search rules in
    let columns : IsWindow c.args.query.now.layer (dim_of c.in_ok-x.x) c.args.query.now.x c.args.query.now.w c.window-columns.result = simp to_z-of_z at c.window-columns.ensures in
    let rows : IsWindow c.args.query.now.layer (dim_of c.in_ok-y.y) c.args.query.now.y c.args.query.now.h c.window-rows.result = simp to_z-of_z at c.window-rows.ensures in
    let chosen = chosen_by q (map dim_of c.args.dims.now) (dim_of c.in_ok-x.x) (dim_of c.in_ok-y.y) (sym c.in_plane.ensures ∙ c.if-not-in_plane.false) (sym c.in_scene.ensures ∙ c.if-not-in_scene.false)
    (sym c.in_ok-x.ensures) (sym c.in_ok-y.ensures) (sym c.in_layer.ensures ∙ c.if-not-in_layer.false) in
    let wide : 1 ≤ c.window-columns.result.count = omega (arith, c.if-columns-eq0.false) in
    let high : 1 ≤ c.window-rows.result.count = omega (arith, c.if-rows-eq0.false) in
    sym (chosen ∙ λ i. met q.layer (dim_of c.in_ok-x.x) q.x q.w c.window-columns.result columns wide i && met q.layer (dim_of c.in_ok-y.y) q.y q.h c.window-rows.result rows high i)

pub returns-clause-covers : goal.returns-clause-covers
returns-clause-covers c =
    let q : Query = query_of c.args.query.now in
    let fx : FitsSigned w32 c.args.query.now.x = search rules in
    let fy : FitsSigned w32 c.args.query.now.y = search rules in
    let columns : IsWindow c.args.query.now.layer (dim_of c.in_ok-x.x) c.args.query.now.x c.args.query.now.w c.window-columns.result = simp to_z-of_z at c.window-columns.ensures in
    let rows : IsWindow c.args.query.now.layer (dim_of c.in_ok-y.y) c.args.query.now.y c.args.query.now.h c.window-rows.result = simp to_z-of_z at c.window-rows.ensures in
    let wide : 1 ≤ c.window-columns.result.count = omega (arith, c.if-columns-eq0.false) in
    let high : 1 ≤ c.window-rows.result.count = omega (arith, c.if-rows-eq0.false) in
    let fits : FitsSigned w32 c.stored_size.result = search rules in
    let fits2 : FitsSigned w32 c.stored_size-2.result = search rules in
    let some : IsSize c.stored_size.result = size c.window-columns.result _ c.stored_size.result c.window-columns.ensures.stored wide c.stored_size.ensures in
    let some2 : IsSize c.stored_size-2.result = size c.window-rows.result _ c.stored_size-2.result c.window-rows.ensures.stored high c.stored_size-2.ensures in
    covers q (map dim_of c.args.dims.now) (dim_of c.in_ok-x.x) (dim_of c.in_ok-y.y) _ (sym c.in_ok-x.ensures) (sym c.in_ok-y.ensures) columns rows wide high
    (sym c.stored_size.ensures ∙ magnitude c.stored_size.result c.unsigned_abs.result some (simp to_z-of_z at c.unsigned_abs.ensures.value))
    (sym c.stored_size-2.ensures ∙ magnitude c.stored_size-2.result c.unsigned_abs-2.result some2 (simp to_z-of_z at c.unsigned_abs-2.ensures.value))
