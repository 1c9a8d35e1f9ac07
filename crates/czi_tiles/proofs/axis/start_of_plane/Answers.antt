use Rattle.std.proofs.Common.{◌≡◌, ◌∙◌, ◌<◌, Some, ℕ, ℤ, pos, List, [], length, get_or, map, FitsSigned, w32, sym, subst, ap, rules, arith}
use Rattle.std.specs.Cmp.Lexicographic.{same_text}
use Rattle.std.proofs.lemmas.Int.{to_z-of_z}
use Rattle.std.proofs.lemmas.List.{get_or-map, length-map}
use Rattle.czi_format.specs.Key.{Axis}
use Rattle.czi_doc.specs.Items.{item_of}
use Rattle.czi_doc.specs.QueryView.{plane_of, items_of}
use Rattle.czi_tiles.specs.Cells.{start_in}
use Rattle.czi_tiles.proofs.Axes.{planes_start}
use Rattle.czi_tiles.proofs.axis.start_of_plane.Goals as goal

pub returns-then-eq : goal.returns-then-eq
returns-then-eq c = λ dims there.
    let f : FitsSigned w32 (get_or c.list-items.result.now c.loop-item.item-index ([], pos 0)).1 = search rules in
    let name : (get_or c.list-items.result.now c.loop-item.item-index ([], pos 0)).0 ≡ c.args.axis = same_text _ _ (sym c.if-eq.true ∙ c.eq.ensures) in
    let low : c.loop-item.item-index < length (plane_of c.args.plane.now) = omega (arith, c.loop-item-test.true, ap length c.list-items.ensures, length-map (items_of c.args.plane.now) item_of) in
    let a : Axis = item_of (get_or c.list-items.result.now c.loop-item.item-index ([], pos 0)) in
    let is : a ≡ get_or (plane_of c.args.plane.now) c.loop-item.item-index a =
    sym (get_or-map item_of c.list-items.result.now c.loop-item.item-index ([], pos 0) a c.loop-item-test.true) ∙ ap (λ (l : List (List ℕ × ℤ)). get_or (map item_of l) c.loop-item.item-index a) c.list-items.ensures in
    simp to_z-of_z (subst (λ n. start_in n dims ≡ Some a.start) name (planes_start (plane_of c.args.plane.now) dims c.loop-item.item-index a low is there))
