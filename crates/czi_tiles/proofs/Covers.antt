-- What a tile covers of a region, by the windows of its X and Y.
use Rattle.std.proofs.Common.{◌≡◌, ℕ, zero, suc, ◌+◌, ◌*◌, ◌-◌, ◌<◌, ◌≤◌, ℤ, pos, ◌≤ℤ◌, List, Bool, true, false, ◌&&◌, ◌||◌, nat_le, nat_lt, Option, Some, refl, ap, sym, ◌∙◌, arith, inl, inr}
use Rattle.std.specs.Option.{unwrap_or, is_some}
use Rattle.std.specs.List.{list_any, range_with_len}
use Rattle.std.proofs.lemmas.Bool.{cases_lt}
use Rattle.std.proofs.lemmas.Bool.Decides.{nat_tests}
use Rattle.std.proofs.lemmas.Int.{ints}
use Rattle.czi_format.specs.Bytes.{bytes_at}
use Rattle.czi_format.specs.Partial.{◌>>=◌, natural}
use Rattle.czi_format.specs.Entry.{Dim}
use Rattle.czi_format.specs.Text.{stored_size}
use Rattle.czi_tiles.specs.declared.window.Window.{Window}
use Rattle.czi_format.specs.Painting.{Query, first_x, first_y, stored_at, point, in_plane, in_scene, in_layer, in_both, belongs, meets_one, is_chosen}
use Rattle.czi_tiles.proofs.Windows.{given_false, inside}
use Rattle.czi_tiles.specs.declared.covering.Covering.{Covering}
use Rattle.czi_tiles.specs.Covered.{seen_through, IsWindow, IsCovering}

any_at : (p : ℕ → Bool) (a n i : ℕ) → p i ≡ true → a ≤ i → i < a + n → list_any p (range_with_len a n) ≡ true
any_at p a zero i t low high = absurd (omega arith)
any_at p a (suc n) i t low high = elim (cases_lt a i) [
  | inl less ↦ ap (λ b. p a || b) (any_at p (a + 1) n i t (omega arith) (omega arith)) ∙ late (p a)
  | inr more ↦ let same : i ≡ a = omega arith in ap (λ b. b || list_any p (range_with_len (a + 1) n)) (ap p (sym same) ∙ t)
]
  where
    late : (b : Bool) → (b || true) ≡ true
    late true = refl
    late false = refl

any_nowhere : (p : ℕ → Bool) (a n : ℕ) → ((i : ℕ) → a ≤ i → i < a + n → p i ≡ false) → list_any p (range_with_len a n) ≡ false
any_nowhere p a zero none = refl
any_nowhere p a (suc n) none =
    ap (λ b. b || list_any p (range_with_len (a + 1) n)) (none a (omega arith) (omega arith)) ∙ any_nowhere p (a + 1) n (λ i low high. none i (omega arith) (omega arith))

-- a dimension covers one of the points where its window has a pixel
pub met : (m : ℕ) (d : Dim) (from : ℤ) (n : ℕ) (w : Window) → IsWindow m d from n w → 1 ≤ w.count → meets_one m d from n ≡ true
met m d from n w is some =
    let first : w.first < n = omega (arith, is.inside) in
    let e : seen_through w w.first ≡ Some (w.from + (w.first - w.first)) = inside w.first w.count w.from w.first (omega arith) (omega arith) in
    any_at (λ i. is_some (stored_at m d (point from m i))) 0 n w.first (ap is_some (is.shows w.first first ∙ e)) (omega arith) (omega (arith, first))

pub unmet : (m : ℕ) (d : Dim) (from : ℤ) (n : ℕ) (w : Window) → IsWindow m d from n w → w.count ≡ 0 → meets_one m d from n ≡ false
unmet m d from n w is none = any_nowhere (λ i. is_some (stored_at m d (point from m i))) 0 n (λ i low high.
    let here : i < n = omega (arith, high) in
    ap is_some (is.shows i here ∙ given_false (nat_le w.first i && nat_lt i (w.first + w.count)) (w.from + (i - w.first)) (grind (arith, nat_tests))))

-- which tiles are chosen, of those in the plane, the scene and the layer
pub chosen_by : (q : Query) (dims : List Dim) (x y : Dim) → in_plane q.plane dims ≡ true → in_scene q.scene dims ≡ true → first_x dims ≡ Some x → first_y dims ≡ Some y
    → in_layer q.layer x y ≡ true → is_chosen q dims ≡ (meets_one q.layer x q.x q.w && meets_one q.layer y q.y q.h)
chosen_by q dims x y plane scene is_x is_y layer =
    let both : (p : Dim → Dim → Bool) → in_both dims p ≡ p x y = λ p.
    ap (λ (o : Option Dim). unwrap_or (o >>= λ x. first_y dims >>= λ y. Some (p x y)) false) is_x ∙ ap (λ (o : Option Dim). unwrap_or (o >>= λ y. Some (p x y)) false) is_y in
    let there : belongs q dims ≡ true = ap (λ b. b && (in_scene q.scene dims && in_both dims (in_layer q.layer))) plane
    ∙ (ap (λ b. b && in_both dims (in_layer q.layer)) scene ∙ (both (in_layer q.layer) ∙ layer)) in
    ap (λ b. b && in_both dims (λ x y. meets_one q.layer x q.x q.w && meets_one q.layer y q.y q.h)) there ∙ both (λ x y. meets_one q.layer x q.x q.w && meets_one q.layer y q.y q.h)

-- what a chosen tile covers
pub covers : (q : Query) (dims : List Dim) (x y : Dim) (c : Covering) → first_x dims ≡ Some x → first_y dims ≡ Some y → IsWindow q.layer x q.x q.w c.columns → IsWindow q.layer y q.y q.h c.rows
    → 1 ≤ c.columns.count → 1 ≤ c.rows.count → stored_size x ≡ pos c.width → stored_size y ≡ pos c.height → IsCovering q dims c
covers q dims x y c is_x is_y columns rows wide high width height = record {
  shows = λ pixels i j low below.
      let px : ℤ = point q.x q.layer i in
      let py : ℤ = point q.y q.layer j in
      let bytes : ℕ → ℕ → ℕ → Option (List ℕ) = λ w u v. Some (bytes_at pixels ((v * w + u) * q.pixel.size) q.pixel.size) in
      ap (λ (o : Option Dim). o >>= λ x. first_y dims >>= λ y. natural (stored_size x) >>= λ w. stored_at q.layer x px >>= λ u. stored_at q.layer y py >>= λ v. Some (bytes_at pixels ((v * w + u) * q.pixel.size) q.pixel.size)) is_x
      ∙ (ap (λ (o : Option Dim). o >>= λ y. natural (stored_size x) >>= λ w. stored_at q.layer x px >>= λ u. stored_at q.layer y py >>= λ v. Some (bytes_at pixels ((v * w + u) * q.pixel.size) q.pixel.size)) is_y
      ∙ (ap (λ (z : ℤ). natural z >>= λ w. stored_at q.layer x px >>= λ u. stored_at q.layer y py >>= λ v. Some (bytes_at pixels ((v * w + u) * q.pixel.size) q.pixel.size)) width
      ∙ (ap (λ (o : Option ℕ). o >>= λ u. stored_at q.layer y py >>= λ v. Some (bytes_at pixels ((v * c.width + u) * q.pixel.size) q.pixel.size)) (columns.shows i low)
      ∙ ap (λ (o : Option ℕ). seen_through c.columns i >>= λ u. o >>= λ v. Some (bytes_at pixels ((v * c.width + u) * q.pixel.size) q.pixel.size)) (rows.shows j below))));
  columns = columns.inside;
  rows = rows.inside;
  across = let h : pos (c.columns.from + c.columns.count) ≤ℤ stored_size x = columns.stored wide in omega (arith, ints, h, width);
  down = let h : pos (c.rows.from + c.rows.count) ≤ℤ stored_size y = rows.stored high in omega (arith, ints, h, height);
  x = x;
  y = y;
  first_x = is_x;
  first_y = is_y;
  width = width;
  height = height;
}
