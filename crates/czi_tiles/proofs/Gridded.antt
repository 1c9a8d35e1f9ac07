-- The chosen tiles are among those that a grid finds.
use Rattle.std.proofs.Common.{◌≡◌, ℕ, zero, suc, ◌+◌, ◌/◌, ◌^◌, ◌<◌, ◌≤◌, ℤ, pos, ◌+ℤ◌, ◌-ℤ◌, ◌≤ℤ◌, ◌<ℤ◌, List, [], length, get_or, Option, None, Some, Bool, true, false, ◌&&◌, ◌||◌, nat_lt, refl, ap, sym, subst, ◌∙◌, arith, inl, inr}
use Rattle.std.specs.Option.{is_some, unwrap_or}
use Rattle.std.specs.List.{All, Contains, list_any, range_with_len}
use Rattle.std.specs.List.Sorted.{IsPermutation, IsNonDecreasing}
use Rattle.std.proofs.lemmas.Bool.{cases_Bool, cases_lt, and_parts}
use Rattle.std.proofs.lemmas.Bool.Decides.{nat_tests}
use Rattle.std.proofs.lemmas.Int.{ints}
use Rattle.std.proofs.lemmas.List.{get_or_default}
use Rattle.std.proofs.lemmas.List.Sorted.{All-permutation, Contains-permutation}
use Rattle.czi_format.specs.Entry.{Dim}
use Rattle.czi_format.specs.Text.{stored_size}
use Rattle.czi_format.specs.Partial.{◌>>=◌, natural, given}
use Rattle.czi_format.proofs.Readings.{bind_some, given_some, both_true, natural_some}
use Rattle.czi_image.specs.declared.types.Tile.{Tile}
use Rattle.czi_format.specs.Painting.{Query, first_x, first_y, stored_pixel, stored_at, point, meets_one, in_plane, in_scene, in_layer, in_both, belongs, is_chosen}
use Rattle.czi_tiles.specs.declared.cell.Cell.{Cell}
use Rattle.czi_tiles.specs.declared.grid.TileGrid.{TileGrid}
use Rattle.czi_tiles.specs.Chosen.{tile_dims}
use Rattle.czi_tiles.specs.Cells.{cell_of, cell_at, key, sheet_of, start_in, Covers, IsIndexed, AddsAll, AddsKeys, AddsMet, AddsTile}
use Rattle.czi_tiles.specs.Grid.{HasTiles, IsGrid, IsCandidates}
use Rattle.czi_tiles.proofs.Celled.{still_indexed}

any_where : (p : ℕ → Bool) (a n : ℕ) → list_any p (range_with_len a n) ≡ true → (i : ℕ) × (i < a + n) × (p i ≡ true)
any_where p a zero e = absurd (let clash : false ≡ true = e in cc)
any_where p a (suc n) e = elim (cases_Bool (p a)) [
  | inl here ↦ (a, omega arith, here)
  | inr not_here ↦
      let rest = any_where p (a + 1) n (sym (ap (λ b. b || list_any p (range_with_len (a + 1) n)) not_here) ∙ e) in
      (rest.0, omega (arith, rest.1), rest.2)
]

some_of : {X : Type 0} (o : Option X) → is_some o ≡ true → (x : X) × (o ≡ Some x)
some_of None e = absurd (let clash : false ≡ true = e in cc)
some_of (Some x) e = (x, refl)

-- where a stored pixel is shown, the dimension covers the point
shown_covers : (m : ℕ) (start size stored p : ℤ) (u : ℕ) → stored_pixel m start size stored p ≡ Some u → (start ≤ℤ p) × (p <ℤ (start +ℤ size))
shown_covers m start size stored p u e =
    let k = bind_some (natural (p -ℤ start)) (λ k. natural size >>= λ n. natural stored >>= λ u. given (nat_lt k n && nat_lt (k / m) u) (k / m)) u e in
    let n = bind_some (natural size) (λ n. natural stored >>= λ u. given (nat_lt k.0 n && nat_lt (k.0 / m) u) (k.0 / m)) u k.2 in
    let s = bind_some (natural stored) (λ u. given (nat_lt k.0 n.0 && nat_lt (k.0 / m) u) (k.0 / m)) u n.2 in
    let test = both_true (nat_lt k.0 n.0) (nat_lt (k.0 / m) s.0) (given_some (nat_lt k.0 n.0 && nat_lt (k.0 / m) s.0) (k.0 / m) u s.2).0 in
    let gap : p -ℤ start ≡ pos k.0 = natural_some (p -ℤ start) k.0 k.1 in
    let wide : size ≡ pos n.0 = natural_some size n.0 n.1 in
    let low : nat_lt k.0 n.0 ≡ true = test.0 in
    let less : k.0 < n.0 = grind (arith, nat_tests) in
    (omega (arith, ints, gap), omega (arith, ints, gap, wide, less))

covers_there : (m : ℕ) (d : Dim) (p : ℤ) → is_some (stored_at m d p) ≡ true → Covers d p
covers_there m d p e =
    let u = some_of (stored_at m d p) e in
    let c = shown_covers m d.start d.size (stored_size d) p u.0 u.1 in
    record { from = c.0; to = c.1 }

-- a point of the region that a dimension covers
met_at : (m : ℕ) (d : Dim) (from : ℤ) (n : ℕ) → meets_one m d from n ≡ true → (i : ℕ) × (i < n) × Covers d (point from m i)
met_at m d from n e =
    let i = any_where (λ i. is_some (stored_at m d (point from m i))) 0 n e in
    (i.0, omega (arith, i.1), covers_there m d (point from m i.0) i.2)

-- a chosen tile has X and Y, and covers a point of the region
pub record Chosen (q : Query) (dims : List Dim) : Type 0 where
  pub x : Dim
  pub y : Dim
  pub is_x : first_x dims ≡ Some x
  pub is_y : first_y dims ≡ Some y
  pub i : ℕ
  pub j : ℕ
  pub low : i < q.w
  pub below : j < q.h
  pub on_x : Covers x (point q.x q.layer i)
  pub on_y : Covers y (point q.y q.layer j)

chosen_in : (q : Query) (dims : List Dim) (ox oy : Option Dim) → first_x dims ≡ ox → first_y dims ≡ oy
    → unwrap_or (ox >>= λ x. oy >>= λ y. Some (meets_one q.layer x q.x q.w && meets_one q.layer y q.y q.h)) false ≡ true → Chosen q dims
chosen_in q dims None oy is_x is_y e = absurd (let clash : false ≡ true = e in cc)
chosen_in q dims (Some x) None is_x is_y e = absurd (let clash : false ≡ true = e in cc)
chosen_in q dims (Some x) (Some y) is_x is_y e =
    let parts = and_parts (meets_one q.layer x q.x q.w) (meets_one q.layer y q.y q.h) e in
    let i = met_at q.layer x q.x q.w parts.0 in
    let j = met_at q.layer y q.y q.h parts.1 in
    record { x = x; y = y; is_x = is_x; is_y = is_y; i = i.0; j = j.0; low = i.1; below = j.1; on_x = i.2; on_y = j.2 }

is_met : (q : Query) (dims : List Dim) → is_chosen q dims ≡ true → Chosen q dims
is_met q dims e = chosen_in q dims (first_x dims) (first_y dims) refl refl (and_parts (belongs q dims) (in_both dims (λ x y. meets_one q.layer x q.x q.w && meets_one q.layer y q.y q.h)) e).1

-- the cells of a region, of a level
abbrev pub Meets : ℕ → ℤ → ℕ → ℕ → ℕ → ℕ → Type 0
Meets level from m n first last = (i : ℕ) → i < n → cell_of level (point from m i) < 2 ^ 21 → (first ≤ cell_of level (point from m i)) × (cell_of level (point from m i) ≤ last)

-- the places of the cells that are met
pub met_there : (q : Query) (cells : List Cell) (level sheet top bottom first last : ℕ) (old new : List ℕ) → Meets level q.x q.layer q.w first last → Meets level q.y q.layer q.h top bottom
    → AddsAll cells sheet top bottom first last old new → AddsMet q cells level sheet old new
met_there q cells level sheet top bottom first last old new columns rows adds = record {
  adds = adds.adds;
  there = λ i j place low below low_row low_column has.
      let column = columns i low low_column in
      let row = rows j below low_row in
      adds.there (cell_of level (point q.y q.layer j)) (cell_at sheet (cell_of level (point q.y q.layer j)) (cell_of level (point q.x q.layer i)) place) row.0 row.1 has (omega (arith, column.0)) (omega (arith, column.1));
}

-- the places of the cells that are met, of the first n levels and with keys from a first to a last one
pub record AddsLevels (q : Query) (cells : List Cell) (first last n : ℕ) (places : List ℕ) : Type 0 where
  pub bound : (m : ℕ) → All (λ c. c.place < m) cells → All (λ k. k < m) places
  pub there : (level k i j place : ℕ) → level < n → first ≤ k → k ≤ last → i < q.w → j < q.h → cell_of level (point q.y q.layer j) < 2 ^ 21 → cell_of level (point q.x q.layer i) < 2 ^ 21
      → Contains cells (cell_at (sheet_of level k) (cell_of level (point q.y q.layer j)) (cell_of level (point q.x q.layer i)) place) → Contains places place

pub no_levels : (q : Query) (cells : List Cell) (first last : ℕ) → AddsLevels q cells first last 0 []
no_levels q cells first last = record {
  bound = λ m all i d low. absurd (omega (arith, low));
  there = λ level k i j place none from to low below low_row low_column has. absurd (omega (arith, none));
}

pub more_levels : (q : Query) (cells : List Cell) (first last n : ℕ) (old new : List ℕ) → AddsLevels q cells first last n old → AddsKeys q cells n first last old new → AddsLevels q cells first last (n + 1) new
more_levels q cells first last n old new was more = record {
  bound = λ m all. more.adds.bound m all (was.bound m all);
  there = λ level k i j place up from to low below low_row low_column has. elim (cases_lt level n) [
    | inl before ↦ more.adds.keeps place (was.there level k i j place before from to low below low_row low_column has)
    | inr at ↦
        let same : level ≡ n = omega (arith, at, up) in
        more.there k i j place from to low below (subst (λ l. cell_of l (point q.y q.layer j) < 2 ^ 21) same low_row) (subst (λ l. cell_of l (point q.x q.layer i) < 2 ^ 21) same low_column)
        (subst (λ l. Contains cells (cell_at (sheet_of l k) (cell_of l (point q.y q.layer j)) (cell_of l (point q.x q.layer i)) place)) same has)
  ];
}

-- the places that are found
pub candidates : (q : Query) (tiles : List Tile) (g : TileGrid) (first last : ℕ) (places sorted : List ℕ) → IsGrid tiles g
    → ((dims : List Dim) → in_plane q.plane dims ≡ true → (first ≤ key (start_in g.axis dims)) × (key (start_in g.axis dims) ≤ last))
    → AddsLevels q g.cells.items first last 5 places → IsPermutation places sorted → IsNonDecreasing sorted → IsCandidates q tiles sorted
candidates q tiles g first last places sorted grid keys adds moved up = record {
  there = All-permutation (λ k. k < length tiles) places sorted moved (adds.bound (length tiles) grid.there);
  rising = up;
  all = λ k t low is passes.
      let c = is_met q (tile_dims t) passes in
      let there : belongs q (tile_dims t) ≡ true = (and_parts (belongs q (tile_dims t)) (in_both (tile_dims t) (λ x y. meets_one q.layer x q.x q.w && meets_one q.layer y q.y q.h)) passes).0 in
      let plane : in_plane q.plane (tile_dims t) ≡ true = (and_parts (in_plane q.plane (tile_dims t)) (in_scene q.scene (tile_dims t) && in_both (tile_dims t) (in_layer q.layer)) there).0 in
      let one = keys (tile_dims t) plane in
      let stands = grid.each k t low is c.x c.y c.is_x c.is_y (point q.x q.layer c.i) (point q.y q.layer c.j) c.on_x c.on_y in
      Contains-permutation places sorted k moved (adds.there stands.0 (key (start_in g.axis (tile_dims t))) c.i c.j k (omega (arith, stands.1)) one.0 one.1 c.low c.below stands.2 stands.3 stands.4);
}

-- one tile more
pub more_tiles : (axis : List ℕ) (tiles : List Tile) (i : ℕ) (cells more : List Cell) (t : Tile) → i < length tiles → t ≡ get_or tiles i t → HasTiles axis tiles i cells
    → AddsTile axis (tile_dims t) i cells more → HasTiles axis tiles (i + 1) more
more_tiles axis tiles i cells more t low is has adds = record {
  there = adds.bound (length tiles) low has.there;
  each = λ k s less this. elim (cases_lt k i) [
    | inl before ↦ still_indexed axis cells more k (tile_dims s) adds.keeps (has.each k s before this)
    | inr at ↦
        let same : i ≡ k = omega (arith, at, less) in
        let one : t ≡ s = is ∙ (get_or_default tiles i t s low ∙ (ap (λ n. get_or tiles n s) same ∙ sym this)) in
        subst (λ (d : Tile). IsIndexed axis more k (tile_dims d)) one (subst (λ n. IsIndexed axis more n (tile_dims t)) same adds.indexed)
  ];
}

-- cells in another order
pub moved_cells : (axis : List ℕ) (tiles : List Tile) (n : ℕ) (cells sorted : List Cell) → IsPermutation cells sorted → HasTiles axis tiles n cells → HasTiles axis tiles n sorted
moved_cells axis tiles n cells sorted moved has = record {
  there = All-permutation (λ (c : Cell). c.place < length tiles) cells sorted moved has.there;
  each = λ k t low is. still_indexed axis cells sorted k (tile_dims t) (λ x h. Contains-permutation cells sorted x moved h) (has.each k t low is);
}
