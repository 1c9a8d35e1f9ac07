-- Tiles in cells.
use Rattle.std.proofs.Common.{◌≡◌, ℕ, ◌^◌, ◌<◌, ◌≤◌, ℤ, pos, ◌+ℤ◌, ◌≤ℤ◌, ◌<ℤ◌, List, [], ◌∷◌, ◌++◌, Option, None, Some, sym, subst, ◌∙◌, arith}
use Rattle.std.specs.List.{All, Contains}
use Rattle.std.proofs.lemmas.Int.{ints}
use Rattle.std.proofs.lemmas.List.Elements.{Contains-append_left, Contains-push, All-push}
use Rattle.czi_format.specs.Entry.{Dim}
use Rattle.czi_format.specs.Painting.{first_x, first_y}
use Rattle.czi_tiles.specs.declared.cell.Cell.{Cell}
use Rattle.czi_tiles.specs.Cells.{cell_of, cell_at, key, sheet_of, start_in, Covers, IsIndexed, Keeps}

-- an element more
pub kept : {X : Type 0} (xs zs : List X) (y : X) → zs ≡ xs ++ y ∷ [] → Keeps xs zs
kept xs zs y e x h = subst (λ l. Contains l x) (sym e) (Contains-append_left xs (y ∷ []) x h)

pub added : {X : Type 0} (xs zs : List X) (y : X) → zs ≡ xs ++ y ∷ [] → Contains zs y
added xs zs y e = subst (λ l. Contains l y) (sym e) (Contains-push xs y)

pub all_more : {X : Type 0} (P : X → Type 0) (xs zs : List X) (y : X) → zs ≡ xs ++ y ∷ [] → All P xs → P y → All P zs
all_more P xs zs y e all one = subst (λ l. All P l) (sym e) (All-push P xs y all one)

-- nothing is covered where X or Y is missing or has no size
pub no_x : (axis : List ℕ) (cells : List Cell) (place : ℕ) (dims : List Dim) → first_x dims ≡ None → IsIndexed axis cells place dims
no_x axis cells place dims none x y is_x is_y px py cx cy = absurd (let clash : (let o : Option Dim = None in o) ≡ Some x = sym none ∙ is_x in cc)

pub no_y : (axis : List ℕ) (cells : List Cell) (place : ℕ) (dims : List Dim) → first_y dims ≡ None → IsIndexed axis cells place dims
no_y axis cells place dims none x y is_x is_y px py cx cy = absurd (let clash : (let o : Option Dim = None in o) ≡ Some y = sym none ∙ is_y in cc)

uncovered : (d : Dim) (p : ℤ) → d.size ≤ℤ pos 0 → Covers d p → ⊥
uncovered d p none c = let from : d.start ≤ℤ p = c.from in let to : p <ℤ (d.start +ℤ d.size) = c.to in omega (arith, ints, none, from, to)

same_dim : (o : Option Dim) (d e : Dim) → o ≡ Some d → o ≡ Some e → d ≡ e
same_dim o d e p q = let both : (let o : Option Dim = Some d in o) ≡ Some e = sym p ∙ q in cc

pub flat_x : (axis : List ℕ) (cells : List Cell) (place : ℕ) (dims : List Dim) (d : Dim) → first_x dims ≡ Some d → d.size ≤ℤ pos 0 → IsIndexed axis cells place dims
flat_x axis cells place dims d is none x y is_x is_y px py cx cy = absurd (uncovered d px none (subst (λ (d : Dim). Covers d px) (same_dim (first_x dims) x d is_x is) cx))

pub flat_y : (axis : List ℕ) (cells : List Cell) (place : ℕ) (dims : List Dim) (d : Dim) → first_y dims ≡ Some d → d.size ≤ℤ pos 0 → IsIndexed axis cells place dims
flat_y axis cells place dims d is none x y is_x is_y px py cx cy = absurd (uncovered d py none (subst (λ (d : Dim). Covers d py) (same_dim (first_y dims) y d is_y is) cy))

-- a tile that stands in the cells of its rows and columns
pub in_cells : (axis : List ℕ) (cells : List Cell) (place : ℕ) (dims : List Dim) (dx dy : Dim) (level top bottom first last : ℕ) → first_x dims ≡ Some dx → first_y dims ≡ Some dy → level ≤ 4 → bottom < 2 ^ 21 → last < 2 ^ 21
    → ((p : ℤ) → dx.start ≤ℤ p → p <ℤ (dx.start +ℤ dx.size) → (first ≤ cell_of level p) × (cell_of level p ≤ last))
    → ((p : ℤ) → dy.start ≤ℤ p → p <ℤ (dy.start +ℤ dy.size) → (top ≤ cell_of level p) × (cell_of level p ≤ bottom))
    → ((row column : ℕ) → top ≤ row → row ≤ bottom → first ≤ column → column ≤ last → Contains cells (cell_at (sheet_of level (key (start_in axis dims))) row column place)) → IsIndexed axis cells place dims
in_cells axis cells place dims dx dy level top bottom first last is_dx is_dy low low_row low_column columns rows there x y is_x is_y px py cx cy =
    let on_x : Covers dx px = subst (λ (d : Dim). Covers d px) (same_dim (first_x dims) x dx is_x is_dx) cx in
    let on_y : Covers dy py = subst (λ (d : Dim). Covers d py) (same_dim (first_y dims) y dy is_y is_dy) cy in
    let c = columns px on_x.from on_x.to in
    let r = rows py on_y.from on_y.to in
    (level, low, omega (arith, r.1, low_row), omega (arith, c.1, low_column), there (cell_of level py) (cell_of level px) r.0 r.1 c.0 c.1)

-- more cells
pub still_indexed : (axis : List ℕ) (cells more : List Cell) (place : ℕ) (dims : List Dim) → Keeps cells more → IsIndexed axis cells place dims → IsIndexed axis more place dims
still_indexed axis cells more place dims keeps is x y is_x is_y px py cx cy =
    let i = is x y is_x is_y px py cx cy in
    (i.0, i.1, i.2, i.3, keeps (cell_at (sheet_of i.0 (key (start_in axis dims))) (cell_of i.0 py) (cell_of i.0 px) place) i.4)
