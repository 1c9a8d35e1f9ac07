-- The tiles that places name.
use Rattle.std.proofs.Common.{◌≡◌, ℕ, zero, suc, ◌+◌, ◌<◌, List, [], ◌∷◌, ◌++◌, map, length, take, drop, get_or, Bool, true, false, cond, filter, Option, None, Some, refl, ap, sym, subst, ◌∙◌, arith}
use Rattle.std.specs.List.{AllByRecursion, enumerate_from}
use Rattle.std.specs.Option.{option_or}
use Rattle.std.proofs.lemmas.List.{get_or_default, get_or-map, length-map, drop_more, take_more}
use Rattle.std.proofs.lemmas.List.Elements.{recursion_from_All, All-from_recursion}
use Rattle.std.proofs.lemmas.List.FromFn.{get_or-enumerate_from, length-enumerate_from}
use Rattle.czi_spans.proofs.Sorting.{all_sorted}
use Rattle.czi_image.specs.declared.types.Tile.{Tile}
use Rattle.czi_format.specs.Painting.{Query, is_chosen, painted_before, painting_order, chosen}
use Rattle.czi_paint.specs.declared.patch.Patch.{Patch}
use Rattle.czi_paint.specs.declared.fault.PaintError.{PaintError}
use Rattle.czi_format.specs.PaintRefusals.{PaintRefusal, first_given, cause_of}
use Rattle.czi_tiles.specs.Chosen.{tile_dims, tile_info}
use Rattle.czi_paint.specs.Refusing.{Tells, tile_cause, chosen_cause}
use Rattle.czi_paint.specs.Patched.{IsPatch, ArePatches}

-- a tile stands at its place in the directory
pub record IsAt (tiles : List Tile) (t : ℕ × Tile) : Type 0 where
  pub low : t.0 < length tiles
  pub is : (d : Tile) → get_or tiles t.0 d ≡ t.1

numbered : (tiles : List Tile) → AllByRecursion (IsAt tiles) (enumerate_from 0 tiles)
numbered tiles = recursion_from_All (IsAt tiles) (enumerate_from 0 tiles) (λ k t low.
    let inside : k < length tiles = omega (arith, low, length-enumerate_from 0 tiles) in
    let e : get_or (enumerate_from 0 tiles) k t ≡ (0 + k, get_or tiles k t.1) = get_or-enumerate_from 0 tiles k t inside in
    let z : 0 + k ≡ k = omega arith in
    subst (λ (s : ℕ × Tile). IsAt tiles s) (sym e) (record {
      low = omega (arith, inside);
      is = λ d. ap (λ n. get_or tiles n d) z ∙ get_or_default tiles k d t.1 inside;
    }))

all_kept : {X : Type 0} (P : X → Type 0) (p : X → Bool) (xs : List X) → AllByRecursion P xs → AllByRecursion (λ x. P x × (p x ≡ true)) (filter p xs)
all_kept P p [] all = tt
all_kept {X = X} P p (x ∷ xs) all =
    let rest = all_kept P p xs all.1 in
    (elim (p x) as (λ b. p x ≡ b → AllByRecursion (λ x. P x × (p x ≡ true)) (let l : List X = cond b (x ∷ filter p xs) (filter p xs) in l)) [ true ↦ λ e. ((all.0, e), rest) | false ↦ λ e. rest ]) refl

-- each chosen one stands at its place
all_there : (q : Query) (tiles : List Tile) → AllByRecursion (λ t. IsAt tiles t × (is_chosen q (tile_dims t.1) ≡ true)) (chosen tile_dims q tiles)
all_there q tiles = all_kept (IsAt tiles) (λ t. is_chosen q (tile_dims t.1)) (painting_order tile_dims tiles) (all_sorted (painted_before tile_dims) (IsAt tiles) (enumerate_from 0 tiles) (numbered tiles))

nth : {X : Type 0} (xs : List X) (k : ℕ) → k < length xs → (x : X) × (x ≡ get_or xs k x)
nth [] k low = absurd (omega arith)
nth (x ∷ xs) zero low = (x, refl)
nth (x ∷ xs) (suc k) low = nth xs k (omega arith)

-- what the place with this number names
pub record Names (q : Query) (tiles : List Tile) (k x : ℕ) : Type 0 where
  pub t : ℕ × Tile
  pub low : k < length (chosen tile_dims q tiles)
  pub is : t ≡ get_or (chosen tile_dims q tiles) k t
  pub place : t.0 ≡ x
  pub there : IsAt tiles t
  pub passes : is_chosen q (tile_dims t.1) ≡ true

pub named : (q : Query) (tiles : List Tile) (places : List ℕ) (k x : ℕ) → places ≡ map (λ (t : ℕ × Tile). t.0) (chosen tile_dims q tiles) → k < length places
    → Names q tiles k (get_or places k x)
named q tiles places k x same low =
    let cs : List (ℕ × Tile) = chosen tile_dims q tiles in
    let long : length cs ≡ length places = sym (length-map cs (λ (t : ℕ × Tile). t.0)) ∙ ap length (sym same) in
    let inside : k < length cs = omega (arith, long, low) in
    let t = nth cs k inside in
    let place : t.0.0 ≡ get_or places k x = ap (λ (s : ℕ × Tile). s.0) t.1 ∙ (sym (get_or-map (λ (t : ℕ × Tile). t.0) cs k t.0 x inside) ∙ ap (λ l. get_or l k x) (sym same)) in
    let there = All-from_recursion (λ t. IsAt tiles t × (is_chosen q (tile_dims t.1) ≡ true)) cs (all_there q tiles) k t.0 inside in
    let this : get_or cs k t.0 ≡ t.0 = sym t.1 in
    record {
      t = t.0;
      low = inside;
      is = t.1;
      place = place;
      there = subst (λ (s : ℕ × Tile). IsAt tiles s) this there.0;
      passes = subst (λ (s : ℕ × Tile). is_chosen q (tile_dims s.1) ≡ true) this there.1;
    }

module _ (q : Query) (tiles : List Tile) (k x : ℕ) (n : Names q tiles k x) where
  pub place_low : x < length tiles
  place_low = subst (λ m. m < length tiles) n.place n.there.low

  -- the tile that is read there
  pub tile_read : (item : Tile) → item ≡ get_or tiles x item → n.t.1 ≡ item
  tile_read item is = sym (n.there.is item) ∙ (ap (λ m. get_or tiles m item) n.place ∙ sym is)

  pub is_chosen_one : (item : Tile) → item ≡ get_or tiles x item → is_chosen q (tile_dims item) ≡ true
  is_chosen_one item is = subst (λ (t : Tile). is_chosen q (tile_dims t) ≡ true) (tile_read item is) n.passes

  cause_read : (item : Tile) → item ≡ get_or tiles x item → tile_cause q n.t ≡ cause_of q x (tile_info item) item.pixels
  cause_read item is = λ i. cause_of q (n.place i) (tile_info (tile_read item is i)) (tile_read item is i).pixels

  rest_is : drop k (chosen tile_dims q tiles) ≡ n.t ∷ drop (k + 1) (chosen tile_dims q tiles)
  rest_is = drop_more (chosen tile_dims q tiles) k n.t n.low ∙ ap (λ (s : ℕ × Tile). s ∷ drop (k + 1) (chosen tile_dims q tiles)) (sym n.is)

  causes : (item : Tile) → item ≡ get_or tiles x item → (o : Option PaintRefusal) → cause_of q x (tile_info item) item.pixels ≡ o
      → first_given (tile_cause q) (drop k (chosen tile_dims q tiles)) ≡ option_or o (first_given (tile_cause q) (drop (k + 1) (chosen tile_dims q tiles)))
  causes item is o e =
      ap (first_given (tile_cause q)) rest_is
      ∙ ap (λ (p : Option PaintRefusal). option_or p (first_given (tile_cause q) (drop (k + 1) (chosen tile_dims q tiles)))) (cause_read item is ∙ e)

  pub refused : (item : Tile) → item ≡ get_or tiles x item → (error : PaintError) → Tells (cause_of q x (tile_info item) item.pixels) error
      → first_given (tile_cause q) (drop k (chosen tile_dims q tiles)) ≡ chosen_cause q tiles → Tells (chosen_cause q tiles) error
  refused item is error told fine = (told.0, told.1, sym fine ∙ causes item is (Some told.0) told.2)

  pub goes_on : (item : Tile) → item ≡ get_or tiles x item → cause_of q x (tile_info item) item.pixels ≡ None
      → first_given (tile_cause q) (drop k (chosen tile_dims q tiles)) ≡ chosen_cause q tiles
      → first_given (tile_cause q) (drop (k + 1) (chosen tile_dims q tiles)) ≡ chosen_cause q tiles
  goes_on item is e fine = sym (causes item is None e) ∙ fine

  pub patched_more : (item : Tile) (ps : List Patch) (p : Patch) → item ≡ get_or tiles x item → IsPatch q item p
      → ArePatches q (take k (chosen tile_dims q tiles)) ps → ArePatches q (take (k + 1) (chosen tile_dims q tiles)) (ps ++ p ∷ [])
  patched_more item ps p is one all =
      let more : take k (chosen tile_dims q tiles) ++ n.t ∷ [] ≡ take (k + 1) (chosen tile_dims q tiles) =
      ap (λ (s : ℕ × Tile). take k (chosen tile_dims q tiles) ++ s ∷ []) n.is ∙ sym (take_more (chosen tile_dims q tiles) k n.t n.low) in
      subst (λ (ts : List (ℕ × Tile)). ArePatches q ts (ps ++ p ∷ [])) more
      (push (take k (chosen tile_dims q tiles)) ps n.t p all (subst (λ (t : Tile). IsPatch q t p) (sym (tile_read item is)) one))
    where
      push : (ts : List (ℕ × Tile)) (ps : List Patch) (t : ℕ × Tile) (p : Patch) → ArePatches q ts ps → IsPatch q t.1 p → ArePatches q (ts ++ t ∷ []) (ps ++ p ∷ [])
      push [] [] t p all one = (one, tt)
      push [] (r ∷ ps) t p all one = absurd all
      push (s ∷ ts) [] t p all one = absurd all
      push (s ∷ ts) (r ∷ ps) t p all one = (all.0, push ts ps t p all.1 one)
