-- What patches show is what the chosen tiles show.
use Rattle.std.proofs.Common.{◌≡◌, ℕ, ◌<◌, ◌^◌, ℤ, List, [], ◌∷◌, map, replicate, Bool, true, false, cond, ◌&&◌, filter, Option, None, refl, ap, sym, ◌∙◌, arith, if◌then◌else◌}
use Rattle.std.specs.Option.{unwrap_or}
use Rattle.std.specs.List.{AllByRecursion}
use Rattle.std.proofs.lemmas.Bool.{and_parts}
use Rattle.czi_image.specs.declared.types.Tile.{Tile}
use Rattle.czi_format.specs.Painting.{Query, point, in_both, meets_one, belongs, is_chosen, painting_order, chosen, pixel_of, shown_by, last_given, dims_of_subblock, pixel_at, row}
use Rattle.czi_tiles.proofs.Chosen.{from_chosen, chosen_map, last_map, with_place}
use Rattle.czi_paint.specs.declared.patch.Patch.{Patch}
use Rattle.czi_tiles.specs.Chosen.{tile_dims}
use Rattle.czi_paint.specs.Patches.{patch_pixel, patched_row, EndsBelow, FitsRow}
use Rattle.czi_paint.specs.Patched.{subblock_in, IsPatch, ArePatches}
use Rattle.czi_paint.specs.Painted.{TileEndsBelow}
use Rattle.czi_format.proofs.Pixels.{same_pixels}

passing : {X : Type 0} (p : X → Bool) (xs : List X) → AllByRecursion (λ x. p x ≡ true) (filter p xs)
passing p [] = tt
passing {X = X} p (x ∷ xs) =
    let rest = passing p xs in
    (elim (p x) as (λ b. p x ≡ b → AllByRecursion (λ x. p x ≡ true) (let l : List X = cond b (x ∷ filter p xs) (filter p xs) in l)) [ true ↦ λ e. (e, rest) | false ↦ λ e. rest ]) refl

-- a chosen tile shows what its patch shows
shown : (q : Query) (image : List ℕ) (i j : ℕ) → i < q.w → j < q.h → (t : ℕ × Tile) (p : Patch) → IsPatch q t.1 p → is_chosen q (tile_dims t.1) ≡ true
    → patch_pixel q.pixel.size image p j i ≡ shown_by q (point q.x q.layer i) (point q.y q.layer j) (subblock_in image t.1)
shown q image i j low below t p is passes =
    let there : belongs q (tile_dims t.1) ≡ true = (and_parts (belongs q (tile_dims t.1)) (in_both (tile_dims t.1) (λ x y. meets_one q.layer x q.x q.w && meets_one q.layer y q.y q.h)) passes).0 in
    is.shows image i j low below
    ∙ sym (ap (λ b. let o : Option (List ℕ) = if b then pixel_of q (tile_dims t.1) (subblock_in image t.1).pixels (point q.x q.layer i) (point q.y q.layer j) else None in o) there)

last_shown : (q : Query) (image : List ℕ) (i j : ℕ) → i < q.w → j < q.h → (ts : List (ℕ × Tile)) (ps : List Patch) → ArePatches q ts ps → AllByRecursion (λ t. is_chosen q (tile_dims t.1) ≡ true) ts → (d : List ℕ)
    → last_given (λ p. patch_pixel q.pixel.size image p j i) ps d ≡ last_given (λ t. shown_by q (point q.x q.layer i) (point q.y q.layer j) (subblock_in image t.1)) ts d
last_shown q image i j low below [] [] are all d = refl
last_shown q image i j low below [] (p ∷ ps) are all d = absurd are
last_shown q image i j low below (t ∷ ts) [] are all d = absurd are
last_shown q image i j low below (t ∷ ts) (p ∷ ps) are all d =
    ap (λ (o : Option (List ℕ)). last_given (λ p. patch_pixel q.pixel.size image p j i) ps (unwrap_or o d)) (shown q image i j low below t p are.0 all.0)
    ∙ last_shown q image i j low below ts ps are.1 all.1 (unwrap_or (shown_by q (point q.x q.layer i) (point q.y q.layer j) (subblock_in image t.1)) d)

-- the pixels that patches show are those of the region
pub painted : (q : Query) (tiles : List Tile) (ps : List Patch) → ArePatches q (chosen tile_dims q tiles) ps → (image : List ℕ) (i j : ℕ) → i < q.w → j < q.h
    → last_given (λ p. patch_pixel q.pixel.size image p j i) ps (replicate q.pixel.size 0) ≡ pixel_at q (map (subblock_in image) tiles) (point q.x q.layer i) (point q.y q.layer j)
painted q tiles ps are image i j low below =
    let px : ℤ = point q.x q.layer i in
    let py : ℤ = point q.y q.layer j in
    let zeros : List ℕ = replicate q.pixel.size 0 in
    last_shown q image i j low below (chosen tile_dims q tiles) ps are (passing (λ t. is_chosen q (tile_dims t.1)) (painting_order tile_dims tiles)) zeros
    ∙ (sym (last_map (λ t. shown_by q (point q.x q.layer i) (point q.y q.layer j) t.1) (with_place (subblock_in image)) (chosen tile_dims q tiles) (replicate q.pixel.size 0))
    ∙ (ap (λ ts. last_given (λ t. shown_by q (point q.x q.layer i) (point q.y q.layer j) t.1) ts (replicate q.pixel.size 0)) (sym (chosen_map (subblock_in image) dims_of_subblock q tiles))
    ∙ from_chosen q (map (subblock_in image) tiles) i j low below))

-- where each tile's pixels end at or below a place, each patch's do
pub lying : (q : Query) (n : ℕ) (ts : List (ℕ × Tile)) (ps : List Patch) → ArePatches q ts ps → AllByRecursion (TileEndsBelow n) ts → AllByRecursion (EndsBelow n q.pixel.size) ps
lying q n [] [] are all = tt
lying q n [] (p ∷ ps) are all = absurd are
lying q n (t ∷ ts) [] are all = absurd are
lying q n (t ∷ ts) (p ∷ ps) are all = ((λ v low. omega (arith, are.0.ends v low, all.0)), lying q n ts ps are.1 all.1)

pub fitting : (q : Query) (ts : List (ℕ × Tile)) (ps : List Patch) → ArePatches q ts ps → AllByRecursion (FitsRow q.w) ps
fitting q [] [] are = tt
fitting q [] (p ∷ ps) are = absurd are
fitting q (t ∷ ts) [] are = absurd are
fitting q (t ∷ ts) (p ∷ ps) are = (are.0.fits, fitting q ts ps are.1)

-- the contents of each tile end at or below 2^62
pub near : (ts : List (ℕ × Tile)) → AllByRecursion (TileEndsBelow (2 ^ 62)) ts
near [] = tt
near (t ∷ ts) = (omega (arith, t.1.contents, t.1.ends), near ts)

-- a row of patches is the row of the region
pub same_row : (q : Query) (tiles : List Tile) (ps : List Patch) (n w : ℕ) (image : List ℕ) (j : ℕ) → n ≡ q.pixel.size → w ≡ q.w → j < q.h
    → ((i : ℕ) → i < q.w → last_given (λ p. patch_pixel n image p j i) ps (replicate n 0) ≡ pixel_at q (map (subblock_in image) tiles) (point q.x q.layer i) (point q.y q.layer j))
    → patched_row n w image ps j ≡ row q (map (subblock_in image) tiles) j
same_row q tiles ps n w image j size width below pixels =
    ap (λ k. patched_row n k image ps j) width
    ∙ same_pixels (λ i. last_given (λ p. patch_pixel n image p j i) ps (replicate n 0)) (λ i. pixel_at q (map (subblock_in image) tiles) (point q.x q.layer i) (point q.y q.layer j)) 0 q.w (λ i low high. pixels i (omega (arith, high)))
