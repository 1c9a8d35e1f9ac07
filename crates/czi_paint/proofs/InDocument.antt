-- What is painted over the tiles of an index is painted over the document.
use Rattle.std.proofs.Common.{◌≡◌, ℕ, ◌+◌, ◌-◌, ◌≤◌, List, [], ◌∷◌, ◌++◌, map, length, Option, refl, ap, sym, subst, ◌∙◌, arith}
use Rattle.std.specs.Option.{option_or}
use Rattle.std.specs.List.{AllByRecursion, enumerate_from}
use Rattle.std.proofs.lemmas.Simd.{map-map}
use Rattle.czi_format.specs.Bytes.{bytes_at}
use Rattle.czi_format.specs.Document.{Subblock}
use Rattle.czi_format.specs.Live.{Live, document, subblock_of}
use Rattle.czi_format.specs.Span.{Span, end_of}
use Rattle.czi_format.specs.Painting.{Query, is_chosen, painted_before, chosen}
use Rattle.czi_format.specs.PaintRefusals.{PaintRefusal, cause_of, first_given, length_cause, region_refusal}
use Rattle.czi_format.proofs.Limits.{length-bytes_at}
use Rattle.czi_spans.proofs.Sorting.{all_sorted}
use Rattle.czi_image.specs.Holds.{Holds}
use Rattle.czi_image.specs.Spans.{tile_span}
use Rattle.czi_image.specs.View.{tile_of}
use Rattle.czi_image.specs.declared.index.Index.{Index}
use Rattle.czi_image.specs.declared.types.Tile.{Tile}
use Rattle.czi_tiles.specs.Chosen.{tile_dims, tile_info}
use Rattle.czi_tiles.proofs.Chosen.{chosen_map, with_place}
use Rattle.czi_tiles.proofs.Order.{all_filter}
use Rattle.czi_paint.specs.declared.painter.Painter.{Painter}
use Rattle.czi_paint.specs.Painted.{LiesIn, Paints, TileEndsBelow}
use Rattle.czi_paint.specs.Patched.{subblock_in}
use Rattle.czi_paint.specs.Refusing.{tile_cause, tiles_refusal}

-- the subblocks are what the tiles stand for
pub subblocks_are : (image : List ℕ) (live : Live) (x : Index) → Holds live x → map (subblock_in image) x.tiles.items ≡ (document image live).subblocks
subblocks_are image live x holds = sym (map-map (subblock_of image) tile_of x.tiles.items) ∙ ap (map (subblock_of image)) holds.tiles

-- ---- all tiles lie in the image

-- the extent of a tile ends at or below a place
abbrev pub TileLiesIn : ℕ → Tile → Type 0
TileLiesIn n t = t.span.at + t.span.len ≤ n

behind : {X : Type 0} (P : X → Type 0) (xs ys : List X) → AllByRecursion P (xs ++ ys) → AllByRecursion P ys
behind P [] ys all = all
behind P (x ∷ xs) ys all = behind P xs ys all.1

tiles_first : (n : ℕ) (tiles : List Tile) (rest : List Span) → AllByRecursion (λ s. end_of s ≤ n) (map tile_span tiles ++ rest) → AllByRecursion (TileLiesIn n) tiles
tiles_first n [] rest all = tt
tiles_first n (t ∷ tiles) rest all = (all.0, tiles_first n tiles rest all.1)

pub tiles_lie : (x : Index) (n : ℕ) → x.length ≡ n → AllByRecursion (TileLiesIn n) x.tiles.items
tiles_lie x n is = subst (λ m. AllByRecursion (TileLiesIn m) x.tiles.items) is
    (tiles_first x.length x.tiles.items _ (behind (λ s. end_of s ≤ x.length) _ _ (x.inside.1)))

-- what holds of all holds of the chosen ones
all_chosen : (q : Query) (P : Tile → Type 0) (tiles : List Tile) → AllByRecursion P tiles → AllByRecursion (λ (t : ℕ × Tile). P t.1) (chosen tile_dims q tiles)
all_chosen q P tiles all = all_filter (λ (t : ℕ × Tile). P t.1) (λ (t : ℕ × Tile). is_chosen q (tile_dims t.1)) _
    (all_sorted (painted_before tile_dims) (λ (t : ℕ × Tile). P t.1) (enumerate_from 0 tiles) (numbered 0 tiles all))
  where
    numbered : (k : ℕ) (ts : List Tile) → AllByRecursion P ts → AllByRecursion (λ (t : ℕ × Tile). P t.1) (enumerate_from k ts)
    numbered k [] all = tt
    numbered k (t ∷ ts) all = (all.0, numbered (k + 1) ts all.1)

all_end : (n : ℕ) (ts : List (ℕ × Tile)) → AllByRecursion (λ (t : ℕ × Tile). TileLiesIn n t.1) ts → AllByRecursion (TileEndsBelow n) ts
all_end n [] all = tt
all_end n (t ∷ ts) all = (omega (arith, t.1.contents, all.0), all_end n ts all.1)

-- ---- the cause is the same

-- a tile has as many bytes of pixels as its subblock
as_long : (image : List ℕ) (t : Tile) → TileLiesIn (length image) t → length (subblock_in image t).pixels ≡ t.pixels
as_long image t inside =
    let whole : length (bytes_at image (t.span.at + 32) t.head.allocated) ≡ t.head.allocated = length-bytes_at image (t.span.at + 32) t.head.allocated (omega (arith, inside, t.extent)) in
    length-bytes_at (bytes_at image (t.span.at + 32) t.head.allocated) (t.begin - (t.span.at + 32) + t.meta) t.pixels (omega (arith, whole, t.extent, t.begins, t.contents))

abbrev subblock_cause : Query → ℕ × Subblock → Option PaintRefusal
subblock_cause q s = cause_of q s.0 s.1.info (length s.1.pixels)

first_map : {A B X : Type 0} (f : B → Option X) (g : A → B) (xs : List A) → first_given f (map g xs) ≡ first_given (λ a. f (g a)) xs
first_map f g [] = refl
first_map f g (a ∷ xs) = ap (option_or (f (g a))) (first_map f g xs)

first_same : (q : Query) (image : List ℕ) (ts : List (ℕ × Tile)) → AllByRecursion (λ (t : ℕ × Tile). TileLiesIn (length image) t.1) ts
    → first_given (tile_cause q) ts ≡ first_given (λ t. subblock_cause q (with_place (subblock_in image) t)) ts
first_same q image [] all = refl
first_same q image (t ∷ ts) all =
    let rest = first_same q image ts all.1 in
    let long : t.1.pixels ≡ length (subblock_in image t.1).pixels = sym (as_long image t.1 all.0) in
    λ i. option_or (cause_of q t.0 (tile_info t.1) (long i)) (rest i)

-- a region is refused over the tiles for the same cause as over their subblocks
pub same_cause : (q : Query) (image : List ℕ) (tiles : List Tile) → AllByRecursion (TileLiesIn (length image)) tiles → tiles_refusal q tiles ≡ region_refusal q (map (subblock_in image) tiles)
same_cause q image tiles all = ap (option_or (length_cause q)) (
    first_same q image (chosen tile_dims q tiles) (all_chosen q (TileLiesIn (length image)) tiles all)
    ∙ (sym (first_map (subblock_cause q) (with_place (subblock_in image)) (chosen tile_dims q tiles))
    ∙ ap (first_given (subblock_cause q)) (sym (chosen_map (subblock_in image) (λ (s : Subblock). s.info.dims) q tiles))))

-- what a painter reads lies in the image
pub painter_lies : (image : List ℕ) (x : Index) (q : Query) (j : ℕ) (p : Painter) → x.length ≡ length image → Paints q x.tiles.items j p → LiesIn (length image) p
painter_lies image x q j p long paints = paints.lies (length image) (all_end (length image) (chosen tile_dims q x.tiles.items) (all_chosen q (TileLiesIn (length image)) x.tiles.items (tiles_lie x (length image) long)))
