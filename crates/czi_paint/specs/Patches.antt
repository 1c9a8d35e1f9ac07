-- What patches show of a region. A patch is what one tile shows: the columns and rows of the region that it covers, and where
-- in the image its pixels stand, row by row.
use Rattle.std.specs.Prelude.{ℕ, ◌+◌, ◌*◌, ◌<◌, ◌≤◌, List, Option, None, Some, flat_map, replicate}
use Rattle.std.specs.List.{range_with_len}
use Rattle.czi_format.specs.Bytes.{bytes_at, put_at}
use Rattle.czi_format.specs.Partial.{◌>>=◌}
use Rattle.czi_format.specs.Painting.{last_given}
use Rattle.czi_tiles.specs.Covered.{seen_through}
use Rattle.czi_paint.specs.declared.patch.Patch.{Patch}

-- where in the image a patch's pixel stands, in stored column u and row v; pixels have n bytes
abbrev pub place_of : ℕ → Patch → ℕ → ℕ → ℕ
place_of n p u v = p.place + (v * p.width + u) * n

-- the bytes of the pixel that a patch shows in column i and row j of the region
abbrev pub patch_pixel : ℕ → List ℕ → Patch → ℕ → ℕ → Option (List ℕ)
patch_pixel n image p j i = seen_through p.rows j >>= λ v. seen_through p.columns i >>= λ u. Some (bytes_at image (place_of n p u v) n)

-- row j of the region, of w pixels: each is the one that the last patch shows there, and else zero bytes
abbrev pub patched_row : ℕ → ℕ → List ℕ → List Patch → ℕ → List ℕ
patched_row n w image patches j = flat_map (λ i. last_given (λ p. patch_pixel n image p j i) patches (replicate n 0)) (range_with_len 0 w)

-- all pixels that a patch shows end at or below a place
abbrev pub EndsBelow : ℕ → ℕ → Patch → Type 0
EndsBelow limit n p = (v : ℕ) → v < p.rows.from + p.rows.count → place_of n p (p.columns.from + p.columns.count) v ≤ limit

-- a span of bytes laid over those at a place
abbrev pub laid_over : Option (List ℕ) → ℕ → List ℕ → List ℕ
laid_over None at out = out
laid_over (Some bytes) at out = put_at out at bytes

-- what a patch shows of row j: the bytes of its columns, one behind another
abbrev pub patch_span : ℕ → List ℕ → Patch → ℕ → Option (List ℕ)
patch_span n image p j = seen_through p.rows j >>= λ v. Some (bytes_at image (place_of n p p.columns.from v) (p.columns.count * n))

-- a patch lies in a row of w pixels
abbrev pub FitsRow : ℕ → Patch → Type 0
FitsRow w p = p.columns.first + p.columns.count ≤ w
