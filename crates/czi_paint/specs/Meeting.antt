-- Which patches have a row of the region.
use Rattle.std.specs.Prelude.{ℕ, ◌+◌, ◌<◌, ◌≤◌, List, length, map}
use Rattle.std.specs.List.{All, Contains, slice_index_or}
use Rattle.std.specs.List.Sorted.{IsNonDecreasing}
use Rattle.czi_paint.specs.declared.patch.Patch.{Patch}

-- the row of the region in which the patch at a place begins
abbrev pub first_row : List Patch → ℕ → ℕ
first_row patches k = slice_index_or (map (λ p. p.rows.first) patches) k 0

-- the row behind its last one
abbrev pub end_row : List Patch → ℕ → ℕ
end_row patches k = slice_index_or (map (λ p. p.rows.first + p.rows.count) patches) k 0

-- it has this row
abbrev pub Meets : List Patch → ℕ → ℕ → Type 0
Meets patches k j = (first_row patches k ≤ j) × (j < end_row patches k)

-- places of patches, in painting order, among which are all that have row j
pub record AreActive (patches : List Patch) (j : ℕ) (active : List ℕ) : Type 0 where
  pub there : All (λ k. k < length patches) active
  pub rising : IsNonDecreasing active
  pub all : (k : ℕ) → k < length patches → Meets patches k j → Contains active k
