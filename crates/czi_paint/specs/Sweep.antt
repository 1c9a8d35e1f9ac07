-- Which patches are active, as the rows go on.
use Rattle.std.specs.Prelude.{◌≡◌, ℕ, ◌<◌, ◌≤◌, List, length, drop, Bool, true, ◌||◌, nat_eq}
use Rattle.std.specs.List.{All, list_any}
use Rattle.std.specs.List.Sorted.{IsNonDecreasing, IsNonDecreasingBy}
use Rattle.czi_paint.specs.declared.patch.Patch.{Patch}
use Rattle.czi_paint.specs.declared.sweep.Sweep.{Sweep}
use Rattle.czi_paint.specs.Meeting.{first_row, Meets}

-- a place is among these
abbrev pub has : List ℕ → ℕ → Bool
has places k = list_any (nat_eq k) places

-- those that have row j or one behind it are active, or are not reached yet
pub record IsSweep (patches : List Patch) (j : ℕ) (sweep : Sweep) : Type 0 where
  pub ordered : All (λ k. k < length patches) sweep.order.items
  pub by_first : IsNonDecreasingBy (first_row patches) sweep.order.items
  pub there : All (λ k. k < length patches) sweep.active.items
  pub rising : IsNonDecreasing sweep.active.items
  pub all : (k i : ℕ) → k < length patches → j ≤ i → Meets patches k i → (has sweep.active.items k || has (drop sweep.reached sweep.order.items) k) ≡ true

-- and those that are not reached begin behind it
pub record HasEntered (patches : List Patch) (j : ℕ) (sweep : Sweep) : Type 0 where
  pub is_sweep : IsSweep patches j sweep
  pub later : All (λ k. j < first_row patches k) (drop sweep.reached sweep.order.items)

-- from an earlier row on
abbrev pub EntersRow : List Patch → ℕ → Sweep → Sweep → Type 0
EntersRow patches j old new = (i : ℕ) → i ≤ j → IsSweep patches i old → HasEntered patches j new
