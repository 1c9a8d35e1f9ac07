-- Cells of a row or a column of pixels.
use Rattle.std.proofs.Common.{◌≡◌, ℕ, ◌+◌, ◌*◌, ◌-◌, ◌/◌, ◌^◌, ◌<◌, ◌≤◌, ℤ, pos, ◌+ℤ◌, ◌≤ℤ◌, ◌<ℤ◌, subst, arith}
use Rattle.std.specs.Int.RustNames.{unsigned_abs}
use Rattle.std.proofs.Math.Nat.{div-mul-le_self, mul-le-mul_right}
use Rattle.std.proofs.lemmas.Int.{ints}
use Rattle.std.proofs.lemmas.Nat.{le-div}
use Rattle.czi_format.specs.Painting.{point}
use Rattle.czi_tiles.specs.Cells.{cell_of, side}

rises : (a b d : ℕ) → 1 ≤ d → a ≤ b → a / d ≤ b / d
rises a b d some le = le-div (a / d) b d (omega (arith, some)) (omega (arith, div-mul-le_self a d, le))

-- a point of a dimension lies in the cells from its first point's to its last one's
pub within : (level s from n : ℕ) (start p : ℤ) → s ≡ side level → 1 ≤ s → pos from ≡ start +ℤ pos (2 ^ 31) → start ≤ℤ p → p <ℤ (start +ℤ pos n)
    → (from / s ≤ cell_of level p) × (cell_of level p ≤ (from + n - 1) / s)
within level s from n start p is some begins low high =
    let a : from ≤ unsigned_abs (p +ℤ pos (2 ^ 31)) = omega (arith, ints, begins, low) in
    let b : unsigned_abs (p +ℤ pos (2 ^ 31)) ≤ from + n - 1 = omega (arith, ints, begins, low, high) in (
      subst (λ d. from / s ≤ unsigned_abs (p +ℤ pos (2 ^ 31)) / d) is (rises from (unsigned_abs (p +ℤ pos (2 ^ 31))) s some a),
      subst (λ d. unsigned_abs (p +ℤ pos (2 ^ 31)) / d ≤ (from + n - 1) / s) is (rises (unsigned_abs (p +ℤ pos (2 ^ 31))) (from + n - 1) s some b),
    )

-- and a point of a region in those from its first point's to its last one's
pub met : (level s from layer n i : ℕ) (origin : ℤ) → s ≡ side level → 1 ≤ s → pos from ≡ origin +ℤ pos (2 ^ 31) → i < n
    → (from / s ≤ cell_of level (point origin layer i)) × (cell_of level (point origin layer i) ≤ (from + (n - 1) * layer) / s)
met level s from layer n i origin is some begins low =
    let before : i * layer ≤ (n - 1) * layer = mul-le-mul_right layer (omega (arith, low)) in
    let u : unsigned_abs (origin +ℤ pos (i * layer) +ℤ pos (2 ^ 31)) ≡ from + i * layer = omega (arith, ints, begins) in (
      subst (λ d. from / s ≤ unsigned_abs (origin +ℤ pos (i * layer) +ℤ pos (2 ^ 31)) / d) is (rises from (unsigned_abs (origin +ℤ pos (i * layer) +ℤ pos (2 ^ 31))) s some (omega (arith, u))),
      subst (λ d. unsigned_abs (origin +ℤ pos (i * layer) +ℤ pos (2 ^ 31)) / d ≤ (from + (n - 1) * layer) / s) is
          (rises (unsigned_abs (origin +ℤ pos (i * layer) +ℤ pos (2 ^ 31))) (from + (n - 1) * layer) s some (omega (arith, u, before))),
    )
