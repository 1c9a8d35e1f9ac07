-- Points before the start of a dimension.
use Rattle.std.proofs.Common.{◌≡◌, ℕ, ◌<◌, ◌≤◌, ◌*◌, ◌/◌, ℤ, pos, ◌-ℤ◌, ◌<ℤ◌, None, negsuc, refl, ap, arith, inl, inr}
use Rattle.std.specs.Int.{div_ceil}
use Rattle.std.specs.Int.RustNames.{unsigned_abs}
use Rattle.std.proofs.lemmas.Int.{ints}
use Rattle.std.proofs.Math.Nat.{mul-lt-mul_of_pos_right}
use Rattle.std.proofs.lemmas.Bool.{cases_lt}
use Rattle.czi_format.specs.Partial.{natural}
use Rattle.czi_format.specs.Painting.{point}

pub negative : (z : ℤ) → z <ℤ pos 0 → natural z ≡ None
negative (pos n) h = absurd (omega (arith, ints))
negative (negsuc n) h = refl

pub below_gap : (gap m i : ℕ) → 1 ≤ m → i < div_ceil gap m → i * m < gap
below_gap gap m i some low = elim (cases_lt i (gap / m)) [
  | inl less ↦ let h : i * m < gap / m * m = mul-lt-mul_of_pos_right less (omega arith) in omega (arith, h)
  | inr same ↦
      let here : i ≡ gap / m = omega arith in
      let h : i * m ≡ gap / m * m = ap (λ n. n * m) here in
      omega (arith, h)
]

pub before : (origin start : ℤ) (m i : ℕ) → 1 ≤ m → origin <ℤ start → i < div_ceil (unsigned_abs (origin -ℤ start)) m → natural (point origin m i -ℤ start) ≡ None
before origin start m i some low h =
    let short : i * m < unsigned_abs (origin -ℤ start) = below_gap _ m i some h in
    negative _ (omega (arith, ints, short))
