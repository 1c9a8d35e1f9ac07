-- The first of sorted cells whose number isn't below a limit.
use Rattle.std.proofs.Common.{◌≡◌, ℕ, ◌<◌, ◌≤◌, List, length, get_or, true, false, nat_lt, ap, ◌∙◌, arith, inl, inr}
use Rattle.std.specs.List.{Contains}
use Rattle.std.specs.List.Sorted.{IsNonDecreasingBy, IsPartitionPoint}
use Rattle.std.proofs.lemmas.Bool.{cases_lt}
use Rattle.std.proofs.lemmas.Bool.Decides.{nat_tests}
use Rattle.std.proofs.lemmas.List.{get_or_default}
use Rattle.czi_tiles.specs.declared.cell.Cell.{Cell}

module _ (cells : List Cell) (limit at : ℕ) (point : IsPartitionPoint (λ (c : Cell). nat_lt c.number limit ≡ true) (λ (c : Cell). nat_lt c.number limit ≡ false) cells at) where
  pub not_below : (d : Cell) → at < length cells → limit ≤ (get_or cells at d).number
  not_below d low = let test : nat_lt (get_or cells at d).number limit ≡ false = point.1 at d (omega arith) low in grind (arith, nat_tests)

  -- a cell whose number isn't below the limit doesn't stand before it
  pub not_before : (c : Cell) (has : Contains cells c) → limit ≤ c.number → at ≤ has.0
  not_before c has high = elim (cases_lt has.0 at) [
    | inl before ↦
        let test : nat_lt (get_or cells has.0 c).number limit ≡ true = point.0 has.0 c (omega arith) before in
        absurd (let same : (get_or cells has.0 c).number ≡ c.number = ap (λ (c : Cell). c.number) has.2 in grind (arith, nat_tests))
    | inr behind ↦ behind
  ]

  pub least : (d c : Cell) → IsNonDecreasingBy (λ (c : Cell). c.number) cells → Contains cells c → limit ≤ c.number → (get_or cells at d).number ≤ c.number
  least d c up has high =
      let same : get_or cells has.0 d ≡ c = get_or_default cells has.0 d c has.1 ∙ has.2 in
      omega (arith, up at has.0 d (not_before c has high) has.1, ap (λ (c : Cell). c.number) same)
