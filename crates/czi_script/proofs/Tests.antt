-- Tests and comparisons.
use Rattle.std.proofs.Common.{◌≡◌, ◌⊎◌, ℕ, ◌<◌, ◌≤◌, true, false, arith, inl, inr}
use Rattle.std.specs.Prelude.{nat_lt}
use Rattle.std.proofs.lemmas.Bool.{cases_Bool}
use Rattle.std.proofs.lemmas.Bool.Decides.{nat_tests}

pub no_truth : true ≡ false → ⊥
no_truth e = cc

pub less_or : (a b : ℕ) → (a < b) ⊎ (b ≤ a)
less_or a b = elim (cases_Bool (nat_lt a b)) [
  | inl t ↦ inl (grind (arith, nat_tests))
  | inr t ↦ inr (grind (arith, nat_tests))
]
