-- A list that has grown at its end.
use Rattle.std.specs.Prelude.{◌≡◌, ℕ, List, ◌++◌}

pub record Grows (old new : List ℕ) : Type 0 where
  pub more : List ℕ
  pub is : new ≡ old ++ more
