-- What a buffer that is being filled shows.
use Rattle.std.specs.Prelude.{ℕ, List}

-- the bytes that it was filled with, and how many it has in the end
pub record Filled : Type 0 where
  pub bytes : List ℕ
  pub size : ℕ
