-- Zeros, and data that is filled with them.
use Rattle.std.proofs.Common.{◌≡◌, ℕ, ◌+◌, List, length, replicate, arith}
use Rattle.std.proofs.lemmas.List.{length-replicate}
use Rattle.czi_format.specs.Span.{round32}
use Rattle.czi_num.specs.Padding.{fill}

-- zeros as a name of their own, which no tactic opens
unfoldable pub zeros : ℕ → List ℕ
zeros n = replicate n 0

pub length-zeros : (n : ℕ) → length (zeros n) ≡ n
unfolding zeros
length-zeros n = length-replicate n 0

-- data and the zeros that fill it end at a multiple of 32
pub filled : (n : ℕ) → n + fill n ≡ round32 n
filled n = omega arith
