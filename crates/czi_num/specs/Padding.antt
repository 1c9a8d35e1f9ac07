-- Zeros behind the data of a segment.
use Rattle.std.specs.Prelude.{ℕ, ◌-◌}
use Rattle.czi_format.specs.Span.{round32}

-- how many zeros fill n bytes up to a multiple of 32
abbrev pub fill : ℕ → ℕ
fill n = round32 n - n
