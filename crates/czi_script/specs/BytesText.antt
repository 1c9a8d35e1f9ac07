-- Bytes text as it is read: no byte that it spells is zero.
use Rattle.std.specs.Prelude.{◌≡◌, ℕ, ◌-◌, ◌^◌, ◌<◌, ◌≤◌, List, ◌++◌, length, replicate}
use Rattle.std.specs.List.{AllByRecursion}
use Rattle.czi_format.specs.Text.{bytes_text}

abbrev pub IsSpelled : ℕ → Type 0
IsSpelled b = (1 ≤ b) × (b < 2 ^ 8)

-- The text spells these bytes, of which there are not more than so many.
pub record IsBytesText (most : ℕ) (text bytes : List ℕ) : Type 0 where
  pub spelled : text ≡ bytes_text bytes
  pub nonzero : AllByRecursion IsSpelled bytes
  pub few : length bytes ≤ most

-- the bytes, with zeros behind them up to this length
abbrev pub padded : ℕ → List ℕ → List ℕ
padded n bytes = bytes ++ replicate (n - length bytes) 0

-- The text spells what the field holds, which is padded with zeros.
abbrev pub IsPaddedText : ℕ → List ℕ → List ℕ → Type 0
IsPaddedText n text field = (bytes : List ℕ) × IsBytesText n text bytes × (field ≡ padded n bytes)
