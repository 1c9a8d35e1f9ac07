-- Texts of values. A number is written as `signed_decimal` has it: decimal digits, with `-` before a negative one.
use Rattle.std.specs.Prelude.{ℕ, ◌/◌, ◌%◌, ℤ, List, [], ◌∷◌, ◌++◌, map, Bool, false, not, ◌&&◌, ◌==◌, nat_le, codes, take_while, flat_map, if◌then◌else◌}
use Rattle.std.specs.Fmt.{digit_glyph, signed_decimal}
use Rattle.std.specs.List.{join_with_byte}
use Rattle.czi_format.specs.Partial.{is_zero}
use Rattle.czi_format.specs.Entry.{Dim}

-- a byte from 0x21 to 0x7E that isn't `%`
abbrev pub stands_for_itself : ℕ → Bool
stands_for_itself b = nat_le 0x21 b && nat_le b 0x7E && not (b == 37)

-- a byte in bytes text: itself, or `%` and two hexadecimal digits
abbrev pub byte_text : ℕ → List ℕ
byte_text b = if stands_for_itself b then b ∷ [] else 37 ∷ digit_glyph false (b / 16) ∷ digit_glyph false (b % 16) ∷ []

-- bytes text
unfoldable pub bytes_text : List ℕ → List ℕ
bytes_text bytes = flat_map byte_text bytes

-- the bytes up to the first zero byte
abbrev pub up_to_zero : List ℕ → List ℕ
up_to_zero bytes = take_while (λ b. not (b == 0)) bytes

-- the size of a dimension as stored, where 0 reads as the size
abbrev pub stored_size : Dim → ℤ
stored_size d = if is_zero d.stored then d.size else d.stored

-- a dimension, written: its name, where it starts, its size, and its size as stored
unfoldable pub dim_text : Dim → List ℕ
dim_text d = bytes_text (up_to_zero d.name) ++ (signed_decimal d.start ++ (codes ":" ++ (signed_decimal d.size ++ (codes ":" ++ signed_decimal (stored_size d)))))

-- dimension text as it is written: the dimensions in order, with a comma between each two
unfoldable pub dims_text : List Dim → List ℕ
dims_text dims = join_with_byte 44 (map dim_text dims)
