-- Parts of a byte list, and the little-endian numbers in it. A reading is total: past the end stand zeros.
-- That a field lies in the list is said beside it, as in "the extent lies in the image".
use Rattle.std.specs.Prelude.{◌≡◌, ℕ, ◌<◌, List, [], ◌∷◌, ℤ, take, drop, slice_index, codes, length, ◌++◌, ◌+◌, ◌-◌, replicate}
use Rattle.std.specs.Int.{cast_signed, cast_unsigned, from_le_bytes, to_le_bytes, w16, w32, w64}
use Prim.Native.String.{String}

-- each is a byte
abbrev pub IsBytes : List ℕ → Type 0
IsBytes bytes = (i : ℕ) → slice_index bytes i < 256

-- the n bytes at a place
unfoldable pub bytes_at : List ℕ → ℕ → ℕ → List ℕ
bytes_at bytes at n = take n (drop at bytes)

-- the byte at a place
unfoldable pub byte_at : List ℕ → ℕ → ℕ
byte_at bytes at = slice_index bytes at

-- the unsigned number of two, four and eight bytes at a place
unfoldable pub u16_at : List ℕ → ℕ → ℕ
u16_at bytes at = from_le_bytes w16 (bytes_at bytes at 2)

unfoldable pub u32_at : List ℕ → ℕ → ℕ
u32_at bytes at = from_le_bytes w32 (bytes_at bytes at 4)

unfoldable pub u64_at : List ℕ → ℕ → ℕ
u64_at bytes at = from_le_bytes w64 (bytes_at bytes at 8)

-- the signed number of four bytes at a place
unfoldable pub i32_at : List ℕ → ℕ → ℤ
i32_at bytes at = cast_signed w32 (from_le_bytes w32 (bytes_at bytes at 4))

-- the signed number of eight bytes at a place
unfoldable pub i64_at : List ℕ → ℕ → ℤ
i64_at bytes at = cast_signed w64 (from_le_bytes w64 (bytes_at bytes at 8))

-- these bytes written over at a place; every other byte stays
abbrev pub put_at : List ℕ → ℕ → List ℕ → List ℕ
put_at bytes at new = take at bytes ++ new ++ drop (at + length new) bytes

-- only the n bytes at a place may differ
pub record SameBeside (at n : ℕ) (old new : List ℕ) : Type 0 where
  pub as_long : length new ≡ length old
  pub before : take at new ≡ take at old
  pub behind : drop (at + n) new ≡ drop (at + n) old

-- the bytes of an unsigned number
abbrev pub u16_bytes : ℕ → List ℕ
u16_bytes n = to_le_bytes w16 n

abbrev pub u32_bytes : ℕ → List ℕ
u32_bytes n = to_le_bytes w32 n

abbrev pub u64_bytes : ℕ → List ℕ
u64_bytes n = to_le_bytes w64 n

-- the bytes of a signed number
abbrev pub i32_bytes : ℤ → List ℕ
i32_bytes z = to_le_bytes w32 (cast_unsigned w32 z)

abbrev pub i64_bytes : ℤ → List ℕ
i64_bytes z = to_le_bytes w64 (cast_unsigned w64 z)

-- an ASCII text, and zero bytes up to n bytes
abbrev pub padded : ℕ → String → List ℕ
padded n text = codes text ++ replicate (n - length (codes text)) 0

-- the bytes of a GUID as they are stored: its first field, of four bytes, and its second and third, of two, low byte first
abbrev pub stored_order : List ℕ → List ℕ
stored_order guid =
    slice_index guid 3 ∷ slice_index guid 2 ∷ slice_index guid 1 ∷ slice_index guid 0 ∷ slice_index guid 5 ∷ slice_index guid 4 ∷ slice_index guid 7 ∷ slice_index guid 6
    ∷ slice_index guid 8 ∷ slice_index guid 9 ∷ slice_index guid 10 ∷ slice_index guid 11 ∷ slice_index guid 12 ∷ slice_index guid 13 ∷ slice_index guid 14 ∷ slice_index guid 15 ∷ []
