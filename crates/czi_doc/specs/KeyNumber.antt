-- A number of a key, to search by: equal keys have equal numbers, and other keys seldom have.
use Rattle.std.specs.Prelude.{ℕ, ◌+◌, ◌*◌, ◌%◌, ◌^◌, map, sum}
use Rattle.std.specs.Int.{cast_unsigned, from_le_bytes, w32}
use Rattle.czi_format.specs.Key.{Axis, Key}

-- the name's four bytes as a number and the start in two's complement, each times an odd number, added
abbrev pub mixed : Axis → ℕ
mixed a = from_le_bytes w32 a.name * 0x9E3779B1 + cast_unsigned w32 a.start * 0x85EBCA77

-- The number of an axis. Modulo 2^32 no two numbers m give one m (2 m + 1), so no two starts of one name have one number.
unfoldable pub axis_number : Axis → ℕ
axis_number a = mixed a * (2 * mixed a + 1)

-- the sum of those of the key's axes, modulo 2^32
unfoldable pub key_number : Key → ℕ
key_number k = sum (map axis_number k.axes) % 2 ^ 32
