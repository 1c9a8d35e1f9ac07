-- Why no DV entry stands at the front of the bytes: the rules in order, the first that fails refuses.
use Rattle.std.specs.Prelude.{ℕ, ◌+◌, ◌*◌, ℤ, pos, negsuc, List, length, codes, ◌&&◌, nat_le, Option, None, ok_or, Result, Ok, bytes_eq}
use Rattle.czi_format.specs.Bytes.{bytes_at, i32_at}
use Rattle.czi_format.specs.Partial.{given, is_zero}
use Rattle.czi_format.specs.FirstFault.{◌>>=◌, ◌>>◌, unless}

pub data EntryRefusal : Type 0 where
  short : EntryRefusal
  schema : EntryRefusal
  dims : ℤ → EntryRefusal
  part : ℤ → EntryRefusal

-- a number of dimension records, from 1 to 40
abbrev pub record_count : ℤ → Option ℕ
record_count (pos n) = given (nat_le 1 n && nat_le n 40) n
record_count (negsuc n) = None

-- how many dimension records the entry at the front of the bytes has, or the refusal of the first rule that fails
unfoldable pub entry_rules : List ℕ → Result ℕ EntryRefusal
entry_rules bytes = do
  unless (nat_le 32 (length bytes)) short
  unless (bytes_eq (bytes_at bytes 0 2) (codes "DV")) schema
  count ← ok_or (record_count (i32_at bytes 28)) (dims (i32_at bytes 28))
  unless (is_zero (i32_at bytes 14)) (part (i32_at bytes 14))
  unless (nat_le (32 + 20 * count) (length bytes)) short
  Ok count
