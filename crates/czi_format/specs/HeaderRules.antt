-- Why no file header of a first file part stands at the front of the bytes: the rules in order, the first that fails
-- refuses.
use Rattle.std.specs.Prelude.{ℕ, ℤ, List, length, nat_le, ok_or, Result, Ok, bytes_eq}
use Rattle.czi_format.specs.Bytes.{bytes_at, i32_at}
use Rattle.czi_format.specs.Partial.{is_zero}
use Rattle.czi_format.specs.FirstFault.{◌>>=◌, ◌>>◌, unless}
use Rattle.czi_format.specs.Segment.{header_at, file_id}
use Rattle.czi_format.specs.Live.{FileHeader, has_header_sizes, header_fields}
use Rattle.czi_format.specs.declared.numbers.TheConstants.{FILE_PART, HEADER_FRONT}

pub data HeaderRefusal : Type 0 where
  short : HeaderRefusal
  bad_id : HeaderRefusal
  bad_sizes : HeaderRefusal
  multi_part : ℤ → HeaderRefusal

-- the file header at the front of the bytes, or the refusal of the first rule that fails; whether its extent lies in
-- them isn't looked at
unfoldable pub header_rules : List ℕ → Result FileHeader HeaderRefusal
header_rules bytes = do
  unless (nat_le HEADER_FRONT (length bytes)) short
  unless (bytes_eq (bytes_at bytes 0 16) file_id) bad_id
  segment ← ok_or (header_at bytes 0) bad_sizes
  unless (has_header_sizes segment) bad_sizes
  unless (is_zero (i32_at bytes FILE_PART)) (multi_part (i32_at bytes FILE_PART))
  Ok (header_fields bytes segment)
