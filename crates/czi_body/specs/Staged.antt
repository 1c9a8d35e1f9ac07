-- The data of new segments, from the bytes and the lengths of its parts.
use Rattle.std.specs.Prelude.{◌≡◌, ℕ, ◌+◌, ◌-◌, pos, List, ◌++◌, length, max, replicate}
use Rattle.czi_format.specs.Bytes.{i32_bytes, i64_bytes}
use Rattle.czi_format.specs.Document.{Subblock}
use Rattle.czi_format.specs.Entry.{Entry, entry_bytes, entry_len}
use Rattle.czi_format.specs.declared.numbers.TheConstants.{CONTENTS}

-- how long subblock data is without padding, from the lengths of its own entry and of its contents
abbrev pub sub_length : ℕ → ℕ → ℕ → ℕ → ℕ
sub_length entry meta pixels tail = max CONTENTS (16 + entry) + meta + pixels + tail

-- the same of the metadata
abbrev pub meta_length : ℕ → ℕ → ℕ
meta_length xml tail = CONTENTS + xml + tail

-- the front of subblock data: three lengths, the bytes of its own entry, and zeros up to where the contents begin
abbrev pub sub_front : List ℕ → ℕ → ℕ → ℕ → List ℕ
sub_front entry meta pixels tail = i32_bytes (pos meta) ++ (i32_bytes (pos tail) ++ (i64_bytes (pos pixels) ++ (entry ++ replicate (CONTENTS - (16 + length entry)) 0)))

-- subblock data, whatever its own entry's bytes are
abbrev pub sub_data : List ℕ → List ℕ → List ℕ → List ℕ → ℕ → List ℕ
sub_data entry meta pixels tail padding = sub_front entry (length meta) (length pixels) (length tail) ++ (meta ++ (pixels ++ (tail ++ replicate padding 0)))

-- These are the bytes of an entry and of the contents of a subblock.
pub record AreParts (e : Entry) (s : Subblock) (entry meta pixels tail : List ℕ) : Type 0 where
  pub entry_is : entry ≡ entry_bytes e
  pub long : length entry ≡ entry_len e
  pub meta_is : meta ≡ s.meta
  pub pixels_is : pixels ≡ s.pixels
  pub tail_is : tail ≡ s.tail
