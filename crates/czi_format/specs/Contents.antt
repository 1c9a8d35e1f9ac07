-- What lies where in the data of a segment. Places count from the front of the data.
use Rattle.std.specs.Prelude.{ℕ, ◌+◌, ◌*◌, ◌++◌, List, pos, replicate, max, nat_le, Option, Some}
use Rattle.czi_format.specs.Bytes.{i32_at, i32_bytes, i64_at}
use Rattle.czi_format.specs.Partial.{◌>>=◌, natural, given}
use Rattle.czi_format.specs.declared.numbers.TheConstants.{CONTENTS}

-- the front of subblock data: where the contents begin, and how long the metadata, the pixels and the attachment are
pub record SubHead : Type 0 where
  pub begin : ℕ
  pub meta : ℕ
  pub pixels : ℕ
  pub tail : ℕ

-- the sizes aren't negative, and the own entry has 0 to 40 dimensions
unfoldable pub sub_head : List ℕ → Option SubHead
sub_head bytes = do
  meta ← natural (i32_at bytes 0)
  tail ← natural (i32_at bytes 4)
  pixels ← natural (i64_at bytes 8)
  own ← natural (i32_at bytes 44)
  given (nat_le own 40) (record { begin = max CONTENTS (16 + 32 + 20 * own); meta = meta; pixels = pixels; tail = tail })

abbrev pub sub_end : SubHead → ℕ
sub_end h = h.begin + h.meta + h.pixels + h.tail

-- the front of metadata data: how long the XML and the attachment are
pub record MetaHead : Type 0 where
  pub xml : ℕ
  pub tail : ℕ

unfoldable pub meta_head : List ℕ → Option MetaHead
meta_head bytes = do
  xml ← natural (i32_at bytes 0)
  tail ← natural (i32_at bytes 4)
  Some (record { xml = xml; tail = tail })

abbrev pub meta_end : MetaHead → ℕ
meta_end h = CONTENTS + h.xml + h.tail

-- the front of attachment data: how long the attachment is
unfoldable pub att_size : List ℕ → Option ℕ
att_size bytes = natural (i32_at bytes 0)

-- the front of directory data: how many entries there are
unfoldable pub entry_count : List ℕ → Option ℕ
entry_count bytes = natural (i32_at bytes 0)

-- the front of directory data, written: EntryCount, and 124 reserved bytes
abbrev pub directory_head : ℕ → List ℕ
directory_head count = i32_bytes (pos count) ++ replicate 124 0
