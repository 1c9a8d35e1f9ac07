-- What an index keeps of its subblocks beside them.
use Rattle.std.specs.Prelude.{◌≡◌, ℕ, ◌%◌, ◌^◌, List, map, sum}
use Rattle.czi_format.specs.Entry.{entry_len}
use Rattle.czi_format.specs.Key.{key}
use Rattle.czi_format.specs.Live.{Tile}
use Rattle.czi_doc.specs.KeyNumber.{key_number}
use Rattle.czi_image.specs.declared.summary.Summary.{Summary}

-- the number of a subblock's key
abbrev pub number_of : Tile → ℕ
number_of t = key_number (key t.entry.info.dims)

-- how many bytes the entries of subblocks have
abbrev pub entries_len : List Tile → ℕ
entries_len tiles = sum (map (λ (t : Tile). entry_len t.entry) tiles)

-- The summary of subblocks: the number of each one's key, in their order, and how many bytes all their entries have, modulo
-- 2^64.
pub record Sums (s : Summary) (tiles : List Tile) : Type 0 where
  pub numbers : s.numbers.items ≡ map number_of tiles
  pub entries_len : s.entries_len ≡ entries_len tiles % 2 ^ 64
