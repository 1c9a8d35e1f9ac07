-- What contracts see of `Links`, and how it lies in memory.
use Rattle.std.specs.Prelude.{◌≡◌, ℕ, ◌+◌, ◌*◌, ◌≤◌, List, length, take, drop, map, All}
use Rattle.std.specs.List.{flat_map}
use Rattle.czi_links.specs.Record.{Bytes, AreRising, spell_link}
use Rattle.czi_links.specs.declared.write_set.Entry.{Entry}
use Rattle.czi_links.specs.declared.numbers.TheConstants.{FIRST_PLACE}

-- the links, and how many more links with how many more bytes can be pushed without taking memory
pub record WriteSet : Type 0 where
  pub links : List Bytes
  pub spare_links : ℕ
  pub spare_bytes : ℕ

-- a link, whose bytes stand in the block
abbrev pub link_in : List ℕ → Entry → Bytes
link_in block e = record { place = e.place; bytes = take e.len (drop e.at block) }

abbrev pub links_in : List ℕ → List Entry → List Bytes
links_in block entries = map (λ (e : Entry). link_in block e) entries

-- The block is the spelling of the links, and each entry says where in it the bytes of its link stand.
pub record IsWholeBlock (block : List ℕ) (entries : List Entry) : Type 0 where
  pub within : All (λ (e : Entry). e.at + e.len ≤ length block) entries
  pub spelt : block ≡ flat_map spell_link (links_in block entries)
  pub rising : AreRising FIRST_PLACE (links_in block entries)

-- a list of `len` elements in memory for `capacity` has room for more
pub record HasRoom (len more capacity : ℕ) : Type 0 where
  pub room : len + more ≤ capacity

-- how many bytes of the block n more links with these bytes take
abbrev pub block_bytes : ℕ → ℕ → ℕ
block_bytes links bytes = 12 * links + bytes
