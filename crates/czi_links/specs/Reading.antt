-- A slot read from left to right, with the place of the first field that breaks the grammar.
use Rattle.std.specs.Prelude.{◌≡◌, ℕ, zero, suc, ◌+◌, ◌≤◌, ◌^◌, List, [], ◌∷◌, ◌++◌, length, drop, Result, Ok, Err, Bool, nat_le, ◌==◌, ◌&&◌, if◌then◌else◌}
use Rattle.czi_format.specs.Bytes.{bytes_at, u32_at, u64_at}
use Rattle.czi_links.specs.declared.head.SlotHead.{SlotHead}
use Rattle.czi_links.specs.declared.head.LinkFault.{LinkFault}
use Rattle.czi_links.specs.declared.head.LinkFault.TheVariants.{Version, Bad, Memory}
use Rattle.czi_links.specs.Record.{Bytes, Record, AreRising, EndWithin, record_of}
use Rattle.czi_links.specs.declared.numbers.TheConstants.{LEAST_LENGTH, FIRST_PLACE}

-- what a slot or a whole journal says
pub data Reading : Type 0 where
  Void : Reading
  Holds : Record → Reading
  OfVersion : ℕ → Reading
  BadAt : (place : ℕ) → Reading

-- one more in front, or the place of the first that is bad
abbrev pub after : Bytes → Result (List Bytes) ℕ → Result (List Bytes) ℕ
after l (Ok ls) = Ok (l ∷ ls)
after l (Err place) = Err place

-- a link with these fields, `room` bytes from its first byte to the slot's end
abbrev pub is_good : ℕ → ℕ → ℕ → ℕ → ℕ → Bool
is_good place size from limit room = nat_le (12 + size) room && (nat_le 1 size && (nat_le from place && nat_le (place + size) limit))

-- the same as a fact
pub record KeepsRules (place size from limit room : ℕ) : Type 0 where
  pub fits : 12 + size ≤ room
  pub some : 1 ≤ size
  pub begins : from ≤ place
  pub ends : place + size ≤ limit

-- The next n links of `rest`, which stands at `at`: each at `from` or later, not empty, and ending at `limit` or below.
unfoldable pub links_at : ℕ → ℕ → ℕ → ℕ → List ℕ → Result (List Bytes) ℕ
links_at zero at from limit rest = Ok []
links_at (suc n) at from limit rest =
    let place = u64_at rest 0 in
    let size = u32_at rest 8 in
    if is_good place size from limit (length rest)
    then after (record { place = place; bytes = bytes_at rest 12 size }) (links_at n (at + (12 + size)) (place + size) limit (drop (12 + size) rest))
    else Err at

abbrev pub holds : List ℕ → ℕ → Result (List Bytes) ℕ → Reading
holds guid committed (Ok links) = Holds (record { guid = guid; committed = committed; links = links })
holds guid committed (Err place) = BadAt place

-- from the fields, and the bytes behind them
abbrev pub read_fields : (version committed count : ℕ) → List ℕ → List ℕ → Reading
read_fields version committed count guid rest =
    if version == 1
    then (if nat_le LEAST_LENGTH committed && nat_le committed (2 ^ 62)
    then holds guid committed (links_at count 32 FIRST_PLACE committed rest)
    else BadAt 20)
    else OfVersion version

unfoldable pub read : List ℕ → Reading
read slot = read_fields (u32_at slot 0) (u64_at slot 20) (u32_at slot 28) (bytes_at slot 4 16) (drop 32 slot)

-- what every record that is read has
pub record IsRead (r : Record) : Type 0 where
  pub least : LEAST_LENGTH ≤ r.committed
  pub greatest : r.committed ≤ 2 ^ 62
  pub rising : AreRising FIRST_PLACE r.links
  pub ends : EndWithin r.committed r.links

-- the bytes, with any others behind them in the slot, are read as this record
pub record Spells (r : Record) (bytes : List ℕ) : Type 0 where
  pub again : (rest : List ℕ) → read (bytes ++ rest) ≡ Holds r

-- The answer that a reading calls for, with the links that were taken: the record, or the refusal with its version or place.
abbrev pub IsAnswer : Reading → List Bytes → Result SlotHead LinkFault → Type 0
IsAnswer reading links (Ok head) = reading ≡ Holds (record_of head links)
IsAnswer reading links (Err (Version v)) = reading ≡ OfVersion v
IsAnswer reading links (Err (Bad place)) = reading ≡ BadAt place
IsAnswer reading links (Err Memory) = Unit {0}

-- the same of a slot's links alone
abbrev pub AreLinks : Result (List Bytes) ℕ → List Bytes → Result (Unit {0}) LinkFault → Type 0
AreLinks read links (Ok done) = read ≡ Ok links
AreLinks read links (Err (Version v)) = ⊥
AreLinks read links (Err (Bad place)) = read ≡ Err place
AreLinks read links (Err Memory) = Unit {0}

-- the place that is refused lies in a slot of n bytes, or at its end
abbrev pub IsWithin : ℕ → LinkFault → Type 0
IsWithin n (Version v) = Unit {0}
IsWithin n (Bad place) = place ≤ n
IsWithin n Memory = Unit {0}
