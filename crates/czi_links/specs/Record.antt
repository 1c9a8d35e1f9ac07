-- The record that a slot of the journal holds, and its one spelling.
use Rattle.std.specs.Prelude.{◌≡◌, ℕ, ◌+◌, ◌≤◌, ◌^◌, List, [], ◌∷◌, ◌++◌, length, All}
use Rattle.std.specs.List.{flat_map}
use Rattle.czi_format.specs.Bytes.{u32_bytes, u64_bytes}
use Rattle.czi_links.specs.declared.head.SlotHead.{SlotHead}
use Rattle.czi_links.specs.declared.numbers.TheConstants.{LEAST_LENGTH, FIRST_PLACE, SLOT_LEN}

-- a link: bytes that are to stand at a place of the image
pub record Bytes : Type 0 where
  pub place : ℕ
  pub bytes : List ℕ

-- the image's GUID, its length once committed, and the links
pub record Record : Type 0 where
  pub guid : List ℕ
  pub committed : ℕ
  pub links : List Bytes

abbrev pub end_of : Bytes → ℕ
end_of l = l.place + length l.bytes

-- each has a byte and begins at `from` or later, at or past the end of the one before
abbrev pub AreRising : ℕ → List Bytes → Type 0
AreRising from [] = Unit {0}
AreRising from (l ∷ ls) = (from ≤ l.place) × (1 ≤ length l.bytes) × AreRising (end_of l) ls

-- the first place at which one more may begin
abbrev pub next_place : ℕ → List Bytes → ℕ
next_place from [] = from
next_place from (l ∷ ls) = next_place (end_of l) ls

-- each ends at or below a length
abbrev pub EndWithin : ℕ → List Bytes → Type 0
EndWithin limit ls = All (λ (l : Bytes). end_of l ≤ limit) ls

-- place, number of bytes, bytes
unfoldable pub spell_link : Bytes → List ℕ
spell_link l = u64_bytes l.place ++ (u32_bytes (length l.bytes) ++ l.bytes)

-- the first 32 bytes of a record: version 1, GUID, committed length, number of links
unfoldable pub spell_head : List ℕ → ℕ → ℕ → List ℕ
spell_head guid committed n = u32_bytes 1 ++ (guid ++ (u64_bytes committed ++ u32_bytes n))

unfoldable pub spelling : Record → List ℕ
spelling r = spell_head r.guid r.committed (length r.links) ++ flat_map spell_link r.links

-- how many bytes a record of these links has
abbrev pub encoded_len : List Bytes → ℕ
encoded_len ls = 32 + length (flat_map spell_link ls)

-- a record that fits a slot
pub record FitsSlot (r : Record) : Type 0 where
  pub guid : length r.guid ≡ 16
  pub least : LEAST_LENGTH ≤ r.committed
  pub greatest : r.committed ≤ 2 ^ 62
  pub rising : AreRising FIRST_PLACE r.links
  pub ends : EndWithin r.committed r.links
  pub fits : encoded_len r.links ≤ SLOT_LEN

abbrev pub record_of : SlotHead → List Bytes → Record
record_of head links = record { guid = head.guid; committed = head.length; links = links }
