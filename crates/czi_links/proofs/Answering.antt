-- What a slot is read as, from its fields.
use Rattle.std.proofs.Common.{◌≡◌, ℕ, ◌≤◌, ◌^◌, ◌&&◌, nat_le, List, drop, Err, sym, ◌∙◌, ap, subst, eq-eqb, eqb-true, arith}
use Rattle.std.specs.Prelude.{Result, ◌==◌, if◌then◌else◌}
use Rattle.std.proofs.lemmas.Bool.{le-leb, leb-true, and_from}
use Rattle.czi_format.specs.Bytes.{bytes_at, u32_at, u64_at}
use Rattle.czi_links.specs.declared.head.LinkFault.{LinkFault}
use Rattle.czi_links.specs.declared.head.LinkFault.TheVariants.{Version, Bad, Memory}
use Rattle.czi_links.specs.Record.{Bytes, Record}
use Rattle.czi_links.specs.Reading.{Reading, Holds, OfVersion, BadAt, AreLinks, IsAnswer, IsRead, holds, links_at, read}
use Rattle.czi_links.proofs.Again.{if_true}
use Rattle.czi_links.proofs.Sound.{IsOfSlot, both, read_sound}
use Rattle.czi_links.proofs.Taken.{if_false}

module _ (slot : List ℕ) where
  pub other_version : (u32_at slot 0 ≡ 1 → ⊥) → read slot ≡ OfVersion (u32_at slot 0)
  unfolding read
  other_version other = if_false (u32_at slot 0 == 1) _ _ (λ is. other (eqb-true (u32_at slot 0) 1 is))

  version_is : u32_at slot 0 ≡ 1 → read slot ≡ (if nat_le 112 (u64_at slot 20) && nat_le (u64_at slot 20) (2 ^ 62) then holds (bytes_at slot 4 16) (u64_at slot 20) (links_at (u32_at slot 28) 32 84 (u64_at slot 20) (drop 32 slot)) else BadAt 20)
  unfolding read
  version_is is = if_true (u32_at slot 0 == 1) _ _ (eq-eqb (u32_at slot 0) 1 is)

  pub bad_length : u32_at slot 0 ≡ 1 → (112 ≤ u64_at slot 20 → u64_at slot 20 ≤ 2 ^ 62 → ⊥) → read slot ≡ BadAt 20
  bad_length is bad = version_is is
      ∙ if_false (nat_le 112 (u64_at slot 20) && nat_le (u64_at slot 20) (2 ^ 62)) _ _
      (λ fine. let bounds = both (nat_le 112 (u64_at slot 20)) _ fine in bad (leb-true 112 _ bounds.0) (leb-true _ (2 ^ 62) bounds.1))

  pub good_length : u32_at slot 0 ≡ 1 → 112 ≤ u64_at slot 20 → u64_at slot 20 ≤ 2 ^ 62 → read slot ≡ holds (bytes_at slot 4 16) (u64_at slot 20) (links_at (u32_at slot 28) 32 84 (u64_at slot 20) (drop 32 slot))
  good_length is least greatest = version_is is ∙ if_true (nat_le 112 (u64_at slot 20) && nat_le (u64_at slot 20) (2 ^ 62)) _ _ (and_from _ _ (le-leb _ _ least) (le-leb _ _ greatest))

  pub rules_kept : (r : Record) → read slot ≡ Holds r → IsRead r
  rules_kept r e = subst IsOfSlot e (read_sound slot)

-- the same from the values that were read
pub reads_as : (slot guid : List ℕ) (version length count : ℕ) → version ≡ u32_at slot 0 → version ≡ 1 → length ≡ u64_at slot 20 → 112 ≤ length → length ≤ 2 ^ 62 → count ≡ u32_at slot 28 → guid ≡ bytes_at slot 4 16
    → read slot ≡ holds guid length (links_at count 32 84 length (drop 32 slot))
reads_as slot guid version length count version_is one length_is least greatest count_is guid_is =
    good_length slot (sym version_is ∙ one) (omega (arith, length_is, least)) (omega (arith, length_is, greatest))
    ∙ ap (λ (n : ℕ). holds (bytes_at slot 4 16) (u64_at slot 20) (links_at n 32 84 (u64_at slot 20) (drop 32 slot))) (sym count_is)
    ∙ ap (λ (n : ℕ). holds (bytes_at slot 4 16) n (links_at count 32 84 n (drop 32 slot))) (sym length_is)
    ∙ ap (λ (g : List ℕ). holds g length (links_at count 32 84 length (drop 32 slot))) (sym guid_is)

-- the refusal of a link is that of the slot
pub refused : (reading : Reading) (guid : List ℕ) (committed : ℕ) (links : Result (List Bytes) ℕ) (ls other : List Bytes) (fault : LinkFault) → reading ≡ holds guid committed links → AreLinks links ls (Err fault) → IsAnswer reading other (Err fault)
refused reading guid committed links ls other (Version v) e are = absurd are
refused reading guid committed links ls other (Bad place) e are = e ∙ ap (holds guid committed) are
refused reading guid committed links ls other Memory e are = tt
