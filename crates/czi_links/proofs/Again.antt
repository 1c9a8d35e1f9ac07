-- What is spelt is read.
use Rattle.std.proofs.Common.{◌≡◌, ℕ, suc, ◌+◌, ◌<◌, ◌≤◌, ◌^◌, Bool, true, false, ◌&&◌, nat_le, List, [], ◌∷◌, ◌++◌, length, take, drop, Ok, Err, refl, sym, ◌∙◌, ap, arith}
use Rattle.std.specs.Prelude.{Result, if◌then◌else◌}
use Rattle.std.specs.List.{flat_map}
use Rattle.std.specs.Int.{w32, w64, to_le_bytes, from_le_bytes}
use Rattle.std.proofs.lemmas.Bool.{le-leb, and_from}
use Rattle.std.proofs.lemmas.List.{append_assoc, length-append, take_at, drop_at}
use Rattle.std.proofs.lemmas.Nat.{from_le_bytes-to_le_bytes_4, from_le_bytes-to_le_bytes_8}
use Rattle.std.specs.Int.{Width, byte_len}
use Rattle.std.proofs.lemmas.List.Elements.{All-head, All-tail}
use Rattle.czi_format.specs.Bytes.{bytes_at, u32_at, u64_at}
use Rattle.czi_links.specs.Record.{Bytes, Record, AreRising, EndWithin, FitsSlot, encoded_len, end_of, spell_link, spell_head, spelling}
use Rattle.czi_links.specs.Reading.{Holds, KeepsRules, is_good, after, links_at, holds, read, read_fields, Spells}

abbrev number : Width → List ℕ → ℕ
number w bytes = from_le_bytes w (take (byte_len w) bytes)

pub if_true : {A : Type 0} (b : Bool) (x y : A) → b ≡ true → (if b then x else y) ≡ x
if_true true x y e = refl
if_true false x y e = cc

-- the next link of these fields
one_more : (place size n at from limit room : ℕ) → List ℕ → List ℕ → Result (List Bytes) ℕ
one_more place size n at from limit room bytes rest =
    if is_good place size from limit room then after (record { place = place; bytes = bytes }) (links_at n (at + (12 + size)) (place + size) limit rest) else Err at

module _ (p s b x : List ℕ) (len_p : length p ≡ 8) (len_s : length s ≡ 4) where
  past : drop 8 (p ++ (s ++ (b ++ x))) ≡ s ++ (b ++ x)
  past = drop_at p (s ++ (b ++ x)) 8 len_p

  head_len : length (p ++ s) ≡ 12
  head_len = omega (arith, length-append p s, len_p, len_s)

  past_head : drop 12 (p ++ (s ++ (b ++ x))) ≡ b ++ x
  past_head = ap (drop 12) (sym (append_assoc p s (b ++ x))) ∙ drop_at (p ++ s) (b ++ x) 12 head_len

  past_all : drop (12 + length b) (p ++ (s ++ (b ++ x))) ≡ x
  past_all = ap (drop (12 + length b)) (sym (append_assoc p s (b ++ x)) ∙ sym (append_assoc (p ++ s) b x)) ∙ drop_at ((p ++ s) ++ b) x (12 + length b) (length-append (p ++ s) b ∙ ap (λ (n : ℕ). n + length b) head_len)

  link_read : (place n at from limit : ℕ) → from_le_bytes w64 p ≡ place → from_le_bytes w32 s ≡ length b → from ≤ place → 1 ≤ length b → place + length b ≤ limit
      → links_at (suc n) at from limit (p ++ (s ++ (b ++ x))) ≡ after (record { place = place; bytes = b }) (links_at n (at + (12 + length b)) (place + length b) limit x)
  unfolding links_at u32_at u64_at bytes_at one_more
  link_read place n at from limit place_is size_is begins some ends =
      ap (λ (k : ℕ). one_more k (number w32 (drop 8 all)) n at from limit (length all) (take (number w32 (drop 8 all)) (drop 12 all)) (drop (12 + number w32 (drop 8 all)) all)) e1
      ∙ ap (λ (k : ℕ). one_more place k n at from limit (length all) (take k (drop 12 all)) (drop (12 + k) all)) e2
      ∙ ap (λ (ys : List ℕ). one_more place (length b) n at from limit (length all) ys (drop (12 + length b) all)) (ap (take (length b)) past_head ∙ take_at b x (length b) refl)
      ∙ ap (λ (ys : List ℕ). one_more place (length b) n at from limit (length all) b ys) past_all
      ∙ if_true (is_good place (length b) from limit (length all)) _ _ good
    where
      all : List ℕ
      all = p ++ (s ++ (b ++ x))

      e1 : number w64 (p ++ (s ++ (b ++ x))) ≡ place
      e1 = ap (from_le_bytes w64) (take_at p (s ++ (b ++ x)) 8 len_p) ∙ place_is

      e2 : number w32 (drop 8 (p ++ (s ++ (b ++ x)))) ≡ length b
      e2 = ap (number w32) past ∙ ap (from_le_bytes w32) (take_at s (b ++ x) 4 len_s) ∙ size_is

      room : 12 + length b ≤ length (p ++ (s ++ (b ++ x)))
      room = omega (arith, length-append p (s ++ (b ++ x)), length-append s (b ++ x), length-append b x, len_p, len_s)

      good : is_good place (length b) from limit (length (p ++ (s ++ (b ++ x)))) ≡ true
      good = and_from _ _ (le-leb _ _ room) (and_from _ _ (le-leb _ _ some) (and_from _ _ (le-leb _ _ begins) (le-leb _ _ ends)))

pub length-spell_link : (l : Bytes) → length (spell_link l) ≡ 12 + length l.bytes
unfolding spell_link
length-spell_link l = omega arith

pub good_is : {place size from limit room : ℕ} → KeepsRules place size from limit room → is_good place size from limit room ≡ true
good_is g = and_from _ _ (le-leb _ _ g.fits) (and_from _ _ (le-leb _ _ g.some) (and_from _ _ (le-leb _ _ g.begins) (le-leb _ _ g.ends)))

regroup_link : (p s b x rest : List ℕ) → ((p ++ (s ++ b)) ++ x) ++ rest ≡ p ++ (s ++ (b ++ (x ++ rest)))
regroup_link p s b x rest = simp append_assoc

-- a link, and what stands behind it
link_again : (l : Bytes) (n at from limit : ℕ) (x rest : List ℕ) → from ≤ l.place → 1 ≤ length l.bytes → l.place + length l.bytes ≤ limit → limit ≤ 2 ^ 62 → length l.bytes < 2 ^ 32
    → links_at (suc n) at from limit ((spell_link l ++ x) ++ rest) ≡ after l (links_at n (at + (12 + length l.bytes)) (l.place + length l.bytes) limit (x ++ rest))
unfolding spell_link
link_again l n at from limit x rest begins some ends small short =
    ap (links_at (suc n) at from limit) (regroup_link (to_le_bytes w64 l.place) (to_le_bytes w32 (length l.bytes)) l.bytes x rest)
    ∙ link_read (to_le_bytes w64 l.place) (to_le_bytes w32 (length l.bytes)) l.bytes (x ++ rest) refl refl l.place n at from limit
    (from_le_bytes-to_le_bytes_8 l.place (omega (arith, ends, small))) (from_le_bytes-to_le_bytes_4 (length l.bytes) short) begins some ends

links_again : (ls : List Bytes) (at from limit : ℕ) (rest : List ℕ) → AreRising from ls → EndWithin limit ls → limit ≤ 2 ^ 62 → length (flat_map spell_link ls) ≤ 262144
    → links_at (length ls) at from limit (flat_map spell_link ls ++ rest) ≡ Ok ls
unfolding links_at
links_again [] at from limit rest rising ends small fits = refl
links_again (l ∷ ls) at from limit rest rising ends small fits =
    let e = length-append (spell_link l) (flat_map spell_link ls) in
    let len = length-spell_link l in
    let P : Bytes → Type 0 = λ l. end_of l ≤ limit in
    let front : end_of l ≤ limit = All-head P l ls ends in
    let back : EndWithin limit ls = All-tail P l ls ends in
    let short : length l.bytes < 2 ^ 32 = omega (arith, e, len, fits) in
    link_again l (length ls) at from limit (flat_map spell_link ls) rest rising.0 rising.1 front small short
    ∙ ap (after l) (links_again ls (at + (12 + length l.bytes)) (l.place + length l.bytes) limit rest rising.2 back small (omega (arith, e, fits)))

module _ (a b d e f : List ℕ) (len_a : length a ≡ 4) (len_b : length b ≡ 16) (len_d : length d ≡ 8) (len_e : length e ≡ 4) where
  fields_read : (committed count : ℕ) (ls : List Bytes) → from_le_bytes w32 a ≡ 1 → from_le_bytes w64 d ≡ committed → from_le_bytes w32 e ≡ count → 112 ≤ committed → committed ≤ 2 ^ 62
      → links_at count 32 84 committed f ≡ Ok ls → read (a ++ (b ++ (d ++ (e ++ f)))) ≡ Holds (record { guid = b; committed = committed; links = ls })
  unfolding read u32_at u64_at bytes_at
  fields_read committed count ls version_is committed_is count_is least greatest links_are =
      ap (λ (k : ℕ). read_fields k (number w64 (drop 20 all)) (number w32 (drop 28 all)) (take 16 (drop 4 all)) (drop 32 all)) e1
      ∙ ap (λ (k : ℕ). read_fields 1 k (number w32 (drop 28 all)) (take 16 (drop 4 all)) (drop 32 all)) e2
      ∙ ap (λ (k : ℕ). read_fields 1 committed k (take 16 (drop 4 all)) (drop 32 all)) e3
      ∙ ap (λ (ys : List ℕ). read_fields 1 committed count ys (drop 32 all)) e4
      ∙ ap (λ (ys : List ℕ). read_fields 1 committed count b ys) e5
      ∙ if_true (nat_le 112 committed && nat_le committed (2 ^ 62)) _ _ (and_from _ _ (le-leb _ _ least) (le-leb _ _ greatest))
      ∙ ap (holds b committed) links_are
    where
      all : List ℕ
      all = a ++ (b ++ (d ++ (e ++ f)))

      cut : (n : ℕ) (front back : List ℕ) → length front ≡ n → a ++ (b ++ (d ++ (e ++ f))) ≡ front ++ back → drop n (a ++ (b ++ (d ++ (e ++ f)))) ≡ back
      cut n front back len is = ap (drop n) is ∙ drop_at front back n len

      l2 : length (a ++ b) ≡ 20
      l2 = omega (arith, length-append a b, len_a, len_b)

      l3 : length ((a ++ b) ++ d) ≡ 28
      l3 = omega (arith, length-append (a ++ b) d, l2, len_d)

      l4 : length (((a ++ b) ++ d) ++ e) ≡ 32
      l4 = omega (arith, length-append ((a ++ b) ++ d) e, l3, len_e)

      e1 : number w32 (a ++ (b ++ (d ++ (e ++ f)))) ≡ 1
      e1 = ap (from_le_bytes w32) (take_at a (b ++ (d ++ (e ++ f))) 4 len_a) ∙ version_is

      e2 : number w64 (drop 20 (a ++ (b ++ (d ++ (e ++ f))))) ≡ committed
      e2 = ap (number w64) (cut 20 (a ++ b) (d ++ (e ++ f)) l2 (simp append_assoc)) ∙ ap (from_le_bytes w64) (take_at d (e ++ f) 8 len_d) ∙ committed_is

      e3 : number w32 (drop 28 (a ++ (b ++ (d ++ (e ++ f))))) ≡ count
      e3 = ap (number w32) (cut 28 ((a ++ b) ++ d) (e ++ f) l3 (simp append_assoc)) ∙ ap (from_le_bytes w32) (take_at e f 4 len_e) ∙ count_is

      e4 : take 16 (drop 4 (a ++ (b ++ (d ++ (e ++ f))))) ≡ b
      e4 = ap (take 16) (cut 4 a (b ++ (d ++ (e ++ f))) len_a refl) ∙ take_at b (d ++ (e ++ f)) 16 len_b

      e5 : drop 32 (a ++ (b ++ (d ++ (e ++ f)))) ≡ f
      e5 = cut 32 (((a ++ b) ++ d) ++ e) f l4 (simp append_assoc)

regroup : (a b d e f rest : List ℕ) → ((a ++ (b ++ (d ++ e))) ++ f) ++ rest ≡ a ++ (b ++ (d ++ (e ++ (f ++ rest))))
regroup a b d e f rest = simp append_assoc

pub count_small : (ls : List Bytes) → length ls ≤ length (flat_map spell_link ls)
count_small [] = omega arith
count_small (l ∷ ls) = omega (arith, length-append (spell_link l) (flat_map spell_link ls), length-spell_link l, count_small ls)

pub read_again : (r : Record) (rest : List ℕ) → FitsSlot r → read (spelling r ++ rest) ≡ Holds r
unfolding spelling spell_head
read_again r rest sound =
    ap read (regroup (to_le_bytes w32 1) r.guid (to_le_bytes w64 r.committed) (to_le_bytes w32 (length r.links)) (flat_map spell_link r.links) rest)
    ∙ fields_read (to_le_bytes w32 1) r.guid (to_le_bytes w64 r.committed) (to_le_bytes w32 (length r.links)) (flat_map spell_link r.links ++ rest) refl sound.guid refl refl r.committed (length r.links) r.links refl
    (from_le_bytes-to_le_bytes_8 r.committed (omega (arith, sound.greatest))) (from_le_bytes-to_le_bytes_4 (length r.links) (omega (arith, count_small r.links, fits))) sound.least sound.greatest
    (links_again r.links 32 84 r.committed rest sound.rising sound.ends sound.greatest fits)
  where
    fits : length (flat_map spell_link r.links) ≤ 262144
    fits = omega (arith, sound.fits)

-- the one spelling
pub spells_spelling : (r : Record) → FitsSlot r → Spells r (spelling r)
spells_spelling r sound = record { again = λ rest. read_again r rest sound }

-- and with other bytes behind it
pub spells_front : (r : Record) (more : List ℕ) → FitsSlot r → Spells r (spelling r ++ more)
spells_front r more sound = record { again = λ rest. ap read (append_assoc (spelling r) more rest) ∙ read_again r (more ++ rest) sound }

pub sound_of : (r : Record) → length r.guid ≡ 16 → 112 ≤ r.committed → r.committed ≤ 2 ^ 62 → AreRising 84 r.links → EndWithin r.committed r.links → encoded_len r.links ≤ 262144 → FitsSlot r
sound_of r guid least greatest rising ends fits = record { guid = guid; least = least; greatest = greatest; rising = rising; ends = ends; fits = fits }
