-- How the links lie in their block.
use Rattle.std.proofs.Common.{◌≡◌, ℕ, ◌+◌, ◌*◌, ◌≤◌, List, [], ◌∷◌, ◌++◌, length, take, drop, map, All, refl, sym, ◌∙◌, ap, subst, arith}
use Rattle.std.specs.List.{flat_map, sum_by}
use Rattle.std.proofs.lemmas.Grind.{flat_map-append}
use Rattle.std.proofs.lemmas.List.Sums.{sum_by-cons}
use Rattle.std.proofs.Math.Seq.{drop-append-add}
use Rattle.std.proofs.lemmas.List.{append_assoc, append-nil, length-append, length-drop, length-map, take-append-le, take_all, drop_at, drop-append-le}
use Rattle.std.proofs.lemmas.List.Elements.{All-head, All-tail, All-push, All-weaker, All-nil}
use Rattle.czi_links.specs.declared.write_set.Entry.{Entry}
use Rattle.czi_links.specs.Record.{Bytes, AreRising, next_place, spell_link}
use Rattle.czi_format.specs.Bytes.{u32_bytes, u64_bytes}
use Rattle.czi_links.proofs.Again.{length-spell_link}
use Rattle.czi_links.proofs.Rising.{rising_more}
use Rattle.czi_links.specs.WriteSet.{WriteSet, IsWholeBlock, link_in, links_in}

-- none
pub none_whole : IsWholeBlock [] []
none_whole = record { within = All-nil (λ (e : Entry). e.at + e.len ≤ 0); spelt = refl; rising = tt }

map-append : {A B : Type 0} (f : A → B) (xs ys : List A) → map f (xs ++ ys) ≡ map f xs ++ map f ys
map-append f [] ys = refl
map-append f (x ∷ xs) ys = ap (λ zs. f x ∷ zs) (map-append f xs ys)

-- more bytes behind the block
same_link : (block more : List ℕ) (e : Entry) → e.at + e.len ≤ length block → link_in (block ++ more) e ≡ link_in block e
same_link block more e fits =
    ap (λ (bytes : List ℕ). record { place = e.place; bytes = bytes })
    (ap (take e.len) (drop-append-le e.at block more (omega (arith, fits)))
    ∙ take-append-le e.len (drop e.at block) more (omega (arith, fits, length-drop e.at block)))

same_links : (block more : List ℕ) (entries : List Entry) → All (λ (e : Entry). e.at + e.len ≤ length block) entries → links_in (block ++ more) entries ≡ links_in block entries
same_links block more [] within = refl
same_links block more (e ∷ es) within =
    let P : Entry → Type 0 = λ e. e.at + e.len ≤ length block in
    ap (λ (l : Bytes). l ∷ links_in (block ++ more) es) (same_link block more e (All-head P e es within))
    ∙ ap (λ (ls : List Bytes). link_in block e ∷ ls) (same_links block more es (All-tail P e es within))

-- a block to which a link was added
pub record Added (block : List ℕ) (entries : List Entry) (place : ℕ) (bytes new_block : List ℕ) (new_entries : List Entry) : Type 0 where
  pub block_is : new_block ≡ block ++ spell_link (record { place = place; bytes = bytes })
  pub entries_are : new_entries ≡ entries ++ record { place = place; at = length block + 12; len = length bytes } ∷ []

pub added_of : (block : List ℕ) (entries : List Entry) (place : ℕ) (bytes b1 b2 b3 : List ℕ) (es : List Entry) (at len n : ℕ) → b1 ≡ block ++ u64_bytes place → b2 ≡ b1 ++ u32_bytes n → n ≡ length bytes → b3 ≡ b2 ++ bytes
    → at ≡ length block + 12 → len ≡ length bytes → es ≡ entries ++ record { place = place; at = at; len = len } ∷ [] → Added block entries place bytes b3 es
unfolding spell_link
added_of block entries place bytes b1 b2 b3 es at len n i1 i2 n_is i3 at_is len_is es_is = record {
  block_is = i3 ∙ ap (λ (x : List ℕ). x ++ bytes) (i2 ∙ ap (λ (x : List ℕ). x ++ u32_bytes n) i1 ∙ ap (λ (k : ℕ). (block ++ u64_bytes place) ++ u32_bytes k) n_is) ∙ regroup block (u64_bytes place) (u32_bytes (length bytes)) bytes;
  entries_are = es_is ∙ ap (λ (k : ℕ). entries ++ record { place = place; at = k; len = len } ∷ []) at_is ∙ ap (λ (k : ℕ). entries ++ record { place = place; at = length block + 12; len = k } ∷ []) len_is;
}
  where
    regroup : (a b c d : List ℕ) → ((a ++ b) ++ c) ++ d ≡ a ++ (b ++ (c ++ d))
    regroup a b c d = simp append_assoc

-- the bytes of a link in its spelling
bytes_spelt : (block bytes p s : List ℕ) → length p ≡ 8 → length s ≡ 4 → take (length bytes) (drop (length block + 12) (block ++ (p ++ (s ++ bytes)))) ≡ bytes
bytes_spelt block bytes p s len_p len_s =
    ap (take (length bytes))
    (drop-append-add block (p ++ (s ++ bytes)) 12 ∙ ap (drop 12) (sym (append_assoc p s bytes)) ∙ drop_at (p ++ s) bytes 12 (omega (arith, length-append p s, len_p, len_s)))
    ∙ take_all (length bytes) bytes (omega arith)

last_link : (block : List ℕ) (place : ℕ) (bytes : List ℕ) → link_in (block ++ spell_link (record { place = place; bytes = bytes })) (record { place = place; at = length block + 12; len = length bytes }) ≡ record { place = place; bytes = bytes }
unfolding spell_link
last_link block place bytes = ap (λ (bs : List ℕ). record { place = place; bytes = bs }) (bytes_spelt block bytes (u64_bytes place) (u32_bytes (length bytes)) refl refl)

links_more : (block : List ℕ) (entries : List Entry) (place : ℕ) (bytes : List ℕ) → IsWholeBlock block entries
    → links_in (block ++ spell_link (record { place = place; bytes = bytes })) (entries ++ record { place = place; at = length block + 12; len = length bytes } ∷ []) ≡ links_in block entries ++ record { place = place; bytes = bytes } ∷ []
links_more block entries place bytes whole =
    let more : List ℕ = spell_link (record { place = place; bytes = bytes }) in
    let last : Entry = record { place = place; at = length block + 12; len = length bytes } in
    map-append (link_in (block ++ more)) entries (last ∷ [])
    ∙ ap (λ (ls : List Bytes). ls ++ link_in (block ++ more) last ∷ []) (same_links block more entries whole.within)
    ∙ ap (λ (l : Bytes). links_in block entries ++ l ∷ []) (last_link block place bytes)

pub added_links : {block : List ℕ} {entries : List Entry} {place : ℕ} {bytes new_block : List ℕ} {new_entries : List Entry} → Added block entries place bytes new_block new_entries → IsWholeBlock block entries
    → links_in new_block new_entries ≡ links_in block entries ++ record { place = place; bytes = bytes } ∷ []
added_links {block = block} {entries = entries} {place = place} {bytes = bytes} {new_entries = new_entries} a whole =
    ap (λ (b : List ℕ). links_in b new_entries) a.block_is
    ∙ ap (λ (es : List Entry). links_in (block ++ spell_link (record { place = place; bytes = bytes })) es) a.entries_are
    ∙ links_more block entries place bytes whole

more_within : (block more : List ℕ) (entries : List Entry) (last : Entry) → All (λ (e : Entry). e.at + e.len ≤ length block) entries → last.at + last.len ≤ length (block ++ more)
    → All (λ (e : Entry). e.at + e.len ≤ length (block ++ more)) (entries ++ last ∷ [])
more_within block more entries last within fits =
    let P : Entry → Type 0 = λ e. e.at + e.len ≤ length (block ++ more) in
    All-push P entries last (All-weaker (λ (e : Entry). e.at + e.len ≤ length block) P (λ e le. omega (arith, le, length-append block more)) entries within) fits

more_whole : (block : List ℕ) (entries : List Entry) (place : ℕ) (bytes : List ℕ) → IsWholeBlock block entries → next_place 84 (links_in block entries) ≤ place → 1 ≤ length bytes
    → IsWholeBlock (block ++ spell_link (record { place = place; bytes = bytes })) (entries ++ record { place = place; at = length block + 12; len = length bytes } ∷ [])
more_whole block entries place bytes whole begins some =
    let l : Bytes = record { place = place; bytes = bytes } in
    let last : Entry = record { place = place; at = length block + 12; len = length bytes } in
    let are = links_more block entries place bytes whole in
    record {
      within = more_within block (spell_link l) entries last whole.within (omega (arith, length-append block (spell_link l), length-spell_link l));
      spelt = ap (λ (b : List ℕ). b ++ spell_link l) whole.spelt ∙ sym (flat_map_last spell_link (links_in block entries) l) ∙ ap (flat_map spell_link) (sym are);
      rising = subst (AreRising 84) (sym are) (rising_more 84 (links_in block entries) l whole.rising begins some);
    }
  where
    flat_map_last : (f : Bytes → List ℕ) (ls : List Bytes) (l : Bytes) → flat_map f (ls ++ l ∷ []) ≡ flat_map f ls ++ f l
    flat_map_last f ls l = flat_map-append f ls (l ∷ []) ∙ ap (λ (b : List ℕ). flat_map f ls ++ b) (append-nil (f l))

pub added_whole : {block : List ℕ} {entries : List Entry} {place : ℕ} {bytes new_block : List ℕ} {new_entries : List Entry} → Added block entries place bytes new_block new_entries → IsWholeBlock block entries
    → next_place 84 (links_in block entries) ≤ place → 1 ≤ length bytes → IsWholeBlock new_block new_entries
added_whole {block = block} {entries = entries} {place = place} {bytes = bytes} {new_entries = new_entries} a whole begins some =
    let more : List ℕ = block ++ spell_link (record { place = place; bytes = bytes }) in
    subst (λ (b : List ℕ). IsWholeBlock b new_entries) (sym a.block_is) (subst (IsWholeBlock more) (sym a.entries_are) (more_whole block entries place bytes whole begins some))

-- how long the block is
length_spelt : (ls : List Bytes) → length (flat_map spell_link ls) ≡ 12 * length ls + sum_by (λ (l : Bytes). length l.bytes) ls
length_spelt [] = refl
length_spelt (l ∷ ls) = omega (arith, length-append (spell_link l) (flat_map spell_link ls), length-spell_link l, length_spelt ls, sum_by-cons (λ (l : Bytes). length l.bytes) l ls)

pub block_len : (block : List ℕ) (entries : List Entry) → IsWholeBlock block entries → length block ≡ 12 * length entries + sum_by (λ (l : Bytes). length l.bytes) (links_in block entries)
block_len block entries whole = omega (arith, ap length whole.spelt, length_spelt (links_in block entries), length-map entries (link_in block))

pub same_set : (v w : WriteSet) → v.links ≡ w.links → v.spare_links ≡ w.spare_links → v.spare_bytes ≡ w.spare_bytes → v ≡ w
same_set v w links spare_links spare_bytes =
    ap (λ (ls : List Bytes). record { links = ls; spare_links = v.spare_links; spare_bytes = v.spare_bytes }) links
    ∙ ap (λ (n : ℕ). record { links = w.links; spare_links = n; spare_bytes = v.spare_bytes }) spare_links
    ∙ ap (λ (n : ℕ). record { links = w.links; spare_links = w.spare_links; spare_bytes = n }) spare_bytes

pub emptied_whole : (block : List ℕ) (entries : List Entry) → block ≡ [] → entries ≡ [] → IsWholeBlock block entries
emptied_whole block entries is are = subst (λ (b : List ℕ). IsWholeBlock b entries) (sym is) (subst (IsWholeBlock []) (sym are) none_whole)

pub emptied_links : (block : List ℕ) (entries : List Entry) → entries ≡ [] → links_in block entries ≡ []
emptied_links block entries are = ap (links_in block) are
