-- The rules, one after another, over what was read.
use Rattle.std.proofs.Common.{◌≡◌, ℕ, zero, suc, ◌+◌, ◌-◌, ◌*◌, ◌≤◌, ◌<◌, ◌^◌, min, ℤ, pos, negsuc, List, [], take, drop, nat_le, true, false, Option, Some, None, Result, Ok, Err, refl, ap, sym, ◌∙◌, arith, ⊎_elim}
use Rattle.std.proofs.lemmas.Bool.{le-leb, lt-leb}
use Rattle.std.proofs.lemmas.Bool.Decides.{leb_tells}
use Rattle.std.proofs.lemmas.List.{take-take, drop-drop}
use Rattle.std.proofs.Math.Dec.{leb}
use Rattle.czi_format.specs.Bytes.{bytes_at}
use Rattle.czi_format.specs.Partial.{none_or}
use Rattle.czi_format.specs.FirstFault.{◌>>=◌, each, with_fault, one_after_another}
use Rattle.czi_format.specs.Segment.{in_segment, directory_id, attdir_id, metadata_id}
use Rattle.czi_format.specs.Entry.{Entry, entry, entry_len, A1, a1, a1_len}
use Rattle.czi_format.specs.Live.{FileHeader, Directory, MetaItem, Live, directory, attachment_directory, meta_item}
use Rattle.czi_format.specs.Shows.{entries, a1_entries, subblock_at, attachment_at}
use Rattle.czi_format.specs.Refusals as refusals
use Rattle.czi_format.specs.Refusals.{Refusal, Tiles, Attachments, first_rules, tile_rules, attachment_rules, metadata_rule, reads_but_overlap}
use Rattle.czi_image.specs.Rules.{entry_rules, a1_rules, subblock_rules, item_rules, listed_rules, attached_rules}
use Rattle.czi_image.proofs.Fronts.{entries_of_front, a1s_of_front, rest_of_front}

-- what stands behind the head of a directory's data
behind_head : (image : List ℕ) (at head allocated : ℕ) → head ≤ allocated → drop head (bytes_at image (at + 32) allocated) ≡ take (allocated - head) (drop (at + (32 + head)) image)
unfolding bytes_at
behind_head image at head allocated roomy =
    rest_of_front allocated head (drop (at + 32) image) roomy
    ∙ ap (take (allocated - head)) (drop-drop head (at + 32) image ∙ ap (λ (n : ℕ). drop n image) (let sum : at + 32 + head ≡ at + (32 + head) = omega arith in sum))

-- the entries were read from as much of the directory as they can reach
pub entries_in_window : (image bytes : List ℕ) (d : Directory) → bytes ≡ bytes_at image (d.segment.at + 160) (min (d.segment.allocated - 128) (832 * d.count)) → 128 ≤ d.segment.allocated
    → entry_rules d.count (d.segment.at + 160) bytes ≡ with_fault (λ at. refusals.bad_entry (pos at)) (entries image (Some d))
unfolding bytes_at entry_rules
entries_in_window image bytes d read roomy =
    let whole : drop 128 (take d.segment.allocated (drop (d.segment.at + 32) image)) ≡ take (d.segment.allocated - 128) (drop (d.segment.at + 160) image) = behind_head image d.segment.at 128 d.segment.allocated roomy in
    ap (with_fault (λ at. refusals.bad_entry (pos at))) (by_size (d.segment.allocated - 128) (832 * d.count) (drop (d.segment.at + 160) image) d.count (d.segment.at + 160) bytes read refl
    ∙ ap (λ (xs : List ℕ). one_after_another entry entry_len (λ a. a) d.count (d.segment.at + 160) xs) (sym whole))
  where
    by_size : (a b : ℕ) (xs : List ℕ) (count at : ℕ) (bytes : List ℕ) → bytes ≡ take (min a b) xs → b ≡ 832 * count
        → one_after_another entry entry_len (λ a. a) count at bytes ≡ one_after_another entry entry_len (λ a. a) count at (take a xs)
    by_size a b xs count at bytes read size = ⊎_elim
        (λ (t : (leb b a ≡ true) × (b ≤ a)).
        let small : min a b ≡ b = omega (arith, t.1) in
        let front : bytes ≡ take b (take a xs) = read ∙ (ap (λ (n : ℕ). take n xs) small ∙ sym (take-take b a xs t.1)) in
        ap (λ (ys : List ℕ). one_after_another entry entry_len (λ a. a) count at ys) front ∙ entries_of_front (λ a. a) count at b (take a xs) (omega (arith, size)))
        (λ (t : (leb b a ≡ false) × (a < b)).
        let small : min a b ≡ a = omega (arith, t.1) in
        ap (λ (ys : List ℕ). one_after_another entry entry_len (λ a. a) count at ys) (read ∙ ap (λ (n : ℕ). take n xs) small))
        (leb_tells b a)

-- the entries of attachments have 128 bytes each
pub a1s_in_window : (image bytes : List ℕ) (d : Directory) → bytes ≡ bytes_at image (d.segment.at + 288) (128 * d.count) → 256 + 128 * d.count ≤ d.segment.allocated
    → a1_rules d.count (d.segment.at + 288) bytes ≡ with_fault (λ at. refusals.bad_attachment (pos at)) (a1_entries image (Some d))
unfolding bytes_at a1_rules
a1s_in_window image bytes d read roomy =
    let whole : drop 256 (take d.segment.allocated (drop (d.segment.at + 32) image)) ≡ take (d.segment.allocated - 256) (drop (d.segment.at + 288) image) = behind_head image d.segment.at 256 d.segment.allocated (omega (arith, roomy)) in
    let front : bytes ≡ take (128 * d.count) (take (d.segment.allocated - 256) (drop (d.segment.at + 288) image)) = read ∙ sym (take-take (128 * d.count) (d.segment.allocated - 256) (drop (d.segment.at + 288) image) (omega (arith, roomy))) in
    ap (λ (xs : List ℕ). with_fault (λ at. refusals.bad_attachment (pos at)) (one_after_another a1 a1_len (λ a. a) d.count (d.segment.at + 288) xs)) front
    ∙ ap (with_fault (λ at. refusals.bad_attachment (pos at))) (a1s_of_front (λ a. a) d.count (d.segment.at + 288) (128 * d.count) (take (d.segment.allocated - 256) (drop (d.segment.at + 288) image)) (omega arith)
    ∙ ap (λ (xs : List ℕ). one_after_another a1 a1_len (λ a. a) d.count (d.segment.at + 288) xs) (sym whole))

-- the entries, and then the subblocks at them
pub listed_first : (image : List ℕ) (dir : Option Directory) (r : Result (List Entry) Refusal) → r ≡ with_fault (λ at. refusals.bad_entry (pos at)) (entries image dir) → listed_rules image dir ≡ r >>= (subblock_rules image)
unfolding listed_rules
listed_first image dir r is = ap (λ x. x >>= (subblock_rules image)) (sym is)

pub attached_first : (image : List ℕ) (dir : Option Directory) (r : Result (List A1) Refusal) → r ≡ with_fault (λ at. refusals.bad_attachment (pos at)) (a1_entries image dir) → attached_rules image dir ≡ r >>= (item_rules image)
unfolding attached_rules
attached_first image dir r is = ap (λ x. x >>= (item_rules image)) (sym is)

pub then_ok : {A B E : Type 0} (r : Result A E) (f : A → Result B E) (x : A) (s : Result B E) → r ≡ Ok x → f x ≡ s → r >>= f ≡ s
then_ok r f x s is next = rw is next

-- no directory of subblocks
pub no_tiles : (image : List ℕ) (position : ℤ) → Some None ≡ none_or position (in_segment image directory_id position directory) → tile_rules image position ≡ Ok (record { directory = None; tiles = [] })
unfolding tile_rules
no_tiles image position found = rw (← found)

pub bad_directory : (image : List ℕ) (position : ℤ) → None ≡ none_or position (in_segment image directory_id position directory) → tile_rules image position ≡ Err (refusals.bad_directory position)
unfolding tile_rules
bad_directory image position found = rw (← found)

pub many_tiles : (image : List ℕ) (position : ℤ) (d : Directory) → Some (Some d) ≡ none_or position (in_segment image directory_id position directory) → 2 ^ 20 < d.count
    → tile_rules image position ≡ Err (refusals.too_many position d.count)
unfolding tile_rules
many_tiles image position d found many = let no : nat_le d.count (2 ^ 20) ≡ false = lt-leb d.count (2 ^ 20) many in rw (← found) (rw no)

regrouped : {A B C E : Type 0} (r : Result A E) (f : A → Result B E) (g : B → Result C E) → r >>= (λ x. f x >>= g) ≡ (r >>= f) >>= g
regrouped (Ok x) f g = refl
regrouped (Err e) f g = refl

pub some_tiles : (image : List ℕ) (position : ℤ) (d : Directory) → Some (Some d) ≡ none_or position (in_segment image directory_id position directory) → d.count ≤ 2 ^ 20
    → tile_rules image position ≡ listed_rules image (Some d) >>= (λ tiles. Ok (let t : Tiles = record { directory = Some d; tiles = tiles } in t))
unfolding tile_rules listed_rules subblock_rules
some_tiles image position d found few =
    let yes : nat_le d.count (2 ^ 20) ≡ true = le-leb _ _ few in
    rw (← found) (rw yes (regrouped (with_fault (λ at. refusals.bad_entry (pos at)) (entries image (Some d))) (λ es. each (subblock_at image) (λ e. refusals.bad_segment e.position) es) _))

pub no_attachments : (image : List ℕ) (position : ℤ) → Some None ≡ none_or position (in_segment image attdir_id position attachment_directory) → attachment_rules image position ≡ Ok (record { directory = None; items = [] })
unfolding attachment_rules
no_attachments image position found = rw (← found)

pub bad_attachments : (image : List ℕ) (position : ℤ) → None ≡ none_or position (in_segment image attdir_id position attachment_directory) → attachment_rules image position ≡ Err (refusals.bad_attachment position)
unfolding attachment_rules
bad_attachments image position found = rw (← found)

pub many_attachments : (image : List ℕ) (position : ℤ) (d : Directory) → Some (Some d) ≡ none_or position (in_segment image attdir_id position attachment_directory) → 2 ^ 12 < d.count
    → attachment_rules image position ≡ Err (refusals.too_many position d.count)
unfolding attachment_rules
many_attachments image position d found many = let no : nat_le d.count (2 ^ 12) ≡ false = lt-leb d.count (2 ^ 12) many in rw (← found) (rw no)

pub some_attachments : (image : List ℕ) (position : ℤ) (d : Directory) → Some (Some d) ≡ none_or position (in_segment image attdir_id position attachment_directory) → d.count ≤ 2 ^ 12
    → attachment_rules image position ≡ attached_rules image (Some d) >>= (λ items. Ok (let t : Attachments = record { directory = Some d; items = items } in t))
unfolding attachment_rules attached_rules item_rules
some_attachments image position d found few =
    let yes : nat_le d.count (2 ^ 12) ≡ true = le-leb _ _ few in
    rw (← found) (rw yes (regrouped (with_fault (λ at. refusals.bad_attachment (pos at)) (a1_entries image (Some d))) (λ es. each (attachment_at image) (λ e. refusals.bad_attachment e.position) es) _))

-- the metadata
pub no_metadata : (image : List ℕ) (position : ℤ) → position ≡ pos 0 → metadata_rule image position ≡ Ok None
unfolding metadata_rule
no_metadata image position none = rw none

pub some_metadata : (image : List ℕ) (position : ℤ) (m : MetaItem) → (position ≡ pos 0 → ⊥) → Some m ≡ in_segment image metadata_id position meta_item → metadata_rule image position ≡ Ok (Some m)
unfolding metadata_rule
some_metadata image (pos zero) m some is = absurd (some refl)
some_metadata image (pos (suc n)) m some is = rw (← is)
some_metadata image (negsuc n) m some is = rw (← is)

pub bad_metadata : (image : List ℕ) (position : ℤ) → (position ≡ pos 0 → ⊥) → None ≡ in_segment image metadata_id position meta_item → metadata_rule image position ≡ Err (refusals.bad_segment position)
unfolding metadata_rule
bad_metadata image (pos zero) some is = absurd (some refl)
bad_metadata image (pos (suc n)) some is = rw (← is)
bad_metadata image (negsuc n) some is = rw (← is)

-- the rules after those of the file header, after those of the subblocks, and after those of the attachments
abbrev pub behind_attachments : List ℕ → FileHeader → Tiles → Attachments → Result Live Refusal
behind_attachments image header tiled attached = metadata_rule image header.metadata >>= λ metadata.
    Ok (record { header = header; directory = tiled.directory; tiles = tiled.tiles; attdir = attached.directory; attachments = attached.items; metadata = metadata })

abbrev pub behind_tiles : List ℕ → FileHeader → Tiles → Result Live Refusal
behind_tiles image header tiled = attachment_rules image header.attachments >>= (behind_attachments image header tiled)

abbrev pub behind_header : List ℕ → FileHeader → Result Live Refusal
behind_header image header = tile_rules image header.directory >>= (behind_tiles image header)

pub reads_first : (image : List ℕ) → reads_but_overlap image ≡ first_rules image >>= (behind_header image)
unfolding reads_but_overlap
reads_first image = refl

pub after_header : (image : List ℕ) (h : FileHeader) → first_rules image ≡ Ok h → reads_but_overlap image ≡ tile_rules image h.directory >>= (behind_tiles image h)
after_header image h is = reads_first image ∙ ap (λ r. r >>= (behind_header image)) is

pub after_tiles : (image : List ℕ) (h : FileHeader) (t : Tiles) (place : ℤ) → first_rules image ≡ Ok h → place ≡ h.directory → tile_rules image place ≡ Ok t
    → reads_but_overlap image ≡ attachment_rules image h.attachments >>= (behind_attachments image h t)
after_tiles image h t place is here tiled =
    after_header image h is ∙ ap (λ r. r >>= (behind_tiles image h)) (ap (tile_rules image) (sym here) ∙ tiled)

pub after_attachments : (image : List ℕ) (h : FileHeader) (t : Tiles) (a : Attachments) (place where_attached : ℤ) → first_rules image ≡ Ok h → place ≡ h.directory → tile_rules image place ≡ Ok t
    → where_attached ≡ h.attachments → attachment_rules image where_attached ≡ Ok a
    → reads_but_overlap image ≡ metadata_rule image h.metadata >>= (λ metadata.
    Ok (let live : Live = record { header = h; directory = t.directory; tiles = t.tiles; attdir = a.directory; attachments = a.items; metadata = metadata } in live))
after_attachments image h t a place where_attached is here tiled there attached =
    after_tiles image h t place is here tiled ∙ ap (λ r. r >>= (behind_attachments image h t)) (ap (attachment_rules image) (sym there) ∙ attached)
