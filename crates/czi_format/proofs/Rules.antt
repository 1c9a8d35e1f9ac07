-- The rules refuse nothing exactly where the image shows a document and UpdatePending is 0.
use Rattle.std.proofs.Common.{◌≡◌, ℕ, zero, suc, ◌<◌, ◌^◌, ℤ, pos, negsuc, List, [], ◌∷◌, map, Bool, true, false, nat_le, Option, Some, None, Result, Ok, Err, refl, ap, sym, ◌∙◌, arith, subst, ◌⊎◌, inl, inr}
use Rattle.std.specs.Option.{ok_or}
use Rattle.std.specs.List.{AllByRecursion}
use Rattle.std.proofs.lemmas.Bool.{leb-true, le-leb}
use Rattle.czi_format.specs.Partial.{is_zero, none_or}
use Rattle.czi_format.specs.FirstFault.{◌>>=◌, ◌>>◌, unless, each, with_fault}
use Rattle.czi_format.specs.Span.{Span, sorted, span_le}
use Rattle.czi_format.specs.Segment.{Segment, extent, in_segment, data_of, sound_segment, directory_id, subblock_id, attachment_id, attdir_id, metadata_id}
use Rattle.czi_format.specs.Entry.{Entry, A1}
use Rattle.czi_format.specs.Contents.{sub_head, att_size}
use Rattle.czi_format.specs.Document.{Document}
use Rattle.czi_format.specs.Live.{Live, FileHeader, file_header, update_pending, directory, attachment_directory, Tile, tile, AttItem, att_item, meta_item, segments, document}
use Rattle.czi_format.specs.Shows.{Reaches, Shows, count_of, entries, a1_entries, subblock_at, attachment_at}
use Rattle.czi_format.specs.Refusals as refusals
use Rattle.czi_format.specs.Refusals.{Refusal, IsRefused, Tiles, Attachments, first_rules, tile_rules, attachment_rules, metadata_rule, reads_but_overlap, reading, first_meeting}
use Rattle.czi_format.proofs.Readings.{bind_some, given_some}
use Rattle.czi_format.proofs.Overlap.{none_meet, disjoint_none}

pub on_ok : {A B E G : Type 0} (r : Result A E) (f : A → Result B E) (y : B) → r >>= f ≡ Ok y → ((x : A) → r ≡ Ok x → f x ≡ Ok y → G) → G
on_ok (Ok x) f y e go = go x refl e
on_ok (Err x) f y e go = absurd (cc)

pub on_rule : {A E G : Type 0} (o : Option E) (rest : Result A E) (y : A) → o >> rest ≡ Ok y → (o ≡ None → rest ≡ Ok y → G) → G
on_rule None rest y e go = go refl e
on_rule (Some x) rest y e go = absurd (cc)

pub ok_or_ok : {A E : Type 0} (o : Option A) (e : E) (x : A) → ok_or o e ≡ Ok x → o ≡ Some x
ok_or_ok None e x h = cc
ok_or_ok (Some y) e x h = cc

pub unless_none : {E : Type 0} (b : Bool) (e : E) → unless b e ≡ None → b ≡ true
unless_none true e h = refl
unless_none false e h = cc

with_fault_ok : {A D E : Type 0} (f : D → E) (r : Result A D) (x : A) → with_fault f r ≡ Ok x → r ≡ Ok x
with_fault_ok f (Ok y) x h = cc
with_fault_ok f (Err e) x h = cc

pub zero_is : (z : ℤ) → is_zero z ≡ true → z ≡ pos 0
zero_is (pos zero) h = refl
zero_is (pos (suc n)) h = cc
zero_is (negsuc n) h = cc

-- each is read: item by item, and each item names what it was read from
each_ok : {X Y E : Type 0} (read : X → Option Y) (fault : X → E) (source : Y → X) → ((x : X) (y : Y) → read x ≡ Some y → source y ≡ x)
    → (xs : List X) (ys : List Y) → each read fault xs ≡ Ok ys → (xs ≡ map source ys) × (map (λ y. read (source y)) ys ≡ map Some ys)
each_ok read fault source own [] [] e = (refl, refl)
each_ok read fault source own [] (y ∷ ys) e = cc
each_ok read fault source own (x ∷ xs) zs e =
    on_ok (ok_or (read x) (fault x)) _ zs e λ y first more.
    on_ok (each read fault xs) _ zs more λ ys others whole.
    let reads : read x ≡ Some y = ok_or_ok (read x) (fault x) y first in
    let from : source y ≡ x = own x y reads in
    let rest = each_ok read fault source own xs ys others in
    let sources : xs ≡ map source ys = rest.0 in
    let again : map (λ y. read (source y)) ys ≡ map Some ys = rest.1 in
    let is : zs ≡ y ∷ ys = cc in
    let back : read (source y) ≡ Some y = ap read from ∙ reads in
    (cc, subst (λ (l : List _). map (λ y. read (source y)) l ≡ map Some l) (sym is) (cc))

each_back : {X Y E : Type 0} (read : X → Option Y) (fault : X → E) (source : Y → X)
    → (ys : List Y) → map (λ y. read (source y)) ys ≡ map Some ys → each read fault (map source ys) ≡ Ok ys
each_back read fault source [] e = refl
each_back read fault source (y ∷ ys) e =
    let first : read (source y) ≡ Some y = cc in
    let others : map (λ y. read (source y)) ys ≡ map Some ys = cc in
    let rest : each read fault (map source ys) ≡ Ok ys = each_back read fault source ys others in
    rw (first, rest)

in_some : {A : Type 0} (image id : List ℕ) (position : ℤ) (read : Segment → List ℕ → Option A) (x : A) → in_segment image id position read ≡ Some x
    → (s : Segment) × (sound_segment image id position ≡ Some s) × (read s (data_of image s) ≡ Some x)
unfolding in_segment
in_some image id position read x e = bind_some (sound_segment image id position) (λ s. read s (data_of image s)) x e

own_entry : (image : List ℕ) (e : Entry) (t : Tile) → subblock_at image e ≡ Some t → t.entry ≡ e
unfolding tile
own_entry image e t found =
    let s = in_some image subblock_id e.position (tile e) t found in
    let h = bind_some (sub_head (data_of image s.0)) _ t s.2 in
    ap (λ (z : Tile). z.entry) (sym (given_some _ _ t h.2).1)

own_a1 : (image : List ℕ) (e : A1) (t : AttItem) → attachment_at image e ≡ Some t → t.entry ≡ e
unfolding att_item
own_a1 image e t found =
    let s = in_some image attachment_id e.position (att_item e) t found in
    let h = bind_some (att_size (data_of image s.0)) _ t s.2 in
    ap (λ (z : AttItem). z.entry) (sym (given_some _ _ t h.2).1)

not_empty : (ss : List Segment) → AllByRecursion (λ (s : Span). 0 < s.len) (map extent ss)
not_empty [] = tt
not_empty (s ∷ ss) = (omega arith, not_empty ss)

-- the rows' answers, put together
assembled : (image : List ℕ) (live : Live) (dvs : List Entry) (a1s : List A1)
    → file_header image ≡ Some live.header → is_zero live.header.part ≡ true → is_zero (update_pending image) ≡ true
    → none_or live.header.directory (in_segment image directory_id live.header.directory directory) ≡ Some live.directory
    → nat_le (count_of live.directory) (2 ^ 20) ≡ true → entries image live.directory ≡ Ok dvs
    → each (subblock_at image) (λ e. refusals.bad_segment e.position) dvs ≡ Ok live.tiles
    → none_or live.header.attachments (in_segment image attdir_id live.header.attachments attachment_directory) ≡ Some live.attdir
    → nat_le (count_of live.attdir) (2 ^ 12) ≡ true → a1_entries image live.attdir ≡ Ok a1s
    → each (attachment_at image) (λ a. refusals.bad_attachment a.position) a1s ≡ Ok live.attachments
    → none_or live.header.metadata (in_segment image metadata_id live.header.metadata meta_item) ≡ Some live.metadata
    → first_meeting (sorted span_le (map extent (segments live))) ≡ None
    → Reaches image live × (update_pending image ≡ pos 0)
assembled image live dvs a1s header part pending dir few dv tiles attdir few_a1 a1 atts meta apart =
    let t = each_ok (subblock_at image) (λ e. refusals.bad_segment e.position) (λ (t : Tile). t.entry) (own_entry image) dvs live.tiles tiles in
    let a = each_ok (attachment_at image) (λ e. refusals.bad_attachment e.position) (λ (t : AttItem). t.entry) (own_a1 image) a1s live.attachments atts in (
      record {
        header = header;
        part = zero_is live.header.part part;
        directory = dir;
        few = leb-true _ _ few;
        entries = dv ∙ ap Ok t.0;
        tiles = t.1;
        attdir = attdir;
        few_attachments = leb-true _ _ few_a1;
        a1_entries = a1 ∙ ap Ok a.0;
        attachments = a.1;
        metadata = meta;
        disjoint = none_meet (map extent (segments live)) (not_empty (segments live)) apart;
      },
      zero_is (update_pending image) pending,
    )

ok_is : {A E : Type 0} (x y : A) → (let r : Result A E = Ok x in r) ≡ Ok y → x ≡ y
ok_is x y e = cc

-- what the rules of the file header say of what they answer
pub record HeaderPasses (image : List ℕ) (header : FileHeader) : Type 0 where
  pub header_is : file_header image ≡ Some header
  pub part : is_zero header.part ≡ true
  pub pending : is_zero (update_pending image) ≡ true

pub header_passes : (image : List ℕ) (header : FileHeader) → first_rules image ≡ Ok header → HeaderPasses image header
unfolding first_rules
header_passes image header e =
    on_ok (ok_or (file_header image) refusals.not_czi) _ header e λ h r1 e.
    on_rule (unless (is_zero h.part) (refusals.multi_part h.part)) _ header e λ r2 e.
    on_rule (unless (is_zero (update_pending image)) (refusals.pending (update_pending image))) (Ok h) header e λ r3 e.
    let same : h ≡ header = ok_is {E = Refusal} h header e in
    record {
      header_is = ok_or_ok _ _ _ r1 ∙ ap Some same;
      part = ap (λ (z : FileHeader). is_zero z.part) (sym same) ∙ unless_none _ _ r2;
      pending = unless_none _ _ r3;
    }

-- what the rules of the directory say
pub record TilesPass (image : List ℕ) (position : ℤ) (l : Tiles) : Type 0 where
  pub dvs : List Entry
  pub found : none_or position (in_segment image directory_id position directory) ≡ Some l.directory
  pub few : nat_le (count_of l.directory) (2 ^ 20) ≡ true
  pub entries_are : entries image l.directory ≡ Ok dvs
  pub tiles_are : each (subblock_at image) (λ e. refusals.bad_segment e.position) dvs ≡ Ok l.tiles

pub tiles_pass : (image : List ℕ) (position : ℤ) (l : Tiles) → tile_rules image position ≡ Ok l → TilesPass image position l
unfolding tile_rules
tiles_pass image position l e =
    on_ok (ok_or (none_or position (in_segment image directory_id position directory)) (refusals.bad_directory position)) _ l e λ dir r4 e.
    on_rule (unless (nat_le (count_of dir) (2 ^ 20)) (refusals.too_many position (count_of dir))) _ l e λ r5 e.
    on_ok (with_fault (λ at. refusals.bad_entry (pos at)) (entries image dir)) _ l e λ dvs r6 e.
    on_ok (each (subblock_at image) (λ e. refusals.bad_segment e.position) dvs) _ l e λ tiles r7 e.
    let made : Tiles = record { directory = dir; tiles = tiles } in
    let same : made ≡ l = ok_is {E = Refusal} made l e in
    record {
      dvs = dvs;
      found = ok_or_ok _ _ _ r4 ∙ ap (λ (z : Tiles). Some z.directory) same;
      few = ap (λ (z : Tiles). nat_le (count_of z.directory) (2 ^ 20)) (sym same) ∙ unless_none _ _ r5;
      entries_are = ap (λ (z : Tiles). entries image z.directory) (sym same) ∙ with_fault_ok _ _ _ r6;
      tiles_are = r7 ∙ ap (λ (z : Tiles). let r : Result (List Tile) Refusal = Ok z.tiles in r) same;
    }

-- what those of the attachment directory say
pub record AttachmentsPass (image : List ℕ) (position : ℤ) (l : Attachments) : Type 0 where
  pub a1s : List A1
  pub found : none_or position (in_segment image attdir_id position attachment_directory) ≡ Some l.directory
  pub few : nat_le (count_of l.directory) (2 ^ 12) ≡ true
  pub entries_are : a1_entries image l.directory ≡ Ok a1s
  pub items_are : each (attachment_at image) (λ a. refusals.bad_attachment a.position) a1s ≡ Ok l.items

pub attachments_pass : (image : List ℕ) (position : ℤ) (l : Attachments) → attachment_rules image position ≡ Ok l → AttachmentsPass image position l
unfolding attachment_rules
attachments_pass image position l e =
    on_ok (ok_or (none_or position (in_segment image attdir_id position attachment_directory)) (refusals.bad_attachment position)) _ l e λ dir r8 e.
    on_rule (unless (nat_le (count_of dir) (2 ^ 12)) (refusals.too_many position (count_of dir))) _ l e λ r9 e.
    on_ok (with_fault (λ at. refusals.bad_attachment (pos at)) (a1_entries image dir)) _ l e λ a1s r10 e.
    on_ok (each (attachment_at image) (λ a. refusals.bad_attachment a.position) a1s) _ l e λ items r11 e.
    let made : Attachments = record { directory = dir; items = items } in
    let same : made ≡ l = ok_is {E = Refusal} made l e in
    record {
      a1s = a1s;
      found = ok_or_ok _ _ _ r8 ∙ ap (λ (z : Attachments). Some z.directory) same;
      few = ap (λ (z : Attachments). nat_le (count_of z.directory) (2 ^ 12)) (sym same) ∙ unless_none _ _ r9;
      entries_are = ap (λ (z : Attachments). a1_entries image z.directory) (sym same) ∙ with_fault_ok _ _ _ r10;
      items_are = r11 ∙ ap (λ (z : Attachments). let r : Result (List AttItem) Refusal = Ok z.items in r) same;
    }

-- what is reached where the extents don't meet
reached_apart : (image : List ℕ) (live : Live) → reads_but_overlap image ≡ Ok live → first_meeting (sorted span_le (map extent (segments live))) ≡ None
    → Reaches image live × (update_pending image ≡ pos 0)
unfolding reads_but_overlap metadata_rule
reached_apart image live e apart =
    on_ok (first_rules image) _ live e λ header h e.
    on_ok (tile_rules image header.directory) _ live e λ tiled t e.
    on_ok (attachment_rules image header.attachments) _ live e λ attached a e.
    on_ok (ok_or (none_or header.metadata (in_segment image metadata_id header.metadata meta_item)) (refusals.bad_segment header.metadata)) _ live e λ meta m e.
    let found : Live = record { header = header; directory = tiled.directory; tiles = tiled.tiles; attdir = attached.directory; attachments = attached.items; metadata = meta } in
    let same : found ≡ live = ok_is {E = Refusal} found live e in
    let hp = header_passes image header h in
    let tp = tiles_pass image header.directory tiled t in
    let ap' = attachments_pass image header.attachments attached a in
    subst (λ l. Reaches image l × (update_pending image ≡ pos 0)) same
    (assembled image found tp.dvs ap'.a1s hp.header_is hp.part hp.pending tp.found tp.few tp.entries_are tp.tiles_are ap'.found ap'.few ap'.entries_are ap'.items_are (ok_or_ok _ _ _ m)
    (ap (λ (l : Live). first_meeting (sorted span_le (map extent (segments l)))) same ∙ apart))

pub reading_reaches : (image : List ℕ) (live : Live) → reading image ≡ Ok live → Reaches image live × (update_pending image ≡ pos 0)
unfolding reading
reading_reaches image live e =
    on_ok (reads_but_overlap image) _ live e λ found r e.
    on_rule (first_meeting (sorted span_le (map extent (segments found)))) (Ok found) live e λ apart e.
    subst (λ l. Reaches image l × (update_pending image ≡ pos 0)) (ok_is {E = Refusal} found live e) (reached_apart image found r apart)

pub reaches_reading : (image : List ℕ) (live : Live) → Reaches image live → update_pending image ≡ pos 0 → reading image ≡ Ok live
unfolding reading reads_but_overlap first_rules tile_rules attachment_rules metadata_rule
reaches_reading image live r settled =
    let few : nat_le (count_of live.directory) (2 ^ 20) ≡ true = le-leb _ _ r.few in
    let few_a1 : nat_le (count_of live.attdir) (2 ^ 12) ≡ true = le-leb _ _ r.few_attachments in
    let tiles = each_back (subblock_at image) (λ e. refusals.bad_segment e.position) (λ (t : Tile). t.entry) live.tiles r.tiles in
    let atts = each_back (attachment_at image) (λ e. refusals.bad_attachment e.position) (λ (t : AttItem). t.entry) live.attachments r.attachments in
    let apart = disjoint_none (map extent (segments live)) r.disjoint in
    rw (r.header, r.part, settled, r.directory, few, r.entries, tiles, r.attdir, few_a1, r.a1_entries, atts, r.metadata, apart)

-- by what the rules answer
by_reading : (image : List ℕ) (r : Result Live Refusal) → reading image ≡ r
    → ((f : Refusal) × IsRefused image f) ⊎ ((d : Document) × Shows image d × (update_pending image ≡ pos 0))
by_reading image (Err f) e = inl (f, e)
by_reading image (Ok live) e =
    let found = reading_reaches image live e in
    inr (document image live, (live, found.0, refl), found.1)

pub refused_or_shown : (image : List ℕ) → ((f : Refusal) × IsRefused image f) ⊎ ((d : Document) × Shows image d × (update_pending image ≡ pos 0))
refused_or_shown image = by_reading image (reading image) refl

pub never_both : (image : List ℕ) (f : Refusal) (d : Document) → IsRefused image f → Shows image d → update_pending image ≡ pos 0 → ⊥
never_both image f d refused (live, reaches, is) settled =
    let reads : reading image ≡ Ok live = reaches_reading image live reaches settled in
    absurd (cc)
