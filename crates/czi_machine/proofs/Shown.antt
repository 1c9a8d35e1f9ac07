-- What an image shows into which a command was written. Nothing is said of its walk, nor asked of the walk of the image
-- before.
use Rattle.std.proofs.Common.{◌≡◌, ℕ, ◌+◌, ◌≤◌, ℤ, pos, List, length, Some, None, ap, sym, ◌∙◌, arith, inl, inr, ◌⊎◌, subst, zero, suc, ◌<◌, ◌^◌, max, min, [], ◌∷◌, map, false, Option, Ok, option_map, option_to_list, refl}
use Rattle.std.specs.List.{AllByRecursion}
use Rattle.std.proofs.lemmas.Bool.{le-ltb, cases_lt}
use Rattle.czi_format.specs.Bytes.{bytes_at, i32_at, i64_at, i64_bytes}
use Rattle.czi_format.specs.Live.{Live, FileHeader, file_header, Directory, MetaItem, directory, attachment_directory, Tile, tile, AttItem, att_item, meta_item, segments, document, subblock_of, attachment_of, metadata_of}
use Rattle.czi_format.specs.Segment.{Segment, header_at, extent, in_segment, directory_id, subblock_id, attdir_id, attachment_id, metadata_id}
use Rattle.czi_format.specs.Shows.{Reaches, count_of, entries, a1_entries, subblock_at, attachment_at}
use Rattle.czi_format.specs.Span.{Span, end_of, meets, AreDisjoint}
use Rattle.czi_format.proofs.Local.{i32_same, i64_same, same_part, header_is, header_fronts, fronts_header, All-append, IsItsOwn, option_same, found_same, entries_same, a1_entries_same, metadata_same, data_same, tile_own, att_item_own, meta_item_own, directory_own, attdir_own}
use Rattle.czi_format.proofs.Readings.{IsHeader, header_is_read, read_header_is}
use Rattle.czi_format.specs.Partial.{none_or}
use Rattle.czi_format.specs.Same.{SameExtent}
use Rattle.czi_machine.specs.Change.{Setting, same, to, changed, kept, mapped, set, set_kept, mapped_setting}
use Rattle.czi_machine.specs.LiveChange.{LiveChange, changed_live, pointer, kept_segments, effect_of}
use Rattle.czi_machine.specs.Writes.{PutsPointer, AreOnce, WritesIn, ReadsDirectory, ReadsAttdir, ReadsMetadata, ReadsNew}
use Rattle.czi_machine.specs.Written.{Piece, Wrote}
use Rattle.czi_machine.specs.Cover.{between, cover}
use Rattle.czi_machine.specs.Edit.{after}
use Rattle.czi_machine.proofs.Clear.{HeaderAt, header_at_front, header_clear, all_kept}
use Rattle.czi_machine.proofs.Cover.{between_low, between_in}
use Rattle.czi_machine.proofs.Over.{put_bytes, clear_bytes}
use Rattle.czi_machine.proofs.Restated.{same_front, i64_of_bytes}
use Rattle.czi_machine.proofs.Changing.{All-kept, All-changed, map-changed}
use Rattle.czi_machine.proofs.Steady.{on_all}
use Rattle.czi_machine.proofs.Tiled.{All-map, All-weaken}

-- A file header whose pointers have changed.

pub header_relinked : (a b : List ℕ) (h : FileHeader) (dir meta atts : ℤ) → file_header a ≡ Some h → bytes_at a 0 84 ≡ bytes_at b 0 84 → 32 + h.segment.allocated ≤ length b
    → i64_at b 84 ≡ dir → i64_at b 92 ≡ meta → i64_at b 104 ≡ atts
    → file_header b ≡ Some (record h { directory = dir; metadata = meta; attachments = atts })
header_relinked a b h dir meta atts found front inside dir_is meta_is atts_is =
    let f = (header_fronts a h found).0 in
    let s : Segment = h.segment in
    let is : IsHeader a 0 s = header_is_read a 0 s f.header in
    let large : 80 ≤ s.allocated = (header_is a h found).1 in
    let part : i32_at a 80 ≡ i32_at b 80 = i32_same a b 80 (same_part a b 0 84 80 4 front (omega arith)) in
    let allocated : i64_at b 16 ≡ pos s.allocated = sym (i64_same a b 16 (same_part a b 0 84 16 8 front (omega arith))) ∙ is.allocated in
    let used : i64_at b 24 ≡ pos s.used = sym (i64_same a b 24 (same_part a b 0 84 24 8 front (omega arith))) ∙ is.used in
    let id : s.id ≡ bytes_at b 0 16 = is.id ∙ same_front a b 0 84 16 front (omega arith) in
    let here : header_at b s.at ≡ Some s = read_header_is b s (subst (λ p. IsHeader b p s) (sym is.place) (record { place = is.place; id = id; allocated = allocated; used = used })) in
    let identity : bytes_at a 32 52 ≡ bytes_at b 32 52 = same_part a b 0 84 32 52 front (omega arith) in
    fronts_header b (record h { directory = dir; metadata = meta; attachments = atts }) (record {
      header = subst (λ p. header_at b p ≡ Some s) is.place here;
      long = omega (arith, inside, large);
      id = f.id;
      sizes = f.sizes;
      fields = λ i. record {
        segment = s;
        identity = (sym identity ∙ ap (λ (z : FileHeader). z.identity) f.fields) i;
        part = (sym part ∙ ap (λ (z : FileHeader). z.part) f.fields) i;
        directory = dir_is i;
        metadata = meta_is i;
        attachments = atts_is i;
      };
    }) inside

-- a pointer is read again
pub pointer_read : {X : Type 0} (segment : X → Segment) (image other : List ℕ) (pieces : List Piece) (place : ℕ) (c : Setting X) (old : ℤ) → Wrote image other pieces → place + 8 ≤ length image → place + 8 ≤ length other
    → (place + 8 ≤ 100) ⊎ (101 ≤ place) → i64_at image place ≡ old → PutsPointer segment pieces place old c → i64_at other place ≡ pointer segment c old
pointer_read segment image other pieces place same old wrote fits fits' off was puts = sym (i64_same image other place (clear_bytes image other pieces place 8 wrote puts fits fits' off)) ∙ was
pointer_read segment image other pieces place (to None) old wrote fits fits' off was puts =
    i64_of_bytes other place (pos 0) (record { sfits = omega arith }) (put_bytes image other pieces place (i64_bytes (pos 0)) wrote puts fits' off)
pointer_read segment image other pieces place (to (Some x)) old wrote fits fits' off was puts = elim puts.0 [
  | inl new ↦ i64_of_bytes other place (pos (segment x).at) (record { sfits = omega (arith, puts.2) }) (put_bytes image other pieces place (i64_bytes (pos (segment x).at)) wrote new fits' off)
  | inr stays ↦ sym (i64_same image other place (clear_bytes image other pieces place 8 wrote stays.0 fits fits' off)) ∙ (was ∙ stays.1)
]

-- the file header afterwards
pub header_turned : (image other : List ℕ) (live : Live) (t : LiveChange) (marks : List Span) (pieces : List Piece) → Reaches image live → WritesIn live.header t marks pieces → AreOnce live t marks
    → Wrote image other pieces → length image ≤ length other → file_header other ≡ Some (changed_live t live).header
header_turned image other live t marks pieces reaches around once wrote longer =
    let at : HeaderAt image live.header.segment = header_at_front image live reaches in
    let f = (header_fronts image live.header reaches.header).0 in
    let front : bytes_at image 0 84 ≡ bytes_at other 0 84 =
    clear_bytes image other pieces 0 84 wrote (header_clear image live t marks pieces 0 84 at around once (omega arith) (λ q low high. omega (arith, between_low 84 100 q high, between_low 104 112 q (omega (arith, high)))))
    (omega (arith, at.large, at.inside)) (omega (arith, at.large, at.inside, longer)) (inl (omega arith)) in
    header_relinked image other live.header _ _ _ reaches.header front (omega (arith, at.inside, longer))
    (pointer_read (λ (d : Directory). d.segment) image other pieces 84 t.directory live.header.directory wrote (omega (arith, at.large, at.inside)) (omega (arith, at.large, at.inside, longer)) (inl (omega arith)) (ap (λ (z : FileHeader). z.directory) f.fields) around.directory)
    (pointer_read (λ (m : MetaItem). m.segment) image other pieces 92 t.metadata live.header.metadata wrote (omega (arith, at.large, at.inside)) (omega (arith, at.large, at.inside, longer)) (inl (omega arith)) (ap (λ (z : FileHeader). z.metadata) f.fields) around.metadata)
    (pointer_read (λ (d : Directory). d.segment) image other pieces 104 t.attdir live.header.attachments wrote (omega (arith, at.large, at.inside)) (omega (arith, at.large, at.inside, longer)) (inr (omega arith)) (ap (λ (z : FileHeader). z.attachments) f.fields) around.attdir)

-- lists that a reading gives back, and the same element by element
pub each_found : {X Y : Type 0} (read : X → Option Y) (source : Y → X) (ys : List Y) → map (λ y. read (source y)) ys ≡ map Some ys → AllByRecursion (λ y. read (source y) ≡ Some y) ys
each_found read source [] e = tt
each_found read source (y ∷ ys) e =
    let first : read (source y) ≡ Some y = cc in
    let rest : map (λ y. read (source y)) ys ≡ map Some ys = cc in
    (first, each_found read source ys rest)

all_found : {X Y : Type 0} (read : X → Option Y) (source : Y → X) (ys : List Y) → AllByRecursion (λ y. read (source y) ≡ Some y) ys → map (λ y. read (source y)) ys ≡ map Some ys
all_found read source [] all = refl
all_found read source (y ∷ ys) all =
    let first : read (source y) ≡ Some y = all.0 in
    let rest : map (λ y. read (source y)) ys ≡ map Some ys = all_found read source ys all.1 in
    cc

-- spans that have no place twice are disjoint
pub few_disjoint : (xs : List Span) → AllByRecursion (λ (s : Span). 0 < s.len) xs → ((p : ℕ) → cover xs p ≤ 1) → AreDisjoint xs
few_disjoint [] some few = tt
few_disjoint (x ∷ xs) some few = (apart xs some.0 some.1 few, few_disjoint xs some.1 (λ p. omega (arith, few p)))
  where
    apart : (ys : List Span) → 0 < x.len → AllByRecursion (λ (s : Span). 0 < s.len) ys → ((p : ℕ) → between x.at (end_of x) p + cover ys p ≤ 1) → AllByRecursion (λ t. meets x t ≡ false) ys
    apart [] lx ls once = tt
    apart (y ∷ ys) lx ls once = (
      elim (cases_lt (max x.at y.at) (min (end_of x) (end_of y))) [
        | inl h ↦ absurd (omega (arith, once (max x.at y.at), between_in x.at (end_of x) (max x.at y.at) (omega arith) (omega (arith, h)), between_in y.at (end_of y) (max x.at y.at) (omega arith) (omega (arith, h))))
        | inr h ↦ le-ltb _ _ h
      ],
      apart ys lx ls.1 (λ p. omega (arith, once p)),
    )

pub extents_some : (xs : List Segment) → AllByRecursion (λ (s : Span). 0 < s.len) (map extent xs)
extents_some [] = tt
extents_some (x ∷ xs) = (omega arith, extents_some xs)

-- What there is at most one of is found where its pointer leads.
IsFoundNew : {X : Type 0} → List ℕ → List ℕ → (Segment → List ℕ → Option X) → (X → Segment) → Setting X → Type 0
IsFoundNew other id read segment same = Unit {0}
IsFoundNew other id read segment (to None) = Unit {0}
IsFoundNew other id read segment (to (Some x)) = (in_segment other id (pos (segment x).at) read ≡ Some x) × (0 < (segment x).at)

none_or_at : {A : Type 0} (at : ℕ) (found : Option A) (x : A) → 0 < at → found ≡ Some x → none_or (pos at) found ≡ Some (Some x)
none_or_at zero found x some e = absurd (omega arith)
none_or_at (suc n) found x some e = rw e

found_turned : {X : Type 0} (image other id : List ℕ) (read : Segment → List ℕ → Option X) (segment : X → Segment) (c : Setting X) (position : ℤ) (old : Option X) → IsItsOwn read segment
    → none_or position (in_segment image id position read) ≡ Some old → AllByRecursion (SameExtent image other) (option_to_list (option_map segment (set_kept c old))) → IsFoundNew other id read segment c
    → none_or (pointer segment c position) (in_segment other id (pointer segment c position) read) ≡ Some (set c old)
unfolding IsFoundNew
found_turned image other id read segment same position old own was kept new =
    option_same (SameExtent image other) segment position _ _ (λ x s. found_same image other id position read segment x own s) old kept was
found_turned image other id read segment (to None) position old own was kept new = refl
found_turned image other id read segment (to (Some x)) position old own was kept new = none_or_at (segment x).at _ x new.1 new.0

directory_new : (other : List ℕ) (pieces : List Piece) (place : ℕ) (was : ℤ) (c : Setting Directory) (old new : List Tile) → PutsPointer (λ (d : Directory). d.segment) pieces place was c → ReadsDirectory other c old new
    → IsFoundNew other directory_id directory (λ (d : Directory). d.segment) c
unfolding IsFoundNew
directory_new other pieces place was (to (Some d)) old new puts reads = (reads.0, puts.1)
directory_new other pieces place was c old new puts reads = tt

attdir_new : (other : List ℕ) (pieces : List Piece) (place : ℕ) (was : ℤ) (c : Setting Directory) (old new : List AttItem) → PutsPointer (λ (d : Directory). d.segment) pieces place was c → ReadsAttdir other c old new
    → IsFoundNew other attdir_id attachment_directory (λ (d : Directory). d.segment) c
unfolding IsFoundNew
attdir_new other pieces place was (to (Some d)) old new puts reads = (reads.0, puts.1)
attdir_new other pieces place was c old new puts reads = tt

metadata_new : (other : List ℕ) (pieces : List Piece) (place : ℕ) (was : ℤ) (c : Setting MetaItem) → PutsPointer (λ (m : MetaItem). m.segment) pieces place was c → ReadsMetadata other c
    → IsFoundNew other metadata_id meta_item (λ (m : MetaItem). m.segment) c
unfolding IsFoundNew
metadata_new other pieces place was (to (Some m)) puts reads = (reads, puts.1)
metadata_new other pieces place was c puts reads = tt

-- the entries of the directory
entries_turned : (image other : List ℕ) (c : Setting Directory) (old : Option Directory) (tiles new : List Tile) → entries image old ≡ Ok (map (λ (t : Tile). t.entry) tiles)
    → AllByRecursion (SameExtent image other) (option_to_list (option_map (λ (d : Directory). d.segment) (set_kept c old))) → ReadsDirectory other c tiles new
    → entries other (set c old) ≡ Ok (map (λ (t : Tile). t.entry) new)
entries_turned image other same old tiles new was kept reads = sym (entries_same image other old kept) ∙ (was ∙ ap (λ l. Ok (map (λ (t : Tile). t.entry) l)) (sym reads))
entries_turned image other (to None) old tiles new was kept reads = ap (λ l. Ok (map (λ (t : Tile). t.entry) l)) (sym reads)
entries_turned image other (to (Some d)) old tiles new was kept reads = reads.2

a1_entries_turned : (image other : List ℕ) (c : Setting Directory) (old : Option Directory) (items new : List AttItem) → a1_entries image old ≡ Ok (map (λ (t : AttItem). t.entry) items)
    → AllByRecursion (SameExtent image other) (option_to_list (option_map (λ (d : Directory). d.segment) (set_kept c old))) → ReadsAttdir other c items new
    → a1_entries other (set c old) ≡ Ok (map (λ (t : AttItem). t.entry) new)
a1_entries_turned image other same old items new was kept reads = sym (a1_entries_same image other old kept) ∙ (was ∙ ap (λ l. Ok (map (λ (t : AttItem). t.entry) l)) (sym reads))
a1_entries_turned image other (to None) old items new was kept reads = ap (λ l. Ok (map (λ (t : AttItem). t.entry) l)) (sym reads)
a1_entries_turned image other (to (Some d)) old items new was kept reads = reads.2

few_turned : (other : List ℕ) (c : Setting Directory) (old : Option Directory) (tiles new : List Tile) → count_of old ≤ 2 ^ 20 → ReadsDirectory other c tiles new → count_of (set c old) ≤ 2 ^ 20
few_turned other same old tiles new was reads = was
few_turned other (to None) old tiles new was reads = omega arith
few_turned other (to (Some d)) old tiles new was reads = reads.1

few_attachments_turned : (other : List ℕ) (c : Setting Directory) (old : Option Directory) (items new : List AttItem) → count_of old ≤ 2 ^ 12 → ReadsAttdir other c items new → count_of (set c old) ≤ 2 ^ 12
few_attachments_turned other same old items new was reads = was
few_attachments_turned other (to None) old items new was reads = omega arith
few_attachments_turned other (to (Some d)) old items new was reads = reads.1

-- What is kept of each kind is as before.
pub record Kept (image other : List ℕ) (live : Live) (t : LiveChange) : Type 0 where
  pub directory : AllByRecursion (SameExtent image other) (option_to_list (option_map (λ (d : Directory). d.segment) (set_kept t.directory live.directory)))
  pub tiles : AllByRecursion (λ (x : Tile). SameExtent image other x.segment) (kept t.tiles live.tiles)
  pub attdir : AllByRecursion (SameExtent image other) (option_to_list (option_map (λ (d : Directory). d.segment) (set_kept t.attdir live.attdir)))
  pub attachments : AllByRecursion (λ (x : AttItem). SameExtent image other x.segment) (kept t.attachments live.attachments)
  pub metadata : AllByRecursion (SameExtent image other) (option_to_list (option_map (λ (m : MetaItem). m.segment) (set_kept t.metadata live.metadata)))

pub kept_parts : (image other : List ℕ) (live : Live) (t : LiveChange) → AllByRecursion (SameExtent image other) (kept_segments t live) → Kept image other live t
kept_parts image other live t all =
    let P : Segment → Type 0 = SameExtent image other in
    let one = All-append P (option_to_list (option_map (λ (d : Directory). d.segment) (set_kept t.directory live.directory))) _ all in
    let two = All-append P (map (λ (x : Tile). x.segment) (kept t.tiles live.tiles)) _ one.1 in
    let th = All-append P (option_to_list (option_map (λ (d : Directory). d.segment) (set_kept t.attdir live.attdir))) _ two.1 in
    let four = All-append P (map (λ (x : AttItem). x.segment) (kept t.attachments live.attachments)) _ th.1 in
    record {
      directory = one.0;
      tiles = All-map (λ (x : Tile). x.segment) P (kept t.tiles live.tiles) two.0;
      attdir = th.0;
      attachments = All-map (λ (x : AttItem). x.segment) P (kept t.attachments live.attachments) four.0;
      metadata = four.1;
    }

metadata_turned : (image other : List ℕ) (c : Setting MetaItem) (old : Option MetaItem) → AllByRecursion (SameExtent image other) (option_to_list (option_map (λ (m : MetaItem). m.segment) (set_kept c old)))
    → option_map (metadata_of other) (set c old) ≡ set (mapped_setting (metadata_of other) c) (option_map (metadata_of image) old)
metadata_turned image other same old kept = sym (metadata_same image other old kept)
metadata_turned image other (to None) old kept = refl
metadata_turned image other (to (Some m)) old kept = refl

-- The pointers of the image afterwards reach what the command makes of what they reached.
pub reaches_turned : (image other : List ℕ) (live : Live) (t : LiveChange) (marks : List Span) (pieces : List Piece) → Reaches image live → WritesIn live.header t marks pieces → AreOnce live t marks
    → Wrote image other pieces → length image ≤ length other → ReadsNew other t live → Reaches other (changed_live t live)
reaches_turned image other live t marks pieces reaches around once wrote longer new =
    let k : Kept image other live t = kept_parts image other live t (all_kept image other live t marks pieces reaches around once wrote longer) in
    let live' : Live = changed_live t live in
    let tiles : AllByRecursion (λ (x : Tile). subblock_at other x.entry ≡ Some x) (kept t.tiles live.tiles) =
    on_all (λ (x : Tile). subblock_at image x.entry ≡ Some x) (λ (x : Tile). SameExtent image other x.segment) (λ (x : Tile). subblock_at other x.entry ≡ Some x)
    (λ x f s. found_same image other subblock_id x.entry.position (tile x.entry) (λ (z : Tile). z.segment) x (tile_own x.entry) s f) (kept t.tiles live.tiles)
    (All-kept (λ (x : Tile). subblock_at image x.entry ≡ Some x) t.tiles live.tiles (each_found (subblock_at image) (λ (x : Tile). x.entry) live.tiles reaches.tiles)) k.tiles in
    let items : AllByRecursion (λ (x : AttItem). attachment_at other x.entry ≡ Some x) (kept t.attachments live.attachments) =
    on_all (λ (x : AttItem). attachment_at image x.entry ≡ Some x) (λ (x : AttItem). SameExtent image other x.segment) (λ (x : AttItem). attachment_at other x.entry ≡ Some x)
    (λ x f s. found_same image other attachment_id x.entry.position (att_item x.entry) (λ (z : AttItem). z.segment) x (att_item_own x.entry) s f) (kept t.attachments live.attachments)
    (All-kept (λ (x : AttItem). attachment_at image x.entry ≡ Some x) t.attachments live.attachments (each_found (attachment_at image) (λ (x : AttItem). x.entry) live.attachments reaches.attachments)) k.attachments in
    record {
      header = header_turned image other live t marks pieces reaches around once wrote longer;
      part = reaches.part;
      directory = found_turned image other directory_id directory (λ (d : Directory). d.segment) t.directory live.header.directory live.directory directory_own reaches.directory k.directory
          (directory_new other pieces 84 live.header.directory t.directory live.tiles live'.tiles around.directory new.directory);
      few = few_turned other t.directory live.directory live.tiles live'.tiles reaches.few new.directory;
      entries = entries_turned image other t.directory live.directory live.tiles live'.tiles reaches.entries k.directory new.directory;
      tiles = all_found (subblock_at other) (λ (x : Tile). x.entry) (changed t.tiles live.tiles) (All-changed (λ (x : Tile). subblock_at other x.entry ≡ Some x) t.tiles live.tiles tiles new.tiles);
      attdir = found_turned image other attdir_id attachment_directory (λ (d : Directory). d.segment) t.attdir live.header.attachments live.attdir attdir_own reaches.attdir k.attdir
          (attdir_new other pieces 104 live.header.attachments t.attdir live.attachments live'.attachments around.attdir new.attdir);
      few_attachments = few_attachments_turned other t.attdir live.attdir live.attachments live'.attachments reaches.few_attachments new.attdir;
      a1_entries = a1_entries_turned image other t.attdir live.attdir live.attachments live'.attachments reaches.a1_entries k.attdir new.attdir;
      attachments = all_found (attachment_at other) (λ (x : AttItem). x.entry) (changed t.attachments live.attachments) (All-changed (λ (x : AttItem). attachment_at other x.entry ≡ Some x) t.attachments live.attachments items new.attachments);
      metadata = found_turned image other metadata_id meta_item (λ (m : MetaItem). m.segment) t.metadata live.header.metadata live.metadata meta_item_own reaches.metadata k.metadata
          (metadata_new other pieces 92 live.header.metadata t.metadata around.metadata new.metadata);
      disjoint = few_disjoint (map extent (segments live')) (extents_some (segments live')) (λ p. omega (arith, once.once p));
    }

pub document_turned : (image other : List ℕ) (live : Live) (t : LiveChange) (marks : List Span) (pieces : List Piece) → Reaches image live → WritesIn live.header t marks pieces → AreOnce live t marks
    → Wrote image other pieces → length image ≤ length other → document other (changed_live t live) ≡ after (effect_of other t) (document image live)
document_turned image other live t marks pieces reaches around once wrote longer =
    let k : Kept image other live t = kept_parts image other live t (all_kept image other live t marks pieces reaches around once wrote longer) in
    let subblocks : map (subblock_of other) (changed t.tiles live.tiles) ≡ changed (mapped (subblock_of other) t.tiles) (map (subblock_of image) live.tiles) =
    map-changed (subblock_of image) (subblock_of other) t.tiles live.tiles
    (All-weaken (λ (x : Tile). SameExtent image other x.segment) (λ (x : Tile). subblock_of image x ≡ subblock_of other x) (λ x s. let d = data_same image other x.segment s in cc (d)) (kept t.tiles live.tiles) k.tiles) in
    let attachments : map (attachment_of other) (changed t.attachments live.attachments) ≡ changed (mapped (attachment_of other) t.attachments) (map (attachment_of image) live.attachments) =
    map-changed (attachment_of image) (attachment_of other) t.attachments live.attachments
    (All-weaken (λ (x : AttItem). SameExtent image other x.segment) (λ (x : AttItem). attachment_of image x ≡ attachment_of other x) (λ x s. let d = data_same image other x.segment s in cc (d)) (kept t.attachments live.attachments) k.attachments) in
    λ i. record {
      identity = live.header.identity;
      subblocks = subblocks i;
      attachments = attachments i;
      metadata = metadata_turned image other t.metadata live.metadata k.metadata i;
    }

pub any_image : (image other : List ℕ) (live : Live) (t : LiveChange) (marks : List Span) (pieces : List Piece) → Reaches image live → WritesIn live.header t marks pieces → AreOnce live t marks
    → Wrote image other pieces → length image ≤ length other → ReadsNew other t live
    → Reaches other (changed_live t live) × (document other (changed_live t live) ≡ after (effect_of other t) (document image live))
any_image image other live t marks pieces reaches around once wrote longer new =
    (reaches_turned image other live t marks pieces reaches around once wrote longer new, document_turned image other live t marks pieces reaches around once wrote longer)
