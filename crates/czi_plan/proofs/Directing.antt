-- What the pieces of a plan put, and the directory of subblocks after they were written, as the machine asks for it.
use Rattle.std.proofs.Common.{◌≡◌, ◌⊎◌, ℕ, zero, suc, ◌+◌, ◌-◌, ◌<◌, ◌≤◌, ℤ, pos, negsuc, List, [], ◌∷◌, ◌++◌, map, filter, length, sum, true, false, Bool, not, Option, Some, None, option_map, option_to_list, refl, ap, sym, ◌∙◌, subst, arith, inl, inr}
use Rattle.std.specs.Bool.{⊤}
use Rattle.std.specs.List.{AllByRecursion, flat_map, list_any}
use Rattle.std.proofs.lemmas.Bool.{and_parts, cases_Bool, cases_lt, leb-true}
use Rattle.std.proofs.lemmas.List.{map-append}
use Rattle.std.proofs.lemmas.List.Sorted.{IsPermutation-sym}
use Rattle.std.proofs.lemmas.List.Sums.{sum_by-cons}
use Rattle.czi_format.specs.Bytes.{i64_bytes}
use Rattle.czi_format.specs.Live.{Directory}
use Rattle.czi_format.specs.Partial.{◌>>=◌, none_or}
use Rattle.czi_format.specs.Segment.{Segment, data_of as data_in_segment, extent, header_bytes, in_segment, sound_segment}
use Rattle.czi_format.specs.Space.{Space, deleted_after, same_span, use_span}
use Rattle.czi_format.specs.Span.{Span, end_of}
use Rattle.czi_format.proofs.Local.{All-append, IsItsOwn}
use Rattle.czi_format.proofs.Readings.{IsSoundSegment, bind_some, both_true, is_sound}
use Rattle.czi_image.specs.Change.{directory_set}
use Rattle.czi_image.specs.Holds.{extent_of, lies_at}
use Rattle.czi_image.specs.Spans.{directory_span}
use Rattle.czi_image.specs.declared.change.DirectoryChange.{DirectoryChange}
use Rattle.czi_image.specs.declared.change.DirectoryChange.TheVariants.{Kept, Patched, New}
use Rattle.czi_image.specs.declared.index.Index.{Index}
use Rattle.czi_image.specs.declared.types.DirItem.{DirItem}
use Rattle.czi_links.specs.Record.{Bytes}
use Rattle.czi_machine.specs.Change.{Setting, same, set_new, to}
use Rattle.czi_machine.specs.Cover.{between, cover}
use Rattle.czi_machine.specs.Patch.{IsAmong, PatchPuts, Patches as PatchesList, total}
use Rattle.czi_machine.specs.Puts.{PutsSegment}
use Rattle.czi_machine.specs.Writes.{PutsDeleted, PutsPointer, deleted_segment, head}
use Rattle.czi_machine.specs.Written.{Piece, Puts, byte_of, piece_span}
use Rattle.czi_machine.proofs.Clear.{heads_within}
use Rattle.czi_machine.proofs.Cover.{cover-append, cover-sorted}
use Rattle.czi_machine.proofs.LiveStand.{bytes_same}
use Rattle.czi_machine.proofs.Over.{apart_put, none_put, put_within}
use Rattle.czi_machine.proofs.Placing.{covers_own}
use Rattle.czi_machine.proofs.Steady.{on_all}
use Rattle.czi_machine.proofs.Tiled.{All-filter, All-map, All-weaken}
use Rattle.czi_spans.proofs.Sorting.{all_moved}
use Rattle.czi_plan.specs.Directory.{need_of}
use Rattle.czi_plan.specs.Kind.{Kind}
use Rattle.czi_plan.specs.Geometry.{AreParts, IsLong}
use Rattle.czi_plan.specs.Listing.{IsPlace, entries_len, size_in}
use Rattle.czi_plan.specs.Marks.{AreInOrder, byte_span, deleted_mark, is_new, some_mark, wanted}
use Rattle.czi_plan.specs.Pieces.{piece_of}
use Rattle.czi_plan.proofs.Entries.{size_in_part}
use Rattle.czi_plan.proofs.KindLaws.{Laws}
use Rattle.czi_plan.proofs.Linking.{AreWhole, OwnMarks, both_cover, cover-fewer, is_32, low_none, marks_by, some_cover, spans_are, wanted_cover, writes_by}
use Rattle.czi_plan.proofs.Order.{at_place}
use Rattle.czi_plan.proofs.Parts.{fit_place, kept_of, pointers_of, used_by, written_dir}

each_among : (xs : List Piece) → AllByRecursion (λ p. IsAmong p xs) xs
each_among [] = tt
each_among (x ∷ xs) = ((0, refl), All-weaken (λ p. IsAmong p xs) (λ p. IsAmong p (x ∷ xs)) (λ p h. (suc h.0, h.1)) xs (each_among xs))

abbrev pub IsPut : List Piece → Bytes → Type 0
IsPut pieces b = IsAmong (piece_of b) pieces × Puts pieces b.place b.bytes

abbrev pub PutsHead : List Piece → Span → Type 0
PutsHead pieces e = Puts pieces e.at (header_bytes (deleted_segment e))

-- What the pieces of a plan put: its writes, marks of its own, and headers of new DELETED extents and of dead spans.
pub record AreWritten (pieces : List Piece) (ws own : List Bytes) (after dead es : List Span) : Type 0 where
  pub puts_writes : AllByRecursion (IsPut pieces) ws
  pub puts_own : AllByRecursion (IsPut pieces) own
  pub puts_new : AllByRecursion (PutsHead pieces) (filter (is_new es) after)
  pub puts_dead : AllByRecursion (PutsHead pieces) dead
  pub covers : (q : ℕ) → cover (map piece_span pieces) q ≡ cover (map byte_span ws) q + (cover (map byte_span own) q + (cover (map head (filter (is_new es) after)) q + cover (map head dead) q))

pub are_written : (ws own : List Bytes) (used freed dead es : List Span) (links : List Bytes) → ((q : ℕ) → cover (map piece_span (map piece_of (ws ++ links))) q ≤ 1) → AreInOrder own used freed dead es links
    → AreWritten (map piece_of (ws ++ links)) ws own (deleted_after used freed es) dead es
are_written ws own used freed dead es links once are =
    let ps : List Piece = map piece_of (ws ++ links) in
    let N : List Span = filter (is_new es) (deleted_after used freed es) in
    let put : AllByRecursion (λ (p : Piece). IsAmong p ps × Puts ps p.place p.bytes) ps = on_all (λ (p : Piece). IsAmong p ps) (λ (p : Piece). Puts ps p.place p.bytes) _ (λ p a b. (a, b)) ps (each_among ps) (apart_put ps once) in
    let parts = All-append (IsPut ps) ws links (All-map piece_of (λ (p : Piece). IsAmong p ps × Puts ps p.place p.bytes) (ws ++ links) put) in
    let first = All-append (IsPut ps) own (map deleted_mark N ++ map deleted_mark dead) (all_moved (IsPut ps) links (wanted own used freed dead es) (IsPermutation-sym (wanted own used freed dead es) links are.moved) parts.1) in
    let second = All-append (IsPut ps) (map deleted_mark N) (map deleted_mark dead) first.1 in
    let heads : (xs : List Span) → AllByRecursion (IsPut ps) (map deleted_mark xs) → AllByRecursion (PutsHead ps) xs = λ xs all. All-weaken (λ (s : Span). IsPut ps (deleted_mark s)) (PutsHead ps) (λ s h. h.1) xs (All-map deleted_mark (IsPut ps) xs all) in
    record {
      puts_writes = parts.0;
      puts_own = first.0;
      puts_new = heads N second.0;
      puts_dead = heads dead second.1;
      covers = λ q. omega (
        arith,
        ap (λ l. cover l q) (spans_are (ws ++ links) ∙ map-append byte_span ws links),
        cover-append (map byte_span ws) (map byte_span links) q,
        ap (λ l. cover l q) are.sorts,
        cover-sorted (map byte_span (wanted own used freed dead es)) q,
        wanted_cover own used freed dead es q,
      );
    }

-- some spans, and those of them that pass a test
split_cover : (p : Span → Bool) (xs : List Span) (q : ℕ) → cover (filter p xs) q + cover (filter (λ x. not (p x)) xs) q ≡ cover xs q
split_cover p [] q = refl
split_cover p (x ∷ xs) q = elim (cases_Bool (p x)) [ inl e ↦ rw e (omega (arith, split_cover p xs q)) | inr e ↦ rw e (omega (arith, split_cover p xs q)) ]

-- what holds of those that pass, and, with their places, of the others
all_by : (P : Span → Type 0) (p : Span → Bool) (zs xs : List Span) → AllByRecursion P (filter p xs) → AllByRecursion (λ (e : Span). (q : ℕ) → between e.at (end_of e) q ≤ cover zs q) (filter (λ x. not (p x)) xs) → AllByRecursion (λ (s : Span). 32 ≤ s.len) xs
    → ((e : Span) → p e ≡ false → 32 ≤ e.len → ((q : ℕ) → between e.at (end_of e) q ≤ cover zs q) → P e) → AllByRecursion P xs
all_by P p zs [] a b long f = tt
all_by P p zs (x ∷ xs) a b long f = elim (cases_Bool (p x)) [
  | inl e ↦ (let here = rw e at a in here.0, all_by P p zs xs (let here = rw e at a in here.1) (rw e at b) long.1 f)
  | inr e ↦ (f x e long.0 (let here = rw e at b in here.0), all_by P p zs xs (rw e at a) (let here = rw e at b in here.1) long.1 f)
]

-- each DELETED extent has its header: it was written, or it stood there and nothing is written into it
pub extents_put : (pieces : List Piece) (ws own : List Bytes) (after dead es : List Span) → AreWritten pieces ws own after dead es → AllByRecursion (λ (s : Span). 32 ≤ s.len) after → AllByRecursion (λ (s : Span). 32 ≤ s.len) dead
    → ((q : ℕ) → cover (map byte_span ws) q + cover (map byte_span own) q + (cover after q + cover dead q) ≤ 1) → AllByRecursion (PutsDeleted es pieces) after
extents_put pieces ws own after dead es written long long' once =
    let N : List Span = filter (is_new es) after in
    let O : List Span = filter (λ e. not (is_new es e)) after in
    let stood : (e : Span) → is_new es e ≡ false → 32 ≤ e.len → ((q : ℕ) → between e.at (end_of e) q ≤ cover O q) → PutsDeleted es pieces e = λ e old some h. inl (
      elim (cases_Bool (list_any (same_span e) es)) [ inl k ↦ k | inr k ↦ absurd (let clash = rw k at old in cc (clash)) ],
      λ q low high. none_put pieces q (omega (arith, written.covers q, heads_within N q (All-filter _ (is_new es) after long), heads_within dead q long', once q, split_cover (is_new es) after q, h q, at_place, low, high, some)),
    ) in
    all_by (PutsDeleted es pieces) (is_new es) O after (All-weaken (PutsHead pieces) (PutsDeleted es pieces) (λ e h. inr h) N written.puts_new) (covers_own O) long stood

-- The directory of a plan: what becomes of it, what lies before it, and what the plan's pieces are.
pub record WritesDir {C E S : Type 0} (k : Kind C E S) (x : Index) (was : Option DirItem) (c : DirectoryChange) (front middle back : List E) (space : Space) (n top : ℕ) (used beside : List Span) (ws own : List Bytes) (freed dead es : List Span) (pieces : List Piece) : Type 0 where
  pub place : IsPlace x was (size_in k (front ++ (middle ++ back))) (entries_len k middle) space c
  pub parts : AreParts n top (used ++ used_by c) freed dead (beside ++ kept_of c was) es
  pub whole : AreWhole k c front middle back
  pub before : OwnMarks top 1 32 ws own (used ++ beside)
  pub listing : OwnMarks top 3 65548 (writes_by k c (front ++ (middle ++ back))) (marks_by k was c front middle back) (pointers_of k.pointer c ++ written_dir c was)
  pub once : (q : ℕ) → cover (map piece_span pieces) q ≤ 1
  pub written : AreWritten pieces (ws ++ writes_by k c (front ++ (middle ++ back))) (own ++ marks_by k was c front middle back) (deleted_after (used ++ used_by c) freed es) dead es
  pub few : length (front ++ (middle ++ back)) ≤ k.most

pub pointer_of : (pointer q : ℕ) (c : DirectoryChange) → cover (pointers_of pointer c) q ≤ between pointer (pointer + 8) q
pointer_of pointer q Kept = omega arith
pointer_of pointer q Patched = omega arith
pointer_of pointer q (New d) = omega arith

pub pointer_none : (pointer q : ℕ) (c : DirectoryChange) → (q < pointer) ⊎ (pointer + 8 ≤ q) → cover (pointers_of pointer c) q ≡ 0
pointer_none pointer q c (inl h) = omega (arith, pointer_of pointer q c, at_place, h)
pointer_none pointer q c (inr h) = omega (arith, pointer_of pointer q c, at_place, h)

pub dir_within : (c : DirectoryChange) (old : Option DirItem) (q : ℕ) → cover (written_dir c old) q ≤ cover (used_by c) q + cover (kept_of c old) q
dir_within Kept old q = omega arith
dir_within Patched old q = omega arith
dir_within (New d) old q = omega arith

-- where a directory that is set lies
pub set_spans : (make : Span → Directory) (c : DirectoryChange) (was : Option DirItem) → ((d : DirItem) → extent (make (directory_span d)).segment ≡ directory_span d)
    → map extent (option_to_list (option_map (λ (d : Directory). d.segment) (set_new (directory_set make c was)))) ≡ written_dir c was
set_spans make Kept was own = refl
set_spans make Patched None own = refl
set_spans make Patched (Some d) own = ap (λ (s : Span). s ∷ []) (own d)
set_spans make (New d) was own = ap (λ (s : Span). s ∷ []) (own d)

pub heads_fewer : (p : Span → Bool) (xs : List Span) (q : ℕ) → cover (map head (filter p xs)) q ≤ cover (map head xs) q
heads_fewer p [] q = omega arith
heads_fewer p (x ∷ xs) q = elim (cases_Bool (p x)) [ inl e ↦ rw e (omega (arith, heads_fewer p xs q)) | inr e ↦ rw e (omega (arith, heads_fewer p xs q)) ]

module _ {C E S : Type 0} {k : Kind C E S} {x : Index} {was : Option DirItem} {c : DirectoryChange} {front middle back : List E} {space : Space} {n top : ℕ} {used beside : List Span} {ws own : List Bytes} {freed dead es : List Span} {pieces : List Piece}
    (L : Laws k) (w : WritesDir k x was c front middle back space n top used beside ws own freed dead es pieces) where
  abbrev after : List Span
  after = deleted_after (used ++ used_by c) freed es

  abbrev wrote : List Bytes
  wrote = ws ++ writes_by k c (front ++ (middle ++ back))

  abbrev marked : List Bytes
  marked = own ++ marks_by k was c front middle back

  -- the headers lie in DELETED extents and dead spans
  heads_in : (q : ℕ) → (cover (map head (filter (is_new es) after)) q ≤ cover (filter (is_new es) after) q) × (cover (map head dead) q ≤ cover dead q)
  heads_in q = (heads_within (filter (is_new es) after) q (All-filter _ (is_new es) after (is_32 top after w.parts.after_long)), heads_within dead q (is_32 top dead w.parts.dead_long))

  own_covers : (q : ℕ) → (cover (map byte_span wrote) q + cover (map byte_span marked) q ≤ cover used q + cover beside q + (cover (pointers_of k.pointer c) q + cover (written_dir c was) q))
      × (cover (used ++ used_by c) q ≡ cover used q + cover (used_by c) q) × (cover (beside ++ kept_of c was) q ≡ cover beside q + cover (kept_of c was) q)
  own_covers q = (
    omega (
      arith,
      both_cover ws (writes_by k c (front ++ (middle ++ back))) q,
      both_cover own (marks_by k was c front middle back) q,
      w.before.covers q,
      w.listing.covers q,
      cover-append used beside q,
      cover-append (pointers_of k.pointer c) (written_dir c was) q,
    ),
    cover-append used (used_by c) q,
    cover-append beside (kept_of c was) q,
  )

  -- of the file header nothing but the pointer is written
  pub header_clear : (q : ℕ) → q < 112 → cover (pointers_of k.pointer c) q ≡ 0 → byte_of pieces q ≡ None
  header_clear q low none = none_put pieces q (omega (
    arith,
    w.written.covers q,
    own_covers q,
    heads_in q,
    cover-fewer (is_new es) after q,
    none,
    dir_within c was q,
    low_none top q (used ++ used_by c) w.parts.used_long low,
    low_none top q (beside ++ kept_of c was) w.parts.kept_long low,
    low_none top q dead w.parts.dead_long low,
    low_none top q after w.parts.after_long low,
  ))

  -- the DELETED extents and the dead spans have no place in common with what else is written
  dir_apart : (q : ℕ) → cover (map byte_span wrote) q + cover (map byte_span marked) q + (cover after q + cover dead q) ≤ 1
  dir_apart q = elim (cases_lt q 112) [
    | inl h ↦ omega (arith, at_place, own_covers q, pointer_of k.pointer q c, L.low, L.high, dir_within c was q, low_none top q _ w.parts.used_long h, low_none top q _ w.parts.kept_long h, low_none top q dead w.parts.dead_long h, low_none top q after w.parts.after_long h)
    | inr h ↦ omega (arith, own_covers q, pointer_none k.pointer q c (inr (omega (arith, h, L.high))), dir_within c was q, w.parts.once q)
  ]

  pub deleted_put : AllByRecursion (PutsDeleted es pieces) after
  deleted_put = extents_put pieces wrote marked after dead es w.written (is_32 top after w.parts.after_long) (is_32 top dead w.parts.dead_long) dir_apart

  -- the pieces lie where a command may write
  pub dir_writable : (gone news : List Span) (q b : ℕ) → cover (map head gone) q ≡ cover (map head dead) q → cover used q + cover beside q + cover (written_dir c was) q ≤ cover news q → byte_of pieces q ≡ Some b
      → 1 ≤ cover (record { at = 84; len = 16 } ∷ record { at = 104; len = 8 } ∷ (news ++ map head (after ++ gone))) q
  dir_writable gone news q b heads brought put = omega (
    arith,
    put_within pieces q b put,
    w.written.covers q,
    own_covers q,
    pointer_of k.pointer q c,
    L.in_header q,
    at_place,
    heads_fewer (is_new es) after q,
    heads,
    brought,
    cover-append news (map head (after ++ gone)) q,
    ap (λ l. cover l q) (map-append head after gone),
    cover-append (map head after) (map head gone) q,
  )

  -- what the pieces put of what lies before the directory, and of the directory
  pub before_put : AllByRecursion (IsPut pieces) ws × AllByRecursion (IsPut pieces) own
  before_put = ((All-append (IsPut pieces) ws (writes_by k c (front ++ (middle ++ back))) w.written.puts_writes).0, (All-append (IsPut pieces) own (marks_by k was c front middle back) w.written.puts_own).0)

  listing_put : AllByRecursion (IsPut pieces) (writes_by k c (front ++ (middle ++ back))) × AllByRecursion (IsPut pieces) (marks_by k was c front middle back)
  listing_put = ((All-append (IsPut pieces) ws (writes_by k c (front ++ (middle ++ back))) w.written.puts_writes).1, (All-append (IsPut pieces) own (marks_by k was c front middle back) w.written.puts_own).1)

pub total_is : {E : Type 0} (len : E → ℕ) (es : List E) → total len es ≡ sum (map len es)
total_is len [] = refl
total_is len (e ∷ es) = ap (λ n. len e + n) (total_is len es) ∙ sym (sum_by-cons (λ n. n) (len e) (map len es))

-- how long a new one is
pub new_room : (x : Index) (old : Option DirItem) (size range : ℕ) (space : Space) (d : DirItem) → IsPlace x old size range space (New d) → 32 + size ≤ d.span.len
new_room x old size range space d place = omega (arith, (fit_place space (need_of size) (record { span = directory_span d; space = use_span space (directory_span d) }) place.1).1)

-- a directory in a span has its extent
long_enough : (n : ℕ) → 32 ≤ n → 32 + (n - 32) ≡ n
long_enough n h = omega arith

-- a directory in a span that lists these entries
abbrev pub dir_in : {C E S : Type 0} → Kind C E S → Span → List E → Directory
dir_in k s es = record { segment = record { at = s.at; id = k.id; allocated = s.len - 32; used = k.head + total k.len es }; count = length es }

pub directory_in_own : {C E S : Type 0} (k : Kind C E S) (es : List E) (d : DirItem) → extent (dir_in k (directory_span d) es).segment ≡ directory_span d
directory_in_own k es d = ap (λ (n : ℕ). let s : Span = record { at = d.span.at; len = n } in s) (long_enough d.span.len d.long)

-- What a pointer of the file header says of a directory.
abbrev pub PointsTo : List ℕ → ℤ → Option Directory → Type 0
PointsTo id z None = ⊤
PointsTo id z (Some d) = (z ≡ pos d.segment.at) × (d.segment.id ≡ id)

-- how one is read
abbrev Reader : Type 0
Reader = Segment → List ℕ → Option Directory

in_own : (id : List ℕ) (read : Reader) → IsItsOwn read (λ d. d.segment) → (image : List ℕ) (z : ℤ) (d : Directory) → in_segment image id z read ≡ Some d → PointsTo id z (Some d)
unfolding in_segment IsItsOwn
in_own id read own image z d found =
    let s = bind_some (sound_segment image id z) (λ s. read s (data_in_segment image s)) d found in
    let sound : IsSoundSegment image id z s.0 = is_sound image id z s.0 s.1 in
    let same : d.segment ≡ s.0 = own s.0 (data_in_segment image s.0) d s.2 in
    (sound.place ∙ ap (λ (t : Segment). pos t.at) (sym same), ap (λ (t : Segment). t.id) same ∙ bytes_same s.0.id id (both_true _ _ sound.test).0)

on_found : (id : List ℕ) (read : Reader) → IsItsOwn read (λ d. d.segment) → (image : List ℕ) (z : ℤ) (f : Option Directory) (o : Option Directory) → in_segment image id z read ≡ f → f >>= (λ x. Some (Some x)) ≡ Some o → PointsTo id z o
on_found id read own image z f None is e = tt
on_found id read own image z f (Some d) is e =
    let x = bind_some f (λ x. Some (Some x)) (Some d) e in
    let its : f ≡ Some d = cc (x.1, x.2) in
    in_own id read own image z d (is ∙ its)

pub points_to : (id : List ℕ) (read : Reader) → IsItsOwn read (λ d. d.segment) → (image : List ℕ) (z : ℤ) (o : Option Directory) → none_or z (in_segment image id z read) ≡ Some o → PointsTo id z o
points_to id read own image (pos zero) None e = tt
points_to id read own image (pos zero) (Some d) e = cc
points_to id read own image (pos (suc n)) o e = on_found id read own image (pos (suc n)) _ o refl e
points_to id read own image (negsuc n) o e = on_found id read own image (negsuc n) _ o refl e

-- the marks of a directory that is changed in place are three pieces
some_among : (pieces : List Piece) (place : ℕ) (bytes : List ℕ) → AllByRecursion (IsPut pieces) (some_mark place bytes) → (bytes ≡ []) ⊎ IsAmong (record { place = place; bytes = bytes }) pieces
some_among pieces place [] all = inl refl
some_among pieces place (b ∷ bytes) all = inr all.0.0

some_span : (a b : Span) (o p : Option Span) → o ≡ Some a → p ≡ Some b → o ≡ p → a ≡ b
some_span a b o p e f g = cc (e, f, g)

-- A directory that is written, or changed in place, with these entries instead of others.
pub record IsNewDir {C E S : Type 0} (k : Kind C E S) (pieces : List Piece) (d : Directory) (es : List E) : Type 0 where
  pub id : d.segment.id ≡ k.id
  pub used : d.segment.used ≡ length (k.data_of es 0)
  pub room : k.head + total k.len es ≤ d.segment.allocated
  pub count : d.count ≡ length es
  pub few : length es ≤ k.most
  pub entries : AllByRecursion k.Is es
  pub padding : ℕ
  pub puts : PutsSegment pieces d.segment (k.data_of es padding)

abbrev pub IsPatchedDir : {C E S : Type 0} → Kind C E S → List Piece → Option Directory → Directory → (old new : List E) → Type 0
IsPatchedDir k pieces None d old new = ⊥
IsPatchedDir k pieces (Some was) d old new = (length new ≤ k.most) × PatchesList k.head k.len k.bytes k.Is pieces was d old new

abbrev pub ListsItems : {C E S : Type 0} → Kind C E S → List Piece → Setting Directory → Option Directory → (old new : List E) → Type 0
ListsItems k pieces same was old new = ⊥
ListsItems k pieces (to None) was old new = ⊥
ListsItems k pieces (to (Some d)) was old new = IsNewDir k pieces d new ⊎ IsPatchedDir k pieces was d old new

module _ {C E S : Type 0} {k : Kind C E S} (L : Laws k) where
  pub patch_put : {x : Index} (d : DirItem) (front middle back : List E) {space : Space} {n top : ℕ} {used beside : List Span} {ws own : List Bytes} {freed dead es : List Span} {pieces : List Piece} → WritesDir k x (Some d) Patched front middle back space n top used beside ws own freed dead es pieces
      → PatchPuts k.head k.len k.bytes pieces (dir_in k (directory_span d) (front ++ (middle ++ back))) front middle
  patch_put d front middle back {used = used} {beside = beside} {ws = ws} {own = own} {freed = freed} {es = es} {pieces = pieces} w =
      let all : List E = front ++ (middle ++ back) in
      let bytes : List ℕ = flat_map k.bytes middle in
      let room : 32 + size_in k all ≤ d.span.len = leb-true _ _ (and_parts _ _ w.place).0 in
      let size : size_in k all ≡ k.head + total k.len all = omega (arith, total_is k.len all) in
      let from : d.span.at + 32 + size_in k front ≡ d.span.at + 32 + k.head + total k.len front = omega (arith, total_is k.len front) in
      let put = (listing_put L w).1 in
      L.patch pieces (dir_in k (directory_span d) all) front middle w.whole.0 (omega (arith, room, size_in_part k front middle back, total_is k.len front, total_is k.len middle)) (record {
        once = w.once;
        used = subst (λ (n : ℕ). IsAmong (record { place = d.span.at + 24; bytes = i64_bytes (pos n) }) pieces) size put.0.0;
        count = put.1.0.0;
        range = subst (λ (n : ℕ). (bytes ≡ []) ⊎ IsAmong (record { place = n; bytes = bytes }) pieces) from (some_among pieces (d.span.at + 32 + size_in k front) bytes put.1.1);
        alone = λ q low high. omega (
          arith,
          at_place,
          w.written.covers q,
          both_cover ws [] q,
          both_cover own (marks_by k (Some d) Patched front middle back) q,
          w.before.covers q,
          cover-append used [] q,
          cover-append used beside q,
          cover-append beside (directory_span d ∷ []) q,
          some_cover (d.span.at + 32 + size_in k front) bytes q,
          from,
          heads_in L w q,
          cover-fewer (is_new es) (deleted_after (used ++ []) freed es) q,
          w.parts.once q,
          low,
          high,
          d.long,
          L.count,
        );
      })

  -- A directory as the machine asks for it: it is changed in place, or it is new.
  pub dir_listed : {x : Index} (was : Option DirItem) (c : DirectoryChange) (front before middle back : List E) {space : Space} {n top : ℕ} {used beside : List Span} {ws marks : List Bytes} {freed dead es : List Span} {pieces : List Piece} (z : ℤ) (own : Option Directory) (old new : List E)
      → WritesDir k x was c front middle back space n top used beside ws marks freed dead es pieces → old ≡ front ++ (before ++ back) → new ≡ front ++ (middle ++ back)
      → (back ≡ []) ⊎ (sum (map k.len before) ≡ entries_len k middle) → lies_at was ≡ extent_of own → PointsTo k.id z own
      → ListsItems k pieces (directory_set (λ s. dir_in k s (front ++ (middle ++ back))) c was) own old new
  dir_listed was Kept front before middle back z own old new w were are stay lies points = absurd w.place
  dir_listed None Patched front before middle back z own old new w were are stay lies points = absurd (let clash : false ≡ true = w.place in cc (clash))
  dir_listed (Some d) Patched front before middle back z None old new w were are stay lies points = cc (lies)
  dir_listed (Some d) Patched front before middle back {pieces = pieces} z (Some own) old new w were are stay lies points =
      let put = patch_put d front middle back w in
      let room : 32 + size_in k (front ++ (middle ++ back)) ≤ d.span.len = leb-true _ _ (and_parts _ _ w.place).0 in
      let same : directory_span d ≡ extent own.segment = some_span (directory_span d) (extent own.segment) (lies_at (Some d)) (extent_of (Some own)) refl refl lies in
      inr (
        omega (arith, ap (length {A = E}) are, w.few),
        rw (were, are) (record {
          at = ap (λ (s : Span). s.at) same;
          id = sym points.1;
          allocated = omega (arith, ap (λ (s : Span). s.len) same);
          used = refl;
          count = refl;
          room = omega (arith, room, total_is k.len (front ++ (middle ++ back)));
          front = front;
          before = before;
          middle = middle;
          back = back;
          were = refl;
          are = refl;
          stay = elim stay [ inl e ↦ inl e | inr e ↦ inr (total_is k.len before ∙ (e ∙ sym (total_is k.len middle))) ];
          entries = w.whole.0;
          puts_used = put.puts_used;
          puts_count = put.puts_count;
          puts = put.puts;
          clear_head = put.clear_head;
          clear_front = put.clear_front;
          clear_back = put.clear_back;
        }),
      )
  dir_listed {x = x} was (New d) front before middle back {space = space} {pieces = pieces} z own old new w were are stay lies points =
      let all : List E = front ++ (middle ++ back) in
      let long : 32 + size_in k all ≤ d.span.len = new_room x was (size_in k all) (entries_len k middle) space d w.place in
      let used : size_in k all ≡ k.head + total k.len all = omega (arith, total_is k.len all) in
      let put = listing_put L w in
      inl (rw are (record {
        id = refl;
        used = sym (L.data_long all w.whole.0);
        room = omega (arith, long, used);
        count = refl;
        few = w.few;
        entries = w.whole.0;
        padding = d.span.len - 32 - size_in k all;
        puts = record {
          head = subst (λ (n : ℕ). Puts pieces d.span.at (header_bytes (record { at = d.span.at; id = k.id; allocated = d.span.len - 32; used = n }))) used put.1.1.0.1;
          contents = put.0.0.1;
          whole = w.whole.1;
        };
      }))

  -- the pointer of the file header
  pub dir_pointer : {x : Index} (was : Option DirItem) (c : DirectoryChange) (front middle back : List E) {space : Space} {n top : ℕ} {used beside : List Span} {ws marks : List Bytes} {freed dead es : List Span} {pieces : List Piece} (z : ℤ) (own : Option Directory)
      → WritesDir k x was c front middle back space n top used beside ws marks freed dead es pieces → lies_at was ≡ extent_of own → PointsTo k.id z own → PutsPointer (λ (d : Directory). d.segment) pieces k.pointer z (directory_set (λ s. dir_in k s (front ++ (middle ++ back))) c was)
  dir_pointer was Kept front middle back z own w lies points = absurd w.place
  dir_pointer None Patched front middle back z own w lies points = absurd (let clash : false ≡ true = w.place in cc (clash))
  dir_pointer (Some d) Patched front middle back z None w lies points = cc (lies)
  dir_pointer (Some d) Patched front middle back {top = top} {beside = beside} z (Some own) w lies points =
      let long = All-append (IsLong top) beside (directory_span d ∷ []) w.parts.kept_long in
      let same : directory_span d ≡ extent own.segment = some_span (directory_span d) (extent own.segment) (lies_at (Some d)) (extent_of (Some own)) refl refl lies in
      (inr (λ q low high. header_clear L w q (omega (arith, high, L.high)) refl, points.0 ∙ ap (λ (s : Span). pos s.at) (sym same)), omega (arith, long.1.0.far), omega (arith, d.ends))
  dir_pointer was (New d) front middle back {top = top} {used = used} z own w lies points =
      let long = All-append (IsLong top) used (directory_span d ∷ []) w.parts.used_long in (inl (listing_put L w).1.0.1, omega (arith, long.1.0.far), omega (arith, d.ends))
