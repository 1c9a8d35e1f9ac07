-- The marks of a directory that lists other entries, and the links of a plan: they have no place in common, end within the length,
-- and their record fits a slot of the journal.
use Rattle.std.proofs.Common.{◌≡◌, ℕ, ◌+◌, ◌<◌, ◌≤◌, List, [], ◌∷◌, ◌++◌, map, drop, get_or, length, refl, ap, sym, ◌∙◌, subst, arith, ◌-◌, ◌*◌, pos, filter, true, false, Bool, Option, Some, None, inl, inr, length-append, append-nil, nat_le}
use Rattle.std.specs.Prelude.{sum_by, vec_len, vec_capacity}
use Rattle.std.specs.List.{AllByRecursion, flat_map}
use Rattle.std.specs.List.Sorted.{IsPermutation}
use Rattle.std.proofs.lemmas.List.Sums.{sum_by-cons, sum_by-append}
use Rattle.std.proofs.lemmas.List.Sorted.{IsPermutation-map, sum_by-IsPermutation, length_permutation}
use Rattle.std.proofs.lemmas.Bool.{cases_Bool, cases_lt, and_parts, leb-true}
use Rattle.std.proofs.lemmas.List.{length-drop, length-map, length-take-le, map-append}
use Rattle.std.proofs.lemmas.List.Elements.{All-from_recursion}
use Rattle.czi_format.specs.Segment.{deleted_id, Segment, header_bytes}
use Rattle.czi_format.specs.Span.{Span, end_of, span_le, sorted}
use Rattle.czi_links.specs.Record.{Bytes, AreRising, next_place, end_of as link_end, EndWithin, encoded_len, spell_link}
use Rattle.czi_machine.specs.Cover.{Chained, between, cover}
use Rattle.czi_spans.specs.Apart.{first_of}
use Rattle.czi_spans.proofs.Sorting.{all_moved}
use Rattle.czi_machine.proofs.Tiled.{All-weaken, map-All, All-both, All-filter}
use Rattle.czi_format.specs.Bytes.{i32_bytes, i64_bytes}
use Rattle.czi_format.specs.Space.{Space, deleted_after}
use Rattle.czi_image.specs.declared.change.DirectoryChange.{DirectoryChange}
use Rattle.czi_image.specs.declared.change.DirectoryChange.TheVariants.{Kept, Patched, New}
use Rattle.czi_image.specs.declared.index.Index.{Index}
use Rattle.czi_image.specs.declared.types.DirItem.{DirItem}
use Rattle.czi_links.proofs.Again.{length-spell_link}
use Rattle.czi_machine.specs.Places.{can_be_used}
use Rattle.czi_machine.specs.Writes.{deleted_segment, head}
use Rattle.czi_machine.specs.Written.{piece_span}
use Rattle.czi_machine.proofs.Clear.{heads_within}
use Rattle.czi_machine.proofs.Cover.{cover-append, cover-sorted}
use Rattle.czi_machine.proofs.NewSegment.{header_length}
use Rattle.czi_num.specs.Span.{span_of}
use Rattle.czi_region.specs.Pieces.{IsPiece, bytes_put, bytes_of}
use Rattle.czi_region.specs.declared.block.Piece.{Piece as Range}
use Rattle.czi_region.specs.declared.block.Region.{Region}
use Rattle.czi_plan.specs.Marks.{AddsMarks, Mark, mark_of, marks_of, bytes_in_mark, AreSized, IsSized, IsThere, byte_span, ArePut, CanHold, CanPut, AreInOrder, CanLink, IsMarked, deleted_mark, head_mark, headers_for, is_new, patch_marks, pointer_mark, some_mark, wanted}
use Rattle.czi_plan.proofs.Few.{few_touched}
use Rattle.czi_plan.proofs.Entries.{drop_here, size_in_part}
use Rattle.czi_plan.proofs.KindLaws.{Laws}
use Rattle.czi_plan.proofs.Order.{sorted_chained, at_place}
use Rattle.czi_plan.specs.Kind.{Kind, span_in}
use Rattle.czi_plan.specs.Geometry.{AreParts, IsLong}
use Rattle.czi_plan.specs.Listing.{IsPlace, Lists, entries_len, size_in}
use Rattle.czi_plan.specs.Pieces.{bytes_in, piece_of, writes_of}
use Rattle.czi_plan.specs.declared.plan.EditPlan.{EditPlan}
use Rattle.czi_plan.proofs.Brief.{few_marks}
use Rattle.czi_plan.proofs.Parts.{AreBrought, AreFound, beside_of, brought_by, brought_covers, directory_found, kept_of, length_after, length_by, parts_of, pointers_of, used_by, written_dir}
use Rattle.czi_format.proofs.Local.{All-append}
use Rattle.czi_image.specs.declared.change.Act.{Act as CodeAct}
use Rattle.czi_image.specs.declared.change.Act.TheVariants.{Out, Put, Into}
use Rattle.czi_machine.specs.Change.{Change}
use Rattle.czi_space.specs.State.{MapState}
use Rattle.czi_plan.specs.Changing.{Brings, BringsNew, IsBack, IsNew, IsStaged, Origin, all_left, back_entries, beside_in, edited, front_entries, middle_entries, needed_in, new_marks, new_spans, range_after, returned, size_after, space_behind, tiles_brought, used_in}
use Rattle.czi_plan.specs.Conditions.{IsMapOf}
use Rattle.czi_plan.specs.Plan.{dead_of, usable_of}

pub length-deleted : length deleted_id ≡ 16
unfolding deleted_id
length-deleted = refl

-- the spans of marks are those of their bytes
sized_spans : (region : Region) (ms : List Mark) → AreSized region ms → map first_of ms ≡ map byte_span (marks_of region ms)
sized_spans region [] all = refl
sized_spans region (m ∷ ms) all = λ i. record { at = m.0.at; len = all.0.size i } ∷ sized_spans region ms all.1 i

pub rising_from : (from : ℕ) (bs : List Bytes) → Chained from (map byte_span bs) → AllByRecursion (λ (b : Bytes). 1 ≤ length b.bytes) bs → AreRising from bs
rising_from from [] chain some = tt
rising_from from (b ∷ bs) chain some = (chain.0, some.0, rising_from (link_end b) bs chain.1 some.1)

-- marks that were put in order are links
pub in_order : (region : Region) (ps fs : List Mark) → AreSized region ps → IsPermutation ps fs → map first_of fs ≡ sorted span_le (map first_of ps) → ArePut (marks_of region ps) (marks_of region fs)
in_order region ps fs sized moved sorts = record {
  moved = IsPermutation-map (mark_of region) ps fs moved;
  sorts = sym (sized_spans region fs (all_moved (IsSized region) ps fs moved sized)) ∙ (sorts ∙ ap (sorted span_le) (sized_spans region ps sized));
}

-- they have as many bytes
pub sum_moved : (region : Region) (ps fs : List Mark) → IsPermutation ps fs → sum_by (λ (b : Bytes). length b.bytes) (marks_of region fs) ≡ sum_by (λ (b : Bytes). length b.bytes) (marks_of region ps)
sum_moved region ps fs moved = sum_by-IsPermutation (λ (b : Bytes). length b.bytes) (marks_of region ps) (marks_of region fs) (IsPermutation-map (mark_of region) ps fs moved)

pub sized_moved : (region : Region) (ps fs : List Mark) → IsPermutation ps fs → AreSized region ps → AreSized region fs
sized_moved region ps fs moved sized = all_moved (IsSized region) ps fs moved sized

pub links_rise : (ms links : List Bytes) → CanPut ms → ArePut ms links → AreRising 84 links
links_rise ms links can are =
    let low : AllByRecursion (λ (s : Span). 84 ≤ s.at) (map byte_span ms) = map-All byte_span (λ (s : Span). 84 ≤ s.at) ms can.low in
    let some : AllByRecursion (λ (s : Span). 1 ≤ s.len) (map byte_span ms) = map-All byte_span (λ (s : Span). 1 ≤ s.len) ms can.some in
    rising_from 84 links (subst (Chained 84) (sym are.sorts) (sorted_chained 84 (map byte_span ms) low (All-weaken _ _ (λ s h. omega (arith, h)) _ some) can.once)) (all_moved (λ (b : Bytes). 1 ≤ length b.bytes) ms links are.moved can.some)

-- one more link
next-append : (from : ℕ) (ls : List Bytes) (l : Bytes) → next_place from (ls ++ l ∷ []) ≡ link_end l
next-append from [] l = refl
next-append from (x ∷ ls) l = next-append (link_end x) ls l

-- the first of the marks that are left, and the others
pub record Left (region : Region) (ms : List Mark) (i from : ℕ) (m : Mark) : Type 0 where
  pub count : length (drop i ms) ≡ 1 + length (drop (i + 1) ms)
  pub size : sum_by (λ (b : Bytes). length b.bytes) (marks_of region (drop i ms)) ≡ length (bytes_in_mark region m.1) + sum_by (λ (b : Bytes). length b.bytes) (marks_of region (drop (i + 1) ms))
  pub first : from ≤ m.0.at
  pub some : 1 ≤ length (bytes_in_mark region m.1)
  pub rise : AreRising (link_end (mark_of region m)) (marks_of region (drop (i + 1) ms))
  pub there : IsThere region m.1
  pub sized : AreSized region (drop (i + 1) ms)

pub left_here : (region : Region) (ms : List Mark) (i from : ℕ) (m : Mark) → i < length ms → m ≡ get_or ms i m → AreRising from (marks_of region (drop i ms)) → AreSized region (drop i ms) → Left region ms i from m
left_here region ms i from m h e rise sized =
    let here : drop i ms ≡ m ∷ drop (i + 1) ms = drop_here ms i m h e in
    let all : AreRising from (marks_of region (m ∷ drop (i + 1) ms)) = subst (λ (l : List Mark). AreRising from (marks_of region l)) here rise in
    let are : AreSized region (m ∷ drop (i + 1) ms) = subst (AreSized region) here sized in
    record {
      count = omega (arith, ap length here);
      size = ap (λ (l : List Mark). sum_by (λ (b : Bytes). length b.bytes) (marks_of region l)) here ∙ sum_by-cons (λ (b : Bytes). length b.bytes) (mark_of region m) (marks_of region (drop (i + 1) ms));
      first = all.0;
      some = all.1;
      rise = all.2;
      there = are.0.there;
      sized = are.1;
    }

pub rise_on : (region : Region) (ls : List Bytes) (m : Mark) (rest : List Bytes) → AreRising (link_end (mark_of region m)) rest → AreRising (next_place 84 (ls ++ mark_of region m ∷ [])) rest
rise_on region ls m rest rise = subst (λ n. AreRising n rest) (sym (next-append 84 ls (mark_of region m))) rise

-- What is written before the commit of a directory that lists other entries, and its marks.
abbrev pub data_by : {C E S : Type 0} → Kind C E S → DirItem → List E → List ℕ
data_by k d es = k.data_of es (d.span.len - 32 - size_in k es)

abbrev pub writes_by : {C E S : Type 0} → Kind C E S → DirectoryChange → List E → List Bytes
writes_by k Kept es = []
writes_by k Patched es = []
writes_by k (New d) es = record { place = d.span.at + 32; bytes = data_by k d es } ∷ []

abbrev pub segment_by : {C E S : Type 0} → Kind C E S → DirItem → List E → Segment
segment_by k d es = record { at = d.span.at; id = k.id; allocated = d.span.len - 32; used = size_in k es }

abbrev pub marks_by : {C E S : Type 0} → Kind C E S → Option DirItem → DirectoryChange → (front middle back : List E) → List Bytes
marks_by k old Kept front middle back = []
marks_by k None Patched front middle back = []
marks_by k (Some d) Patched front middle back = patch_marks d.span.at (size_in k (front ++ (middle ++ back))) (length (front ++ (middle ++ back))) (size_in k front) (flat_map k.bytes middle)
marks_by k old (New d) front middle back = pointer_mark k.pointer d.span.at ∷ head_mark (segment_by k d (front ++ (middle ++ back))) ∷ []

-- the entries that are written can be, and their bytes are as long as that
abbrev pub AreWhole : {C E S : Type 0} → Kind C E S → DirectoryChange → (front middle back : List E) → Type 0
AreWhole k Kept front middle back = Unit {0}
AreWhole k Patched front middle back = AllByRecursion k.Is middle × (length (flat_map k.bytes middle) ≡ entries_len k middle)
AreWhole k (New d) front middle back = AllByRecursion k.Is (front ++ (middle ++ back)) × (length (data_by k d (front ++ (middle ++ back))) ≡ d.span.len - 32)

-- What a plan has of it.
pub record Has {C E S : Type 0} (k : Kind C E S) (region : Region) (old : Option DirItem) (c : DirectoryChange) (front middle back : List E) (p q : EditPlan) (before after : List Bytes) : Type 0 where
  pub marks_are : after ≡ before ++ marks_by k old c front middle back
  pub writes : bytes_in region q.writes.items ≡ bytes_in region p.writes.items ++ writes_by k c (front ++ (middle ++ back))
  pub staged : AllByRecursion (λ (w : ℕ × Range). IsPiece region w.1) p.writes.items → AllByRecursion (λ (w : ℕ × Range). IsPiece region w.1) q.writes.items
  pub used : map span_of q.used.items ≡ map span_of p.used.items ++ used_by c
  pub length_is : q.length ≡ length_by c p.length
  pub whole : AreWhole k c front middle back
  pub others : q ≡ record p { writes = q.writes; used = q.used; length = q.length; marks = q.marks }

-- a plan that stays but for the marks
has_same : {C E S : Type 0} (k : Kind C E S) (region : Region) (old : Option DirItem) (c : DirectoryChange) (front middle back : List E) (p q : EditPlan) (before after : List Bytes) → length_by c p.length ≡ p.length → writes_by k c (front ++ (middle ++ back)) ≡ [] → used_by c ≡ [] → q ≡ record p { marks = q.marks }
    → after ≡ before ++ marks_by k old c front middle back → AreWhole k c front middle back → Has k region old c front middle back p q before after
has_same k region old c front middle back p q before after long none none' same are whole = record {
  marks_are = are;
  writes = ap (λ (z : EditPlan). bytes_in region z.writes.items) same ∙ sym (ap (λ l. bytes_in region p.writes.items ++ l) none ∙ append-nil (bytes_in region p.writes.items));
  staged = λ all. subst (λ (z : EditPlan). AllByRecursion (λ (w : ℕ × Range). IsPiece region w.1) z.writes.items) (sym same) all;
  used = ap (λ (z : EditPlan). map span_of z.used.items) same ∙ sym (ap (λ l. map span_of p.used.items ++ l) none' ∙ append-nil (map span_of p.used.items));
  length_is = ap (λ (z : EditPlan). z.length) same ∙ sym long;
  whole = whole;
  others = others_same;
}
  where
    others_same : q ≡ record p { writes = q.writes; used = q.used; length = q.length; marks = q.marks }
    others_same = same ∙ (λ i. record p { writes = (sym same i).writes; used = (sym same i).used; length = (sym same i).length; marks = q.marks })

-- how long the bytes of a piece are
pub piece_length : (region : Region) (piece : Range) → IsPiece region piece → length (bytes_of region piece) ≡ piece.len
piece_length region piece staged = length-take-le piece.len (drop piece.at (bytes_put region)) (omega (arith, staged, length-drop piece.at (bytes_put region)))

-- nothing changes of it
kept_same : {p q : EditPlan} → q ≡ p → q ≡ record p { marks = q.marks }
kept_same {p = p} e = e ∙ (λ i. record p { marks = (sym e i).marks })

pub has_listed : {C E S : Type 0} (k : Kind C E S) (region : Region) (old : Option DirItem) (c : DirectoryChange) (front middle back : List E) (p q : EditPlan) (before after : List Bytes) → Lists k old c front middle back region p q before after → Has k region old c front middle back p q before after
has_listed k region old Kept front middle back p q before after lists = has_same k region old Kept front middle back p q before after refl refl refl (kept_same lists.0) (lists.1 ∙ sym (append-nil before)) tt
has_listed k region None Patched front middle back p q before after lists = absurd lists
has_listed k region (Some d) Patched front middle back p q before after lists = has_same k region (Some d) Patched front middle back p q before after refl refl refl lists.0 lists.1.marks (lists.1.entries, lists.1.size)
has_listed k region old (New d) front middle back p q before after lists = record {
  marks_are = lists.marks;
  writes = ap (bytes_in region) lists.writes ∙ (map-append _ p.writes.items ((d.span.at + 32, lists.piece) ∷ []) ∙ ap (λ (b : List ℕ). bytes_in region p.writes.items ++ (let one : Bytes = record { place = d.span.at + 32; bytes = b } in one ∷ [])) lists.bytes);
  staged = λ all. subst (AllByRecursion (λ (w : ℕ × Range). IsPiece region w.1)) (sym lists.writes) (All-both (λ (w : ℕ × Range). IsPiece region w.1) p.writes.items ((d.span.at + 32, lists.piece) ∷ []) all (lists.staged, tt));
  used = ap (map span_of) lists.used ∙ map-append span_of p.used.items (d.span ∷ []);
  length_is = lists.end;
  whole = (lists.entries, ap (length {A = ℕ}) (sym lists.bytes) ∙ (piece_length region lists.piece lists.staged ∙ lists.long));
  others = lists.others;
}

-- Some writes and marks: they lie in some spans, end at or below a place, and are few.
pub record OwnMarks (top count size : ℕ) (ws own : List Bytes) (spans : List Span) : Type 0 where
  pub covers : (q : ℕ) → cover (map byte_span ws) q + cover (map byte_span own) q ≤ cover spans q
  pub ends : AllByRecursion (λ (b : Bytes). b.place + length b.bytes ≤ top) own
  pub low : AllByRecursion (λ (b : Bytes). 84 ≤ b.place) own
  pub some : AllByRecursion (λ (b : Bytes). 1 ≤ length b.bytes) own
  pub few : length own ≤ count
  pub short : sum_by (λ (b : Bytes). length b.bytes) own ≤ size

pub both_cover : (xs ys : List Bytes) (q : ℕ) → cover (map byte_span (xs ++ ys)) q ≡ cover (map byte_span xs) q + cover (map byte_span ys) q
both_cover xs ys q = ap (λ l. cover l q) (map-append byte_span xs ys) ∙ cover-append (map byte_span xs) (map byte_span ys) q

pub both_marks : {top c c' n n' : ℕ} {ws ws' own own' : List Bytes} {s s' : List Span} → OwnMarks top c n ws own s → OwnMarks top c' n' ws' own' s' → OwnMarks top (c + c') (n + n') (ws ++ ws') (own ++ own') (s ++ s')
both_marks {top = top} {ws = ws} {ws' = ws'} {own = own} {own' = own'} {s = s} {s' = s'} a b = record {
  covers = λ q. omega (arith, both_cover ws ws' q, both_cover own own' q, cover-append s s' q, a.covers q, b.covers q);
  ends = All-both (λ (z : Bytes). z.place + length z.bytes ≤ top) own own' a.ends b.ends;
  low = All-both (λ (z : Bytes). 84 ≤ z.place) own own' a.low b.low;
  some = All-both (λ (z : Bytes). 1 ≤ length z.bytes) own own' a.some b.some;
  few = omega (arith, length-append own own', a.few, b.few);
  short = omega (arith, sum_by-append (λ (z : Bytes). length z.bytes) own own', a.short, b.short);
}

pub no_marks : (top count size : ℕ) → OwnMarks top count size [] [] []
no_marks top count size = record { covers = λ q. omega arith; ends = tt; low = tt; some = tt; few = omega arith; short = omega arith }

-- a new item: its data, and its header
pub item_writes : {C E S : Type 0} {k : Kind C E S} (region : Region) (s : S) (t : C) (writes : List (ℕ × Range)) (staged : IsStaged k region s t writes) → bytes_in region writes ≡ record { place = (span_in k t).at + 32; bytes = k.contents t s staged.padding } ∷ []
item_writes {k = k} region s t writes staged = ap (bytes_in region) staged.only ∙ ap (λ (b : List ℕ). let one : Bytes = record { place = (span_in k t).at + 32; bytes = b } in one ∷ []) staged.bytes

pub some_cover : (place : ℕ) (bytes : List ℕ) (q : ℕ) → cover (map byte_span (some_mark place bytes)) q ≡ between place (place + length bytes) q
some_cover place [] q = omega (arith, at_place)
some_cover place (b ∷ bytes) q = omega arith

some_all : (P : Bytes → Type 0) (place : ℕ) (bytes : List ℕ) → (1 ≤ length bytes → P (record { place = place; bytes = bytes })) → AllByRecursion P (some_mark place bytes)
some_all P place [] f = tt
some_all P place (b ∷ bytes) f = (f (omega arith), tt)

some_size : (place : ℕ) (bytes : List ℕ) → (length (some_mark place bytes) ≤ 1) × (sum_by (λ (b : Bytes). length b.bytes) (some_mark place bytes) ≡ length bytes)
some_size place [] = (omega arith, refl)
some_size place (b ∷ bytes) = (omega arith, omega (arith, sum_by-cons (λ (c : Bytes). length c.bytes) (record { place = place; bytes = b ∷ bytes }) []))

-- the entries of a directory after an act
abbrev pub all_entries : {C E S : Type 0} → Kind C E S → CodeAct C → Index → List E
all_entries k a x = front_entries k a (k.items x) ++ (middle_entries k a (k.items x) ++ back_entries k a (k.items x))

-- headers of DELETED segments
pub head_long : (s : Span) → length (header_bytes (deleted_segment s)) ≡ 32
head_long s = header_length (deleted_segment s) length-deleted

heads_are : (xs : List Span) → map byte_span (map deleted_mark xs) ≡ map head xs
heads_are [] = refl
heads_are (s ∷ xs) = λ j. record { at = s.at; len = head_long s j } ∷ heads_are xs j

heads_sum : (xs : List Span) → sum_by (λ (b : Bytes). length b.bytes) (map deleted_mark xs) ≡ 32 * length xs
heads_sum [] = refl
heads_sum (s ∷ xs) = omega (arith, sum_by-cons (λ (b : Bytes). length b.bytes) (deleted_mark s) (map deleted_mark xs), head_long s, heads_sum xs)

-- how many marks, and bytes, headers of DELETED segments are
pub heads_more : {region : Region} {a b : List Mark} (xs : List Span) → AddsMarks region a b (map deleted_mark xs)
    → (length b ≡ length a + length xs) × (sum_by (λ (b : Bytes). length b.bytes) (marks_of region b) ≡ sum_by (λ (b : Bytes). length b.bytes) (marks_of region a) + 32 * length xs)
heads_more {region = region} {a = a} {b = b} xs adds = (
  omega (arith, ap (length {A = Bytes}) adds.links_are, length-append (marks_of region a) (map deleted_mark xs), length-map b (mark_of region), length-map a (mark_of region), length-map xs deleted_mark),
  omega (arith, ap (sum_by (λ (b : Bytes). length b.bytes)) adds.links_are, sum_by-append (λ (b : Bytes). length b.bytes) (marks_of region a) (map deleted_mark xs), heads_sum xs),
)

pub wanted_cover : (own : List Bytes) (used freed dead es : List Span) (q : ℕ)
    → cover (map byte_span (wanted own used freed dead es)) q ≡ cover (map byte_span own) q + (cover (map head (filter (is_new es) (deleted_after used freed es))) q + cover (map head dead) q)
wanted_cover own used freed dead es q =
    let N : List Span = filter (is_new es) (deleted_after used freed es) in
    omega (
      arith,
      ap (λ l. cover l q) (map-append byte_span own (map deleted_mark N ++ map deleted_mark dead)),
      cover-append (map byte_span own) (map byte_span (map deleted_mark N ++ map deleted_mark dead)) q,
      ap (λ l. cover l q) (map-append byte_span (map deleted_mark N) (map deleted_mark dead)),
      cover-append (map byte_span (map deleted_mark N)) (map byte_span (map deleted_mark dead)) q,
      ap (λ l. cover l q) (heads_are N),
      ap (λ l. cover l q) (heads_are dead),
    )

pub spans_are : (bs : List Bytes) → map piece_span (map piece_of bs) ≡ map byte_span bs
spans_are [] = refl
spans_are (b ∷ bs) = ap (λ l. byte_span b ∷ l) (spans_are bs)

pub is_32 : (top : ℕ) (xs : List Span) → AllByRecursion (IsLong top) xs → AllByRecursion (λ (s : Span). 32 ≤ s.len) xs
is_32 top xs all = All-weaken (IsLong top) (λ (s : Span). 32 ≤ s.len) (λ s l. l.long) xs all

pub low_none : (top q : ℕ) (xs : List Span) → AllByRecursion (IsLong top) xs → q < 112 → cover xs q ≡ 0
low_none top q [] all h = refl
low_none top q (x ∷ xs) all h = omega (arith, at_place, h, all.0.far, low_none top q xs all.1 h)

pub cover-fewer : (p : Span → Bool) (xs : List Span) (q : ℕ) → cover (filter p xs) q ≤ cover xs q
cover-fewer p [] q = omega arith
cover-fewer p (x ∷ xs) q = elim (cases_Bool (p x)) [ inl e ↦ rw e (omega (arith, cover-fewer p xs q)) | inr e ↦ rw e (omega (arith, cover-fewer p xs q)) ]

spelled : (ls : List Bytes) → length (flat_map spell_link ls) ≡ 12 * length ls + sum_by (λ (b : Bytes). length b.bytes) ls
spelled [] = refl
spelled (l ∷ ls) = omega (arith, length-append (spell_link l) (flat_map spell_link ls), length-spell_link l, spelled ls, sum_by-cons (λ (b : Bytes). length b.bytes) l ls)

-- Marks of a number and a size, and how many headers of DELETED segments come with them at most.
pub record FewLinks (count size most : ℕ) (own : List Bytes) (used freed dead : List Span) : Type 0 where
  pub few : length own ≤ count
  pub short : sum_by (λ (b : Bytes). length b.bytes) own ≤ size
  pub headers : headers_for used freed dead ≤ most

-- Writes and marks that lie in the pointers of the file header, in what is used, and in what is changed in place.
pub record AreOwn (top pointer : ℕ) (used kept : List Span) (ws own : List Bytes) : Type 0 where
  pub high : pointer + 8 ≤ 112
  pub spans : List Span
  pub marks : OwnMarks top 4 65580 ws own spans
  pub within : (q : ℕ) → cover spans q ≤ between pointer (pointer + 8) q + (cover used q + cover kept q)

-- the links of a plan
module _ {n top pointer : ℕ} {used freed dead kept es : List Span} {ws mine : List Bytes} (parts : AreParts n top used freed dead kept es) (own : AreOwn top pointer used kept ws mine) where
  abbrev news : List Span
  news = filter (is_new es) (deleted_after used freed es)

  abbrev all : List Bytes
  all = wanted mine used freed dead es

  each : (P : Bytes → Type 0) → AllByRecursion P mine → ((s : Span) → IsLong top s → P (deleted_mark s)) → AllByRecursion P all
  each P of_mine of_head =
      All-both P mine _ of_mine (All-both P (map deleted_mark news) (map deleted_mark dead) (map-All deleted_mark P news (All-weaken (IsLong top) _ of_head news (All-filter (IsLong top) (is_new es) _ parts.after_long)))
      (map-All deleted_mark P dead (All-weaken (IsLong top) _ of_head dead parts.dead_long)))

  sizes : (sum_by (λ (b : Bytes). length b.bytes) all ≤ 65580 + 32 * 6) × (length all ≤ 10)
  sizes = (
    omega (
      arith,
      sum_by-append (λ (b : Bytes). length b.bytes) mine (map deleted_mark news ++ map deleted_mark dead),
      sum_by-append (λ (b : Bytes). length b.bytes) (map deleted_mark news) (map deleted_mark dead),
      heads_sum news,
      heads_sum dead,
      few_marks n used freed es parts.rise parts.takes,
      parts.few,
      own.marks.short,
    ),
    omega (
      arith,
      length-append mine (map deleted_mark news ++ map deleted_mark dead),
      length-append (map deleted_mark news) (map deleted_mark dead),
      length-map news deleted_mark,
      length-map dead deleted_mark,
      few_marks n used freed es parts.rise parts.takes,
      parts.few,
      own.marks.few,
    ),
  )

  -- no place is marked twice, nor where something is written
  pub marks_once : (q : ℕ) → cover (map byte_span ws) q + cover (map byte_span all) q ≤ 1
  marks_once q =
      let new = heads_within news q (is_32 top news (All-filter (IsLong top) (is_new es) _ parts.after_long)) in
      let gone = heads_within dead q (is_32 top dead parts.dead_long) in
      let fewer = cover-fewer (is_new es) (deleted_after used freed es) q in
      elim (cases_lt q 112) [
        | inl h ↦ omega (arith, at_place, wanted_cover mine used freed dead es q, new, gone, fewer, own.marks.covers q, own.within q, low_none top q _ parts.used_long h, low_none top q _ parts.kept_long h, low_none top q dead parts.dead_long h, low_none top q _ parts.after_long h)
        | inr h ↦ omega (arith, at_place, wanted_cover mine used freed dead es q, new, gone, fewer, own.marks.covers q, own.within q, own.high, parts.once q)
      ]

  pub can_link : CanLink n used freed dead es mine
  can_link =
      let marked : (s : Span) → IsLong top s → IsMarked s = λ s l. (l.long, omega (arith, l.ends, parts.small)) in
      record {
        takes = parts.takes;
        frees = parts.frees;
        long = All-weaken (IsLong top) IsMarked marked _ parts.after_long;
        long_dead = All-weaken (IsLong top) IsMarked marked dead parts.dead_long;
        touched = few_touched n top used freed dead kept es parts;
        puts = record {
          low = each (λ (b : Bytes). 84 ≤ b.place) own.marks.low (λ s l. omega (arith, l.far));
          some = each (λ (b : Bytes). 1 ≤ length b.bytes) own.marks.some (λ s l. omega (arith, head_long s));
          once = λ q. omega (arith, marks_once q);
          few = omega (arith, sizes.0);
        };
      }

  -- and there are few of them
  pub few_links : FewLinks 4 65580 6 mine used freed dead
  few_links = record { few = own.marks.few; short = own.marks.short; headers = parts.few }

  pub links_within : (links : List Bytes) → AreInOrder mine used freed dead es links → EndWithin top links
  links_within links are =
      All-from_recursion (λ (l : Bytes). link_end l ≤ top) links (all_moved (λ (b : Bytes). b.place + length b.bytes ≤ top) all links are.moved (each (λ (b : Bytes). b.place + length b.bytes ≤ top) own.marks.ends (λ s l. omega (arith, head_long s, l.long, l.ends))))

  pub links_brief : (links : List Bytes) → AreInOrder mine used freed dead es links → encoded_len links ≤ 262144
  links_brief links are = omega (arith, spelled links, sum_by-IsPermutation (λ (b : Bytes). length b.bytes) all links are.moved, length_permutation all links are.moved, sizes.0, sizes.1)

  pub pieces_once : (links : List Bytes) (q : ℕ) → AreInOrder mine used freed dead es links → cover (map piece_span (map piece_of (ws ++ links))) q ≤ 1
  pieces_once links q are = omega (arith, ap (λ l. cover l q) (spans_are (ws ++ links)), both_cover ws links q, ap (λ l. cover l q) are.sorts, cover-sorted (map byte_span all) q, marks_once q)

-- The marks of an act: those of what it brings, and those of the directory.
pub record ActMarks {C E S : Type 0} (k : Kind C E S) (x : Index) (m : MapState) (a : CodeAct C) (o : Origin (Change S)) (region : Region) (d : DirectoryChange) (first mid : EditPlan) (marks : List Bytes) : Type 0 where
  pub comes : AreBrought x m (used_in k a o) (beside_in k a o) (needed_in k a o)
  pub found : AreFound m.length m.extents (used_in k a o ++ used_by d)
  pub listed : Has k region (k.directory x) d (front_entries k a (k.items x)) (middle_entries k a (k.items x)) (back_entries k a (k.items x)) first mid (new_marks k a) marks
  pub brought : OwnMarks (length_after k a o d m) 1 32 (writes_of region first) (new_marks k a) (used_in k a o ++ beside_in k a o)
  pub listing : OwnMarks (length_after k a o d m) 3 65548 (writes_by k d (all_entries k a x)) (marks_by k (k.directory x) d (front_entries k a (k.items x)) (middle_entries k a (k.items x)) (back_entries k a (k.items x))) (pointers_of k.pointer d ++ written_dir d (k.directory x))
  pub parts : AreParts m.length (length_after k a o d m) (used_in k a o ++ used_by d) (sorted span_le (usable_of (all_left k a d x))) (dead_of (all_left k a d x)) (beside_of k a o d x) m.extents
  pub own : AreOwn (length_after k a o d m) k.pointer (used_in k a o ++ used_by d) (beside_of k a o d x) (writes_of region first ++ writes_by k d (all_entries k a x)) marks

-- What is written of an act on either list, and its marks.
module _ {C E S : Type 0} {k : Kind C E S} (L : Laws k) where
  pub item_long : (region : Region) (s : S) (t : C) (writes : List (ℕ × Range)) (staged : IsStaged k region s t writes) → length (k.contents t s staged.padding) ≡ (k.segment t).allocated
  item_long region s t writes staged = omega (arith, ap (length {A = ℕ}) staged.bytes, piece_length region staged.piece staged.staged, staged.long, L.extent t)

  -- the header of an item, and its data where some are written
  head_marks : (ws : List Bytes) (t : C) (top : ℕ) → (k.segment t).id ≡ k.item_id → IsLong top (span_in k t) → ((q : ℕ) → cover (map byte_span ws) q + between (span_in k t).at ((span_in k t).at + 32) q ≤ between (span_in k t).at (end_of (span_in k t)) q)
      → OwnMarks top 1 32 ws (head_mark (k.segment t) ∷ []) (span_in k t ∷ [])
  head_marks ws t top id long within =
      let is : length (header_bytes (k.segment t)) ≡ 32 = header_length (k.segment t) (ap (length {A = ℕ}) id ∙ L.id_long) in
      let far = long.far in
      let ends = long.ends in
      record {
        covers = λ q. omega (arith, at_place, is, L.at t, within q);
        ends = (omega (arith, is, ends, long.long, L.at t), tt);
        low = (omega (arith, far, L.at t), tt);
        some = (omega (arith, is), tt);
        few = omega arith;
        short = omega (arith, sum_by-cons (λ (b : Bytes). length b.bytes) (head_mark (k.segment t)) [], is);
      }

  item_marks : (x : Index) (m : MapState) (region : Region) (s : S) (t : C) (writes : List (ℕ × Range)) (top : ℕ) → IsNew k x m s t → IsStaged k region s t writes → IsLong top (span_in k t)
      → OwnMarks top 1 32 (bytes_in region writes) (head_mark (k.segment t) ∷ []) (span_in k t ∷ [])
  item_marks x m region s t writes top new staged long =
      let data' = item_long region s t writes staged in
      rw (item_writes region s t writes staged) (head_marks (record { place = (span_in k t).at + 32; bytes = k.contents t s staged.padding } ∷ []) t top (L.item_id t s new.item) long (λ q. omega (arith, at_place, data', L.extent t)))

  new_marked : (x : Index) (m : MapState) (region : Region) (a : CodeAct C) (c : Change S) (writes : List (ℕ × Range)) (top : ℕ) → BringsNew k x m region a c writes → AllByRecursion (IsLong top) (new_spans k a)
      → OwnMarks top 1 32 (bytes_in region writes) (new_marks k a) (new_spans k a)
  new_marked x m region (Out i) c writes top b long = subst (λ w. OwnMarks top 1 32 (bytes_in region w) [] []) (sym b.1) (no_marks top 1 32)
  new_marked x m region (Put i t) c writes top b long = item_marks x m region b.0 t writes top b.2 b.3 long.0
  new_marked x m region (Into i t) c writes top b long = item_marks x m region b.0 t writes top b.2 b.3 long.0

  back_marked : (x : Index) (m : MapState) (a : CodeAct C) (top : ℕ) → AllByRecursion (IsBack k x m) (tiles_brought a) → AllByRecursion (IsLong top) (new_spans k a) → OwnMarks top 1 32 [] (new_marks k a) (new_spans k a)
  back_marked x m (Out i) top b long = no_marks top 1 32
  back_marked x m (Put i t) top b long = head_marks [] t top b.0.0.0 long.0 (λ q. omega (arith, at_place, L.extent t))
  back_marked x m (Into i t) top b long = head_marks [] t top b.0.0.0 long.0 (λ q. omega (arith, at_place, L.extent t))

  pub brought_marks : (x : Index) (m : MapState) (region : Region) (a : CodeAct C) (o : Origin (Change S)) (writes : List (ℕ × Range)) (top : ℕ) → Brings k x m region a o writes → AllByRecursion (IsLong top) (new_spans k a)
      → OwnMarks top 1 32 (bytes_in region writes) (new_marks k a) (used_in k a o ++ beside_in k a o)
  brought_marks x m region a o writes top b long =
      let its = by o b in
      record { covers = λ q. omega (arith, its.covers q, brought_covers L a o q, cover-append (used_in k a o) (beside_in k a o) q); ends = its.ends; low = its.low; some = its.some; few = its.few; short = its.short }
    where
      by : (o : Origin (Change S)) → Brings k x m region a o writes → OwnMarks top 1 32 (bytes_in region writes) (new_marks k a) (new_spans k a)
      by (edited c) b = new_marked x m region a c writes top b long
      by returned b = subst (λ w. OwnMarks top 1 32 (bytes_in region w) (new_marks k a) (new_spans k a)) (sym b.1) (back_marked x m a top b.0 long)

  -- a directory: its data, its header and the pointer to it, or what of it is changed in place
  pub dir_marks : (x : Index) (old : Option DirItem) (c : DirectoryChange) (front middle back : List E) (space : Space) (top : ℕ) → AllByRecursion (IsLong top) (used_by c) → AllByRecursion (IsLong top) (kept_of c old)
      → IsPlace x old (size_in k (front ++ (middle ++ back))) (entries_len k middle) space c → AreWhole k c front middle back
      → OwnMarks top 3 65548 (writes_by k c (front ++ (middle ++ back))) (marks_by k old c front middle back) (pointers_of k.pointer c ++ written_dir c old)
  dir_marks x old Kept front middle back space top used kept place whole = absurd place
  dir_marks x None Patched front middle back space top used kept place whole = absurd (let clash : false ≡ true = place in cc (clash))
  dir_marks x (Some d) Patched front middle back space top used kept place whole =
      let all : List E = front ++ (middle ++ back) in
      let test = and_parts (nat_le (32 + size_in k all) d.span.len) (nat_le (entries_len k middle) 65536) place in
      let room : 32 + size_in k all ≤ d.span.len = leb-true _ _ test.0 in
      let range : entries_len k middle ≤ 65536 = leb-true _ _ test.1 in
      let size : size_in k front + entries_len k middle ≤ size_in k all = size_in_part k front middle back in
      let bytes : List ℕ = flat_map k.bytes middle in
      let at : ℕ = d.span.at + 32 + size_in k front in
      let one : Bytes = record { place = d.span.at + 24; bytes = i64_bytes (pos (size_in k all)) } in
      let two : Bytes = record { place = d.span.at + 32; bytes = i32_bytes (pos (length all)) } in
      let far = kept.0.far in
      let within = kept.0.ends in
      record {
        covers = λ q. omega (arith, at_place, L.count, some_cover at bytes q, whole.1, size, room);
        ends = (omega (arith, L.count, within, size, room), (omega (arith, L.count, within, size, room), some_all (λ (b : Bytes). b.place + length b.bytes ≤ top) at bytes (λ h. omega (arith, within, size, whole.1, room))));
        low = (omega (arith, far), (omega (arith, far), some_all (λ (b : Bytes). 84 ≤ b.place) at bytes (λ h. omega (arith, far))));
        some = (omega arith, (omega arith, some_all (λ (b : Bytes). 1 ≤ length b.bytes) at bytes (λ h. h)));
        few = omega (arith, (some_size at bytes).0);
        short = omega (arith, sum_by-cons (λ (b : Bytes). length b.bytes) one (two ∷ some_mark at bytes), sum_by-cons (λ (b : Bytes). length b.bytes) two (some_mark at bytes), (some_size at bytes).1, whole.1, range);
      }
  dir_marks x old (New d) front middle back space top used kept place whole =
      let all : List E = front ++ (middle ++ back) in
      let long : length (header_bytes (segment_by k d all)) ≡ 32 = header_length (segment_by k d all) L.id in
      let two : Bytes = head_mark (segment_by k d all) in
      let far = used.0.far in
      let within = used.0.ends in
      record {
        covers = λ q. omega (arith, at_place, long, whole.1, d.long);
        ends = (omega (arith, L.high, far, within, d.long), (omega (arith, within, long, d.long), tt));
        low = (omega (arith, L.low), (omega (arith, far), tt));
        some = (omega arith, (omega (arith, long), tt));
        few = omega arith;
        short = omega (arith, sum_by-cons (λ (b : Bytes). length b.bytes) (pointer_mark k.pointer d.span.at) (two ∷ []), sum_by-cons (λ (b : Bytes). length b.bytes) two [], long);
      }

  own_within : (used beside : List Span) (c : DirectoryChange) (old : Option DirItem) (q : ℕ)
      → cover ((used ++ beside) ++ (pointers_of k.pointer c ++ written_dir c old)) q ≤ between k.pointer (k.pointer + 8) q + (cover (used ++ used_by c) q + cover (beside ++ kept_of c old) q)
  own_within used beside c old q = omega (arith, cover-append (used ++ beside) (pointers_of k.pointer c ++ written_dir c old) q, cover-append used beside q, cover-append used (used_by c) q, cover-append beside (kept_of c old) q, by c)
    where
      by : (c : DirectoryChange) → cover (pointers_of k.pointer c ++ written_dir c old) q ≤ between k.pointer (k.pointer + 8) q + (cover (used_by c) q + cover (kept_of c old) q)
      by Kept = omega arith
      by Patched = omega arith
      by (New d) = omega arith

  -- what an act brings lies behind the front of the file header
  pub brought_long : (x : Index) (m : MapState) (a : CodeAct C) (o : Origin (Change S)) (d : DirectoryChange) {n top : ℕ} {freed dead es : List Span} → AreParts n top (used_in k a o ++ used_by d) freed dead (beside_of k a o d x) es → AllByRecursion (IsLong top) (new_spans k a)
  brought_long x m a o d {top = top} parts = by o (All-append (IsLong top) (used_in k a o) (used_by d) parts.used_long).0 (All-append (IsLong top) (beside_in k a o) (kept_of d (k.directory x)) parts.kept_long).0
    where
      back : (ts : List C) → AllByRecursion (IsLong top) (usable_of (map k.place ts)) → AllByRecursion (IsLong top) (dead_of (map k.place ts)) → AllByRecursion (IsLong top) (map (span_in k) ts)
      back [] used beside = tt
      back (t ∷ ts) used beside = elim (cases_Bool (can_be_used (k.place t))) [
        | inl e ↦ (let here = rw e at used in here.0, back ts (let here = rw e at used in here.1) (rw e at beside))
        | inr e ↦ (let here = rw e at beside in here.0, back ts (rw e at used) (let here = rw e at beside in here.1))
      ]

      by : (o : Origin (Change S)) → AllByRecursion (IsLong top) (used_in k a o) → AllByRecursion (IsLong top) (beside_in k a o) → AllByRecursion (IsLong top) (new_spans k a)
      by (edited c) used beside = used
      by returned used beside = back (tiles_brought a) used beside

  pub act_marks : (x : Index) (m : MapState) (a : CodeAct C) (o : Origin (Change S)) (region : Region) (d : DirectoryChange) (first mid : EditPlan) (marks : List Bytes) → IsMapOf x m → Brings k x m region a o first.writes.items
      → IsPlace x (k.directory x) (size_after k a x) (range_after k a x) (space_behind k a o m) d → Lists k (k.directory x) d (front_entries k a (k.items x)) (middle_entries k a (k.items x)) (back_entries k a (k.items x)) region first mid (new_marks k a) marks
      → ActMarks k x m a o region d first mid marks
  act_marks x m a o region d first mid marks is brings place lists =
      let top : ℕ = length_after k a o d m in
      let front : List E = front_entries k a (k.items x) in
      let middle : List E = middle_entries k a (k.items x) in
      let back : List E = back_entries k a (k.items x) in
      let used : List Span = used_in k a o in
      let beside : List Span = beside_in k a o in
      let comes = brought_by L x m region a o first.writes.items is brings in
      let found = directory_found x m (k.directory x) (size_after k a x) (range_after k a x) used beside (needed_in k a o) d is comes place in
      let has = has_listed k region (k.directory x) d front middle back first mid (new_marks k a) marks lists in
      let parts = parts_of L x m a o d is comes found in
      let long = (All-append (IsLong top) used (used_by d) parts.used_long).1 in
      let kept = (All-append (IsLong top) beside (kept_of d (k.directory x)) parts.kept_long).1 in
      let brought = brought_marks x m region a o first.writes.items top brings (brought_long x m a o d parts) in
      let listing = dir_marks x (k.directory x) d front middle back (space_behind k a o m) top long kept place has.whole in
      record {
        comes = comes;
        found = found;
        listed = has;
        brought = brought;
        listing = listing;
        parts = parts;
        own = record {
          high = L.high;
          spans = (used ++ beside) ++ (pointers_of k.pointer d ++ written_dir d (k.directory x));
          marks = subst (λ l. OwnMarks top 4 65580 (writes_of region first ++ writes_by k d (all_entries k a x)) l ((used ++ beside) ++ (pointers_of k.pointer d ++ written_dir d (k.directory x)))) (sym has.marks_are) (both_marks brought listing);
          within = own_within used beside d (k.directory x);
        };
      }

  -- So the links of an act can be put.
  pub act_links : (x : Index) (m : MapState) (a : CodeAct C) (o : Origin (Change S)) (region : Region) (d : DirectoryChange) (first mid : EditPlan) (marks : List Bytes) → IsMapOf x m → Brings k x m region a o first.writes.items
      → map span_of first.used.items ≡ used_in k a o → IsPlace x (k.directory x) (size_after k a x) (range_after k a x) (space_behind k a o m) d
      → Lists k (k.directory x) d (front_entries k a (k.items x)) (middle_entries k a (k.items x)) (back_entries k a (k.items x)) region first mid (new_marks k a) marks
      → CanLink m.length (map span_of mid.used.items) (sorted span_le (usable_of (all_left k a d x))) (dead_of (all_left k a d x)) m.extents marks
  act_links x m a o region d first mid marks is brings used place lists =
      let has = act_marks x m a o region d first mid marks is brings place lists in
      rw (has.listed.used ∙ ap (λ l. l ++ used_by d) used) (can_link has.parts has.own)

  -- and there is memory for them
  pub act_few : (x : Index) (m : MapState) (a : CodeAct C) (o : Origin (Change S)) (region : Region) (d : DirectoryChange) (first mid : EditPlan) (marks : List Bytes) → IsMapOf x m → Brings k x m region a o first.writes.items
      → map span_of first.used.items ≡ used_in k a o → IsPlace x (k.directory x) (size_after k a x) (range_after k a x) (space_behind k a o m) d
      → Lists k (k.directory x) d (front_entries k a (k.items x)) (middle_entries k a (k.items x)) (back_entries k a (k.items x)) region first mid (new_marks k a) marks
      → FewLinks 4 65580 6 marks (map span_of mid.used.items) (sorted span_le (usable_of (all_left k a d x))) (dead_of (all_left k a d x))
  act_few x m a o region d first mid marks is brings used place lists =
      let has = act_marks x m a o region d first mid marks is brings place lists in
      rw (has.listed.used ∙ ap (λ l. l ++ used_by d) used) (few_links has.parts has.own)

-- memory for the links of a plan
pub hold : {count size most : ℕ} (own : List Bytes) (used freed dead : List Span) (p : EditPlan) → FewLinks count size most own used freed dead → vec_len p.marks + most ≤ vec_capacity p.marks → count + most ≤ p.links.spare_links → size + 32 * most ≤ p.links.spare_bytes → 4 * most ≤ p.touched.spare
    → CanHold own (headers_for used freed dead) p
hold own used freed dead p few marks links bytes touched = record {
  marks = omega (arith, few.headers, marks);
  links = omega (arith, few.few, few.headers, links);
  link_bytes = omega (arith, few.short, few.headers, bytes);
  touched = omega (arith, few.headers, touched);
}

pub hold_act : (own : List Bytes) (used freed dead : List Span) (p : EditPlan) → FewLinks 4 65580 6 own used freed dead → vec_len p.marks ≤ 4 → 11 ≤ vec_capacity p.marks → 11 ≤ p.links.spare_links → 65888 ≤ p.links.spare_bytes → 24 ≤ p.touched.spare
    → CanHold own (headers_for used freed dead) p
hold_act own used freed dead p few len marks links bytes touched = hold own used freed dead p few (omega (arith, len, marks)) (omega (arith, links)) (omega (arith, bytes)) touched
