-- From what was read to the index: the rule on overlaps, what the walk knows, and where everything lies.
use Rattle.std.proofs.Common.{◌≡◌, ℕ, ◌<◌, ◌≤◌, List, [], ◌∷◌, map, length, take, true, ◌==◌, Some, None, Ok, Err, refl, ap, sym, ◌∙◌, subst, arith}
use Rattle.std.specs.Prelude.{bytes_eq}
use Rattle.std.specs.List.{AllByRecursion, list_any}
use Rattle.std.proofs.lemmas.Bool.{eq-eqb}
use Rattle.std.proofs.lemmas.Slice.Eq.{bytes_eq-Decides}
use Rattle.std.proofs.lemmas.List.{take_all}
use Rattle.czi_format.specs.Span.{Span, end_of, meets, span_le, sorted, AreDisjoint}
use Rattle.czi_format.specs.Segment.{Segment, extent, segment_at, file_id}
use Rattle.czi_format.specs.Live.{Live, FileHeader, file_header, front_header, segments}
use Rattle.czi_format.specs.Refusals.{Refusal, first_meeting, reading, reads_but_overlap}
use Rattle.czi_format.specs.Shows.{Reaches}
use Rattle.czi_format.specs.Walk.{stands_at, next_from, IsWalk, is_name}
use Rattle.czi_format.specs.Layout.{is_walked, layout}
use Rattle.czi_format.proofs.Local.{front_is}
use Rattle.czi_format.proofs.Readings.{bind_some, given_some, header_is_read}
use Rattle.czi_format.proofs.Overlap.{none_meet}
use Rattle.czi_format.proofs.Rules.{reading_reaches}
use Rattle.czi_num.specs.declared.span.Span.{Span as CodeSpan}
use Rattle.czi_num.specs.Span.{span_of}
use Rattle.czi_seg.specs.declared.header.SegHeader.{SegHeader}
use Rattle.czi_spans.specs.Apart.{first_of}
use Rattle.czi_spans.proofs.Sorting.{all_moved, any_sorted}
use Rattle.czi_walk.specs.View.{segment_of, IsRow, EndBy, Knows}
use Rattle.czi_walk.specs.Marks.{AreLive}
use Rattle.czi_walk.specs.declared.surveying.Survey.{Survey}
use Rattle.czi_walk.specs.Survey as walked
use Rattle.czi_walk.specs.Survey.{Shows}
use Rattle.czi_walk.proofs.Live.{extents_are, row_from_sorted}
use Rattle.czi_walk.proofs.Stand.{Here, live_stand}
use Rattle.czi_image.specs.declared.reading.Live.{Live as CodeLive}
use Rattle.czi_image.specs.declared.index.Index.{Index}
use Rattle.czi_image.specs.declared.fault.ImageFault.{ImageFault}
use Rattle.czi_image.specs.Faults.{Tells, TellsBrokenRule}
use Rattle.czi_image.proofs.Told.{tells_first}
use Rattle.czi_image.specs.Holds.{Holds, LiesAs, IsSettled, Indexes}
use Rattle.czi_image.specs.Inside.{LiveWithin}
use Rattle.czi_image.specs.Items.{items_of, AreSorted}
use Rattle.czi_image.specs.Spans.{AreFree}
use Rattle.czi_image.specs.View.{live_of}
use Rattle.czi_image.proofs.LiveItems.{items_segments, items_extents, items_end}

-- no two extents meet: all rules are met
pub read_whole : (image : List ℕ) (live : Live) → reads_but_overlap image ≡ Ok live → first_meeting (sorted span_le (map extent (segments live))) ≡ None → reading image ≡ Ok live
unfolding reading
read_whole image live found none = rw (found, none)

pub read_overlap : (image : List ℕ) (live : Live) (r : Refusal) → reads_but_overlap image ≡ Ok live → first_meeting (sorted span_le (map extent (segments live))) ≡ Some r → reading image ≡ Err r
unfolding reading
read_overlap image live r found some = rw (found, some)

-- what the other rules refuse
pub refuses_first : (image : List ℕ) (fault : ImageFault) → Tells (reads_but_overlap image) fault → TellsBrokenRule image fault
unfolding reading
refuses_first image fault told = tells_first (reads_but_overlap image) _ fault told

-- the sorted items are those of the live extents in order
pub extents_sorted : (l : CodeLive) (items : List (CodeSpan × SegHeader)) → AreSorted (items_of l) items → map first_of items ≡ sorted span_le (map extent (segments (live_of l)))
extents_sorted l items s = s.spans ∙ ap (sorted span_le) (extents_are (items_of l) (items_extents l) ∙ ap (map extent) (items_segments l))

pub are_live : (l : CodeLive) (items : List (CodeSpan × SegHeader)) (spans : List CodeSpan) → AreSorted (items_of l) items → map span_of spans ≡ map first_of items → AreLive spans (segments (live_of l))
are_live l items spans s is = is ∙ extents_sorted l items s

pub is_row : (l : CodeLive) (items : List (CodeSpan × SegHeader)) → AreSorted (items_of l) items → first_meeting (map first_of items) ≡ None → IsRow items
is_row l items s none = row_from_sorted (items_of l) items s.items s.spans (items_extents l) none

pub end_by : (size : ℕ) (l : CodeLive) (items : List (CodeSpan × SegHeader)) → LiveWithin size l → AreSorted (items_of l) items → EndBy size items
end_by size l items within s = all_moved (λ (item : CodeSpan × SegHeader). end_of (span_of item.0) ≤ size) (items_of l) items s.items (items_end size l within)

all_mapped : {X Y : Type 0} (P : Y → Type 0) (f : X → Y) (xs : List X) → AllByRecursion (λ x. P (f x)) xs → AllByRecursion P (map f xs)
all_mapped P f [] all = tt
all_mapped P f (x ∷ xs) all = (all.0, all_mapped P f xs all.1)

-- the live extents end within the length
pub inside_live : (size : ℕ) (l : CodeLive) → LiveWithin size l → AllByRecursion (λ (s : Span). end_of s ≤ size) (map extent (segments (live_of l)))
inside_live size l within =
    subst (AllByRecursion (λ (s : Span). end_of s ≤ size)) (extents_are (items_of l) (items_extents l) ∙ ap (map extent) (items_segments l))
    (all_mapped (λ (s : Span). end_of s ≤ size) first_of (items_of l) (items_end size l within))

all_unmapped : {X Y : Type 0} (P : Y → Type 0) (f : X → Y) (xs : List X) → AllByRecursion P (map f xs) → AllByRecursion (λ x. P (f x)) xs
all_unmapped P f [] all = tt
all_unmapped P f (x ∷ xs) all = (all.0, all_unmapped P f xs all.1)

-- the walk may take the live segments for known
pub knows : (image : List ℕ) (l : CodeLive) (items : List (CodeSpan × SegHeader)) (n : ℕ) → n ≡ length image → reads_but_overlap image ≡ Ok (live_of l) → AreSorted (items_of l) items
    → first_meeting (map first_of items) ≡ None → Knows n image items
knows image l items n long found s none =
    let whole : take n image ≡ image = take_all n image (omega (arith, long)) in
    let read : reading image ≡ Ok (live_of l) = read_whole image (live_of l) found (ap first_meeting (sym (extents_sorted l items s)) ∙ none) in
    let stand : AllByRecursion (Here image) (segments (live_of l)) = live_stand image (live_of l) (reading_reaches image (live_of l) read).0 in
    let of_items : AllByRecursion (λ (item : CodeSpan × SegHeader). Here image (segment_of item)) (items_of l) =
    all_unmapped (Here image) segment_of (items_of l) (subst (AllByRecursion (Here image)) (sym (items_segments l)) stand) in
    record {
      long = omega (arith, long);
      stand = subst (λ (b : List ℕ). AllByRecursion (λ (item : CodeSpan × SegHeader). segment_at b item.0.at ≡ Some (segment_of item)) items) (sym whole)
          (all_moved (λ (item : CodeSpan × SegHeader). Here image (segment_of item)) (items_of l) items s.items of_items);
    }

extents_long : (segments : List Segment) → AllByRecursion (λ (s : Span). 0 < s.len) (map extent segments)
extents_long [] = tt
extents_long (s ∷ rest) = (omega arith, extents_long rest)

-- no two live extents meet
pub disjoint_live : (l : CodeLive) (items : List (CodeSpan × SegHeader)) → AreSorted (items_of l) items → first_meeting (map first_of items) ≡ None → AreDisjoint (map extent (segments (live_of l)))
disjoint_live l items s none = none_meet (map extent (segments (live_of l))) (extents_long (segments (live_of l))) (ap first_meeting (sym (extents_sorted l items s)) ∙ none)

all_weaken : {X : Type 0} (P Q : X → Type 0) → ((x : X) → P x → Q x) → (xs : List X) → AllByRecursion P xs → AllByRecursion Q xs
all_weaken P Q f [] all = tt
all_weaken P Q f (x ∷ xs) all = (f x all.0, all_weaken P Q f xs all.1)

-- what is free beside the live extents in order is free beside them in any order
pub free_live : (l : CodeLive) (n : ℕ) (spans extents : List CodeSpan) → AreLive spans (segments (live_of l)) → walked.AreFree n spans extents → AreFree n (map extent (segments (live_of l))) (map span_of extents)
free_live l n spans extents are free = record {
  apart = free.apart;
  aligned = free.aligned;
  inside = free.inside;
  clear = all_weaken _ _ (λ (s : Span) clear. sym (ap (list_any (meets s)) are ∙ any_sorted span_le (meets s) (map extent (segments (live_of l)))) ∙ clear) (map span_of extents) free.clear;
}

file_named : is_name file_id ≡ true
unfolding file_id
file_named = refl

same_bytes : (xs ys : List ℕ) → bytes_eq xs ys ≡ true → xs ≡ ys
same_bytes xs ys e = (bytes_eq-Decides xs ys).0 e

-- the walk begins with the file header
pub header_walked : (image : List ℕ) (live : Live) (walk : List Segment) → Reaches image live → IsWalk image walk → (live.header.segment.at ≡ 0) × (is_walked walk live.header.segment ≡ true)
unfolding file_header stands_at
header_walked image live walk r walks =
    let f = bind_some (front_header image) _ live.header r.header in
    let g = given_some _ f.0 live.header f.2 in
    let fronts = front_is image f.0 f.1 in
    let own : f.0.segment ≡ live.header.segment = ap (λ (h : FileHeader). h.segment) g.1 in
    let place : live.header.segment.at ≡ 0 = ap (λ (s : Segment). s.at) (sym own) ∙ (header_is_read image 0 f.0.segment fronts.header).place in
    let id : live.header.segment.id ≡ file_id = ap (λ (s : Segment). s.id) (sym own) ∙ same_bytes _ _ fronts.id in
    let named : is_name live.header.segment.id ≡ true = ap is_name id ∙ file_named in
    let here : segment_at image 0 ≡ Some live.header.segment = ap (segment_at image) (sym place) ∙ (live_stand image live r).0 in
    let stands : stands_at image 0 ≡ Some live.header.segment = rw (here, named) refl in
    (place, on_walk walk stands walks)
  where
    on_walk : (walk : List Segment) → stands_at image 0 ≡ Some live.header.segment → IsWalk image walk → is_walked walk live.header.segment ≡ true
    on_walk [] stands none =
        let next : next_from image 0 ≡ Some live.header.segment = rw stands refl in
        absurd (cc)
    on_walk (w ∷ rest) stands (goes, on) =
        let next : next_from image 0 ≡ Some live.header.segment = rw stands refl in
        let same : w ≡ live.header.segment = cc in
        let test : (w.at == live.header.segment.at) ≡ true = eq-eqb _ _ (ap (λ (s : Segment). s.at) same) in
        rw test refl

-- all together: the image shows what the index holds
pub indexes : (image : List ℕ) (l : CodeLive) (items : List (CodeSpan × SegHeader)) (spans : List CodeSpan) (survey : Survey) (n : ℕ) (x : Index) → n ≡ length image → reads_but_overlap image ≡ Ok (live_of l)
    → AreSorted (items_of l) items → map span_of spans ≡ map first_of items → first_meeting (map first_of items) ≡ None
    → IsWalk (take n image) (map segment_of survey.walk.items) → ((segments : List Segment) → AreLive spans segments → Shows segments survey) → Holds (live_of l) x
    → (Shows (segments (live_of l)) survey → is_walked (map segment_of survey.walk.items) (live_of l).header.segment ≡ true → LiesAs (layout n (live_of l) (map segment_of survey.walk.items)) x)
    → IsSettled image → Indexes image x
indexes image l items spans survey n x long found s same none walks shows holds lies settled =
    let read : reading image ≡ Ok (live_of l) = read_whole image (live_of l) found (ap first_meeting (sym (extents_sorted l items s)) ∙ none) in
    let reaches = reading_reaches image (live_of l) read in
    let whole : take n image ≡ image = take_all n image (omega (arith, long)) in
    let walk : IsWalk image (map segment_of survey.walk.items) = subst (λ (b : List ℕ). IsWalk b (map segment_of survey.walk.items)) whole walks in
    record {
      live = live_of l;
      walk = map segment_of survey.walk.items;
      reaches = reaches.0;
      idle = reaches.1;
      settled = settled;
      walks = walk;
      holds = holds;
      lies = subst (λ (m : ℕ). LiesAs (layout m (live_of l) (map segment_of survey.walk.items)) x) long
          (lies (shows (segments (live_of l)) (are_live l items spans s same)) (header_walked image (live_of l) (map segment_of survey.walk.items) reaches.0 walk).1);
    }
