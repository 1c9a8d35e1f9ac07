-- Marks of the items of a walk are those of its segments.
use Rattle.std.proofs.Common.{◌≡◌, ℕ, zero, suc, ◌+◌, ◌<◌, ◌≤◌, List, [], ◌∷◌, ◌++◌, map, length, get_or, take, Bool, true, false, cond, not, ◌&&◌, ◌||◌, ◌==◌, IsTrue, bytes_eq, filter, refl, sym, ap, ◌∙◌, arith}
use Rattle.std.specs.Prelude.{IsFalse}
use Rattle.std.specs.List.{AllByRecursion, list_any}
use Rattle.std.proofs.lemmas.Bool.{and_parts, not-true}
use Rattle.std.proofs.lemmas.List.{take_more}
use Rattle.czi_format.specs.Span.{Span, end_of, meets, is_aligned, span_le}
use Rattle.czi_format.specs.Segment.{Segment, extent, deleted_id}
use Rattle.czi_format.specs.Walk.{walk_end}
use Rattle.czi_format.specs.Layout.{is_walked, is_free, is_unknown}
use Rattle.czi_num.specs.declared.span.Span.{Span as CodeSpan}
use Rattle.czi_num.specs.Span.{span_of}
use Rattle.czi_seg.specs.declared.header.SegHeader.{SegHeader}
use Rattle.czi_seg.specs.View.{id_bytes}
use Rattle.czi_spans.specs.Apart.{AreApart, first_of}
use Rattle.czi_spans.proofs.Sorting.{any_sorted}
use Rattle.czi_walk.specs.View.{segment_of, HasExtent, EndBy}
use Rattle.czi_walk.specs.Marks.{AreLive, is_free_item, is_unknown_item}

any_map : {X Y : Type 0} (f : X → Y) (p : Y → Bool) (xs : List X) → list_any p (map f xs) ≡ list_any (λ x. p (f x)) xs
any_map f p [] = refl
any_map f p (x ∷ xs) = ap (λ b. p (f x) || b) (any_map f p xs)

-- a walk stands on the segment at a place
pub walked_is : (items : List (CodeSpan × SegHeader)) (s : Segment) (at : ℕ) → s.at ≡ at → list_any (λ (p : CodeSpan × SegHeader). p.0.at == at) items ≡ is_walked (map segment_of items) s
walked_is items s at is =
    let here : list_any (λ (w : Segment). w.at == s.at) (map segment_of items) ≡ list_any (λ (p : CodeSpan × SegHeader). p.0.at == s.at) items = any_map segment_of (λ (w : Segment). w.at == s.at) items in
    sym (here ∙ ap (λ (n : ℕ). list_any (λ (p : CodeSpan × SegHeader). p.0.at == n) items) is)

-- where the last item ends
pub last_end : (place i : ℕ) (items : List (CodeSpan × SegHeader)) (d : CodeSpan × SegHeader) → AllByRecursion HasExtent items → i + 1 ≡ length items
    → end_of (span_of (get_or items i d).0) ≡ walk_end place (map segment_of items)
last_end place i [] d extents is = absurd (omega arith)
last_end place zero (x ∷ []) d extents is = ap end_of extents.0
last_end place (suc i) (x ∷ []) d extents is = absurd (omega arith)
last_end place zero (x ∷ y ∷ items) d extents is = absurd (omega arith)
last_end place (suc i) (x ∷ y ∷ items) d extents is = last_end (end_of (extent (segment_of x))) i (y ∷ items) d extents.1 (omega arith)

-- what passes, with one item more
pub picked_push : {X Y : Type 0} (f : X → Y) (p : X → Bool) (xs : List X) (x : X) → map f (filter p (xs ++ x ∷ [])) ≡ map f (filter p xs) ++ cond (p x) (f x ∷ []) []
picked_push f p [] x = elim (p x) as (λ b. map f (cond b (x ∷ []) []) ≡ cond b (f x ∷ []) []) [ true ↦ refl | false ↦ refl ]
picked_push f p (y ∷ xs) x =
    let rest = picked_push f p xs x in
    elim (p y) as (λ b. map f (cond b (y ∷ filter p (xs ++ x ∷ [])) (filter p (xs ++ x ∷ []))) ≡ map f (cond b (y ∷ filter p xs) (filter p xs)) ++ cond (p x) (f x ∷ []) []) [ true ↦ ap (λ l. f y ∷ l) rest | false ↦ rest ]

pub picked_more : {X Y : Type 0} (f : X → Y) (p : X → Bool) (xs : List X) (i : ℕ) (x : X) (ys : List Y) → i < length xs → x ≡ get_or xs i x → p x ≡ true → ys ≡ map f (filter p (take i xs))
    → ys ++ f x ∷ [] ≡ map f (filter p (take (i + 1) xs))
picked_more f p xs i x ys inside is passes so_far =
    let on : take (i + 1) xs ≡ take i xs ++ x ∷ [] = take_more xs i x inside ∙ ap (λ y. take i xs ++ y ∷ []) (sym is) in
    let step : map f (filter p (take i xs ++ x ∷ [])) ≡ map f (filter p (take i xs)) ++ (f x ∷ []) = picked_push f p (take i xs) x ∙ ap (λ b. map f (filter p (take i xs)) ++ cond b (f x ∷ []) []) passes in
    ap (λ l. l ++ f x ∷ []) so_far ∙ sym (ap (λ l. map f (filter p l)) on ∙ step)

nothing_more : {X : Type 0} (xs : List X) → xs ++ [] ≡ xs
nothing_more [] = refl
nothing_more (x ∷ xs) = ap (λ l. x ∷ l) (nothing_more xs)

pub picked_same : {X Y : Type 0} (f : X → Y) (p : X → Bool) (xs : List X) (i : ℕ) (x : X) (ys : List Y) → i < length xs → x ≡ get_or xs i x → p x ≡ false → ys ≡ map f (filter p (take i xs))
    → ys ≡ map f (filter p (take (i + 1) xs))
picked_same f p xs i x ys inside is fails so_far =
    let on : take (i + 1) xs ≡ take i xs ++ x ∷ [] = take_more xs i x inside ∙ ap (λ y. take i xs ++ y ∷ []) (sym is) in
    let step : map f (filter p (take i xs ++ x ∷ [])) ≡ map f (filter p (take i xs)) = picked_push f p (take i xs) x ∙ (ap (λ b. map f (filter p (take i xs)) ++ cond b (f x ∷ []) []) fails ∙ nothing_more (map f (filter p (take i xs)))) in
    so_far ∙ sym (ap (λ l. map f (filter p l)) on ∙ step)

-- a filter before or after a change of each
filter_mapped : {X Y : Type 0} (P : X → Type 0) (f : X → Y) (p : X → Bool) (q : Y → Bool) → ((x : X) → P x → p x ≡ q (f x)) → (xs : List X) → AllByRecursion P xs → filter q (map f xs) ≡ map f (filter p xs)
filter_mapped P f p q same [] all = refl
filter_mapped P f p q same (x ∷ xs) all =
    let rest = filter_mapped P f p q same xs all.1 in
    let head : p x ≡ q (f x) = same x all.0 in
    ap (λ b. cond b (f x ∷ filter q (map f xs)) (filter q (map f xs))) (sym head)
    ∙ (elim (p x) as (λ b. cond b (f x ∷ filter q (map f xs)) (filter q (map f xs)) ≡ map f (cond b (x ∷ filter p xs) (filter p xs))) [ true ↦ ap (λ l. f x ∷ l) rest | false ↦ rest ])

all_filtered : {X : Type 0} (P : X → Type 0) (p : X → Bool) (xs : List X) → AllByRecursion P xs → AllByRecursion P (filter p xs)
all_filtered P p [] all = tt
all_filtered P p (x ∷ xs) all =
    let rest = all_filtered P p xs all.1 in
    elim (p x) as (λ b. AllByRecursion P (cond b (x ∷ filter p xs) (filter p xs))) [ true ↦ (all.0, rest) | false ↦ rest ]

all_true : {X : Type 0} (xs : List X) → AllByRecursion (λ _. Unit {0}) xs
all_true [] = tt
all_true (x ∷ xs) = (tt, all_true xs)

live_any : (live : List CodeSpan) (segments : List Segment) (p : Span → Bool) → AreLive live segments → list_any p (map span_of live) ≡ list_any (λ (s : Segment). p (extent s)) segments
live_any live segments p are = ap (list_any p) are ∙ (any_sorted span_le p (map extent segments) ∙ any_map extent p segments)

free_same : (live : List CodeSpan) (segments : List Segment) → AreLive live segments → (item : CodeSpan × SegHeader) → HasExtent item → is_free_item (map span_of live) item ≡ is_free segments (segment_of item)
free_same live segments are item has =
    let is_deleted : Bool = bytes_eq (id_bytes item.1.id) deleted_id in
    ap (λ b. is_deleted && is_aligned (span_of item.0) && not b) (live_any live segments (meets (span_of item.0)) are)
    ∙ ap (λ (e : Span). is_deleted && is_aligned e && not (list_any (λ (s : Segment). meets e (extent s)) segments)) has

unknown_same : (live : List CodeSpan) (segments : List Segment) → AreLive live segments → (item : CodeSpan × SegHeader) → Unit {0} → is_unknown_item (map span_of live) item ≡ is_unknown segments (segment_of item)
unknown_same live segments are item _ =
    let is_deleted : Bool = bytes_eq (id_bytes item.1.id) deleted_id in
    ap (λ b. not is_deleted && not b) (live_any live segments (λ (s : Span). s.at == item.0.at) are)

length_mapped : {X Y : Type 0} (f : X → Y) (xs : List X) → length (map f xs) ≡ length xs
length_mapped f [] = refl
length_mapped f (x ∷ xs) = ap suc (length_mapped f xs)

pub unknown_is : (live : List CodeSpan) (segments : List Segment) (items : List (CodeSpan × SegHeader)) → AreLive live segments
    → length (filter (is_unknown_item (map span_of live)) items) ≡ length (filter (is_unknown segments) (map segment_of items))
unknown_is live segments items are =
    sym (ap length (filter_mapped (λ _. Unit {0}) segment_of (is_unknown_item (map span_of live)) (is_unknown segments) (unknown_same live segments are) items (all_true items))
    ∙ length_mapped segment_of (filter (is_unknown_item (map span_of live)) items))

spans_are : (items : List (CodeSpan × SegHeader)) → AllByRecursion HasExtent items → map span_of (map (λ (p : CodeSpan × SegHeader). p.0) items) ≡ map extent (map segment_of items)
spans_are [] has = refl
spans_are (x ∷ xs) has = λ i. has.0 i ∷ spans_are xs has.1 i

pub free_is : (live : List CodeSpan) (segments : List Segment) (items : List (CodeSpan × SegHeader)) → AllByRecursion HasExtent items → AreLive live segments
    → map span_of (map (λ (p : CodeSpan × SegHeader). p.0) (filter (is_free_item (map span_of live)) items)) ≡ map extent (filter (is_free segments) (map segment_of items))
free_is live segments items has are =
    spans_are (filter (is_free_item (map span_of live)) items) (all_filtered HasExtent (is_free_item (map span_of live)) items has)
    ∙ sym (ap (map extent) (filter_mapped HasExtent segment_of (is_free_item (map span_of live)) (is_free segments) (free_same live segments are) items has))

lower : (from to : ℕ) (spans : List Span) → from ≤ to → AreApart to spans → AreApart from spans
lower from to [] le apart = tt
lower from to (s ∷ spans) le apart = (omega (arith, apart.0), apart.1, apart.2)

pub free_apart : (p : CodeSpan × SegHeader → Bool) (from : ℕ) (items : List (CodeSpan × SegHeader)) → AreApart from (map first_of items) → AreApart from (map span_of (map (λ (i : CodeSpan × SegHeader). i.0) (filter p items)))
free_apart p from [] apart = tt
free_apart p from (x ∷ xs) apart =
    let rest = free_apart p (end_of (span_of x.0)) xs apart.2 in
    let skipped = lower from (end_of (span_of x.0)) _ (omega (arith, apart.0)) rest in
    elim (p x) as (λ b. AreApart from (map span_of (map (λ (i : CodeSpan × SegHeader). i.0) (cond b (x ∷ filter p xs) (filter p xs))))) [ true ↦ (apart.0, apart.1, rest) | false ↦ skipped ]

pub free_aligned : (live : List Span) (items : List (CodeSpan × SegHeader)) → AllByRecursion (λ s. IsTrue (is_aligned s)) (map span_of (map (λ (i : CodeSpan × SegHeader). i.0) (filter (is_free_item live) items)))
free_aligned live [] = tt
free_aligned live (x ∷ xs) =
    let rest = free_aligned live xs in
    (elim (is_free_item live x) as (λ b. is_free_item live x ≡ b → AllByRecursion (λ s. IsTrue (is_aligned s)) (map span_of (map (λ (i : CodeSpan × SegHeader). i.0) (cond b (x ∷ filter (is_free_item live) xs) (filter (is_free_item live) xs))))) [
      | true ↦ λ e. let both = and_parts _ _ e in let one = and_parts _ _ both.0 in (one.1, rest)
      | false ↦ λ e. rest
    ]) refl

pub free_clear : (live : List Span) (items : List (CodeSpan × SegHeader)) → AllByRecursion (λ s. IsFalse (list_any (meets s) live)) (map span_of (map (λ (i : CodeSpan × SegHeader). i.0) (filter (is_free_item live) items)))
free_clear live [] = tt
free_clear live (x ∷ xs) =
    let rest = free_clear live xs in
    (elim (is_free_item live x) as (λ b. is_free_item live x ≡ b → AllByRecursion (λ s. IsFalse (list_any (meets s) live)) (map span_of (map (λ (i : CodeSpan × SegHeader). i.0) (cond b (x ∷ filter (is_free_item live) xs) (filter (is_free_item live) xs))))) [
      | true ↦ λ e. let both = and_parts _ _ e in (not-true _ both.1, rest)
      | false ↦ λ e. rest
    ]) refl

pub free_inside : (p : CodeSpan × SegHeader → Bool) (size : ℕ) (items : List (CodeSpan × SegHeader)) → EndBy size items → AllByRecursion (λ s. end_of s ≤ size) (map span_of (map (λ (i : CodeSpan × SegHeader). i.0) (filter p items)))
free_inside p size [] ends = tt
free_inside p size (x ∷ xs) ends =
    let rest = free_inside p size xs ends.1 in
    elim (p x) as (λ b. AllByRecursion (λ s. end_of s ≤ size) (map span_of (map (λ (i : CodeSpan × SegHeader). i.0) (cond b (x ∷ filter p xs) (filter p xs))))) [ true ↦ (ends.0, rest) | false ↦ rest ]
