use Rattle.std.proofs.Common.{◌≡◌, ◌∙◌, List, Some, None, map, ap, sym, subst}
use Rattle.std.proofs.lemmas.Result.{err_from_is_err_and}
use Rattle.czi_rig.specs.declared.file.File.TheVariants.{Image}
use Rattle.czi_format.specs.Refusals.{first_meeting}
use Rattle.czi_num.specs.declared.span.Span.{Span}
use Rattle.czi_num.specs.Span.{span_of}
use Rattle.czi_seg.specs.declared.header.SegHeader.{SegHeader}
use Rattle.czi_spans.specs.Apart.{first_of, overlap_of}
use Rattle.czi_walk.specs.View.{IsRow, EndBy, Knows}
use Rattle.czi_image.specs.Items.{AreSorted, items_of}
use Rattle.czi_image.specs.View.{live_of}
use Rattle.czi_image.proofs.Indexed.{read_overlap, extents_sorted, are_live, is_row, end_by, knows, disjoint_live, free_live, indexes, refuses_first}
use Rattle.czi_image.proofs.Told.{seen_same, seen_before}
use Rattle.czi_image.proofs.opening.read_index.Goals as goal

pub returns-in_err-live-clause-refused : goal.returns-in_err-live-clause-refused
returns-in_err-live-clause-refused g c =
    let p = err_from_is_err_and c.from_residual-in_err-live.result c.from_residual-in_err-live.ensures.1 in
    rw (p.1, p.2) (λ image is. refuses_first image c.in_err-live.field-0.0 ((c.in_err-live.ensures {u = tt}).refused image (seen_same _ _ Image image c.image_length.ensures.untouched.same is)))

pub returns-in-Some-clause-refused : goal.returns-in-Some-clause-refused
returns-in-Some-clause-refused g c = λ image is.
    let live = c.in_ok-live.live in
    let items = c.in_ok-items.items.items in
    let ordered : AreSorted (items_of live) items = c.in_ok-items.ensures {u = tt} in
    let same : map span_of c.in_ok-spans.spans.items ≡ map first_of items = c.in_ok-spans.ensures {u = tt} ∙ ap (λ (l : List (Span × SegHeader)). map first_of l) c.deref.ensures.value in
    let found = (c.in_ok-live.ensures {u = tt}).found image (seen_same _ _ Image image c.image_length.ensures.untouched.same is) in
    let told : Some (overlap_of (c.in-Some.first, c.in-Some.second)) ≡ first_meeting (map span_of c.deref-2.result.now) = (rw (c.in-Some.is, c.in-Some.first-is, c.in-Some.second-is) at c.first_meeting.ensures) in
    read_overlap image (live_of live) _ found (ap first_meeting (sym (same ∙ extents_sorted live items ordered)) ∙ (ap (λ (l : List Span). first_meeting (map span_of l)) (sym c.deref-2.ensures.value) ∙ sym told))

pub walk_and_mark-requires-clause-row : goal.walk_and_mark-requires-clause-row
walk_and_mark-requires-clause-row g c =
    let live = c.in_ok-live.live in
    let items = c.in_ok-items.items.items in
    let ordered : AreSorted (items_of live) items = c.in_ok-items.ensures {u = tt} in
    let same : map span_of c.in_ok-spans.spans.items ≡ map first_of items = c.in_ok-spans.ensures {u = tt} ∙ ap (λ (l : List (Span × SegHeader)). map first_of l) c.deref.ensures.value in
    let none : first_meeting (map first_of items) ≡ None = ap first_meeting (sym same) ∙ (ap (λ (l : List Span). first_meeting (map span_of l)) (sym c.deref-2.ensures.value) ∙ sym (c.in_default.ensures {u = tt})) in
    subst IsRow (sym c.deref-3.ensures.value) (is_row live items ordered none)

pub walk_and_mark-requires-clause-inside : goal.walk_and_mark-requires-clause-inside
walk_and_mark-requires-clause-inside g c =
    let live = c.in_ok-live.live in
    let items = c.in_ok-items.items.items in
    let ordered : AreSorted (items_of live) items = c.in_ok-items.ensures {u = tt} in
    let same : map span_of c.in_ok-spans.spans.items ≡ map first_of items = c.in_ok-spans.ensures {u = tt} ∙ ap (λ (l : List (Span × SegHeader)). map first_of l) c.deref.ensures.value in
    subst (EndBy c.in_ok-length.length) (sym c.deref-3.ensures.value) (end_by c.in_ok-length.length live items (c.in_ok-live.ensures {u = tt}).inside ordered)

pub walk_and_mark-requires-clause-in_image : goal.walk_and_mark-requires-clause-in_image
walk_and_mark-requires-clause-in_image g c = λ image is.
    let live = c.in_ok-live.live in
    let items = c.in_ok-items.items.items in
    let ordered : AreSorted (items_of live) items = c.in_ok-items.ensures {u = tt} in
    let same : map span_of c.in_ok-spans.spans.items ≡ map first_of items = c.in_ok-spans.ensures {u = tt} ∙ ap (λ (l : List (Span × SegHeader)). map first_of l) c.deref.ensures.value in
    let none : first_meeting (map first_of items) ≡ None = ap first_meeting (sym same) ∙ (ap (λ (l : List Span). first_meeting (map span_of l)) (sym c.deref-2.ensures.value) ∙ sym (c.in_default.ensures {u = tt})) in
    let before = seen_before _ _ image c.read_live.ensures.untouched.same is in
    let first = seen_before _ _ image c.image_length.ensures.untouched.same before in
    subst (Knows c.in_ok-length.length image) (sym c.deref-3.ensures.value)
    (knows image live items c.in_ok-length.length ((c.in_ok-length.ensures {u = tt}).length image first) ((c.in_ok-live.ensures {u = tt}).found image before) ordered none)

pub index_of-requires-clause-disjoint : goal.index_of-requires-clause-disjoint
index_of-requires-clause-disjoint g c =
    let live = c.in_ok-live.live in
    let items = c.in_ok-items.items.items in
    let ordered : AreSorted (items_of live) items = c.in_ok-items.ensures {u = tt} in
    let same : map span_of c.in_ok-spans.spans.items ≡ map first_of items = c.in_ok-spans.ensures {u = tt} ∙ ap (λ (l : List (Span × SegHeader)). map first_of l) c.deref.ensures.value in
    let none : first_meeting (map first_of items) ≡ None = ap first_meeting (sym same) ∙ (ap (λ (l : List Span). first_meeting (map span_of l)) (sym c.deref-2.ensures.value) ∙ sym (c.in_default.ensures {u = tt})) in
    disjoint_live live items ordered none

pub index_of-requires-clause-free : goal.index_of-requires-clause-free
index_of-requires-clause-free g c =
    let live = c.in_ok-live.live in
    let items = c.in_ok-items.items.items in
    let ordered : AreSorted (items_of live) items = c.in_ok-items.ensures {u = tt} in
    let same : map span_of c.in_ok-spans.spans.items ≡ map first_of items = c.in_ok-spans.ensures {u = tt} ∙ ap (λ (l : List (Span × SegHeader)). map first_of l) c.deref.ensures.value in
    let spans_are : map span_of c.deref-4.result.now ≡ map first_of items = ap (λ (l : List Span). map span_of l) c.deref-4.ensures.value ∙ same in
    free_live live c.in_ok-length.length c.deref-4.result.now c.in_ok-survey.survey.extents.items (are_live live items c.deref-4.result.now ordered spans_are) (c.in_ok-survey.ensures {u = tt}).free

pub returns-clause-shown : goal.returns-clause-shown
returns-clause-shown g c = λ image is.
    let live = c.in_ok-live.live in
    let items = c.in_ok-items.items.items in
    let ordered : AreSorted (items_of live) items = c.in_ok-items.ensures {u = tt} in
    let same : map span_of c.in_ok-spans.spans.items ≡ map first_of items = c.in_ok-spans.ensures {u = tt} ∙ ap (λ (l : List (Span × SegHeader)). map first_of l) c.deref.ensures.value in
    let none : first_meeting (map first_of items) ≡ None = ap first_meeting (sym same) ∙ (ap (λ (l : List Span). first_meeting (map span_of l)) (sym c.deref-2.ensures.value) ∙ sym (c.in_default.ensures {u = tt})) in
    let after = seen_same _ _ Image image c.image_length.ensures.untouched.same is in
    let spans_are : map span_of c.deref-4.result.now ≡ map first_of items = ap (λ (l : List Span). map span_of l) c.deref-4.ensures.value ∙ same in
    indexes image live items c.deref-4.result.now c.in_ok-survey.survey c.in_ok-length.length c.index_of.result ((c.in_ok-length.ensures {u = tt}).length image is) ((c.in_ok-live.ensures {u = tt}).found image after) ordered spans_are none
    ((c.in_ok-survey.ensures {u = tt}).walk image (seen_same _ _ Image image c.read_live.ensures.untouched.same after)) (c.in_ok-survey.ensures {u = tt}).shows c.index_of.ensures.holds c.index_of.ensures.lies ((c.in_ok-live.ensures {u = tt}).settled image after)
