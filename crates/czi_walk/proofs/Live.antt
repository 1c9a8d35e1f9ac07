-- Live segments in order of place, of which no two meet.
use Rattle.std.proofs.Common.{◌≡◌, ◌+◌, ◌<◌, List, [], ◌∷◌, map, None, refl, sym, ap, ◌∙◌, subst, arith}
use Rattle.std.specs.List.{AllByRecursion}
use Rattle.std.specs.List.Sorted.{IsPermutation}
use Rattle.czi_format.specs.Span.{Span, span_le, sorted}
use Rattle.czi_format.specs.Segment.{extent}
use Rattle.czi_format.specs.Refusals.{first_meeting}
use Rattle.czi_num.specs.declared.span.Span.{Span as CodeSpan}
use Rattle.czi_seg.specs.declared.header.SegHeader.{SegHeader}
use Rattle.czi_spans.specs.Apart.{AreApart, first_of}
use Rattle.czi_spans.proofs.Sorting.{all_moved}
use Rattle.czi_spans.proofs.Apart.{apart_from_sorted}
use Rattle.czi_walk.specs.View.{segment_of, HasExtent, IsRow}

-- the spans of items are the extents of their segments
pub extents_are : (items : List (CodeSpan × SegHeader)) → AllByRecursion HasExtent items → map first_of items ≡ map extent (map segment_of items)
extents_are [] has = refl
extents_are (x ∷ xs) has = λ i. has.0 i ∷ extents_are xs has.1 i

not_empty : (items : List (CodeSpan × SegHeader)) → AllByRecursion HasExtent items → AllByRecursion (λ (s : Span). 0 < s.len) (map first_of items)
not_empty [] has = tt
not_empty (x ∷ xs) has = ((let len : x.0.len ≡ 32 + x.1.allocated = ap (λ (s : Span). s.len) has.0 in omega (arith, len)), not_empty xs has.1)

-- items in order of which no two neighbours meet are a row
pub row_from_sorted : (old new : List (CodeSpan × SegHeader)) → IsPermutation old new → map first_of new ≡ sorted span_le (map first_of old) → AllByRecursion HasExtent old
    → first_meeting (map first_of new) ≡ None → IsRow new
row_from_sorted old new moved is has none = record {
  extents = all_moved HasExtent old new moved has;
  apart = subst (AreApart 0) (sym is) (apart_from_sorted (map first_of old) (not_empty old has) (ap first_meeting (sym is) ∙ none));
}
