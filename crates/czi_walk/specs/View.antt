-- Items of a walk: the extent of a segment with its header.
use Rattle.std.specs.Prelude.{◌≡◌, ℕ, ◌≤◌, List, length, take, map, Option, Some}
use Rattle.std.specs.List.{AllByRecursion}
use Rattle.czi_format.specs.Partial.{◌>>=◌, given}
use Rattle.czi_format.specs.Span.{end_of}
use Rattle.czi_format.specs.Segment.{Segment, extent, segment_at}
use Rattle.czi_format.specs.Walk.{is_name}
use Rattle.czi_num.specs.declared.span.Span.{Span as CodeSpan}
use Rattle.czi_num.specs.Span.{span_of}
use Rattle.czi_seg.specs.declared.header.SegHeader.{SegHeader}
use Rattle.czi_seg.specs.View.{header_of}
use Rattle.czi_spans.specs.Apart.{AreApart, first_of}

abbrev pub segment_of : CodeSpan × SegHeader → Segment
segment_of item = header_of item.0.at item.1

-- the span is the header's extent
abbrev pub HasExtent : CodeSpan × SegHeader → Type 0
HasExtent item = span_of item.0 ≡ extent (segment_of item)

-- segments one behind another
pub record IsRow (items : List (CodeSpan × SegHeader)) : Type 0 where
  pub extents : AllByRecursion HasExtent items
  pub apart : AreApart 0 (map first_of items)

-- each ends at or below a place
abbrev pub EndBy : ℕ → List (CodeSpan × SegHeader) → Type 0
EndBy size items = AllByRecursion (λ item. end_of (span_of item.0) ≤ size) items

-- the segment stands at a place and ends at or below another
pub record IsAt (at size : ℕ) (item : CodeSpan × SegHeader) : Type 0 where
  pub extent : HasExtent item
  pub place : item.0.at ≡ at
  pub inside : end_of (span_of item.0) ≤ size

-- the segment stands at or behind a place and ends at or below another
pub record IsNext (place size : ℕ) (item : CodeSpan × SegHeader) : Type 0 where
  pub extent : HasExtent item
  pub behind : place ≤ item.0.at
  pub inside : end_of (span_of item.0) ≤ size

-- the image has so many bytes
abbrev pub HasBytes : ℕ → List ℕ → Type 0
HasBytes size image = size ≤ length image

-- The image has so many bytes, and these segments stand in them.
pub record Knows (size : ℕ) (image : List ℕ) (known : List (CodeSpan × SegHeader)) : Type 0 where
  pub long : HasBytes size image
  pub stand : AllByRecursion (λ item. segment_at (take size image) item.0.at ≡ Some (segment_of item)) known

-- the segment, if its id is a name
abbrev pub named : Option Segment → Option Segment
named found = do
  segment ← found
  given (is_name segment.id) segment
