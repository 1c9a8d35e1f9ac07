-- Marks of an item by the live extents in order.
use Rattle.std.specs.Prelude.{◌≡◌, List, map, Bool, not, ◌&&◌, ◌==◌, bytes_eq}
use Rattle.std.specs.List.{list_any}
use Rattle.czi_format.specs.Span.{Span, meets, is_aligned, span_le, sorted}
use Rattle.czi_format.specs.Segment.{Segment, extent, deleted_id}
use Rattle.czi_num.specs.declared.span.Span.{Span as CodeSpan}
use Rattle.czi_num.specs.Span.{span_of}
use Rattle.czi_seg.specs.declared.header.SegHeader.{SegHeader}
use Rattle.czi_seg.specs.View.{id_bytes}

-- the spans are the extents of these live segments in order
abbrev pub AreLive : List CodeSpan → List Segment → Type 0
AreLive live segments = map span_of live ≡ sorted span_le (map extent segments)

-- a DELETED segment that begins and ends at multiples of 32 and meets no live extent
abbrev pub is_free_item : List Span → CodeSpan × SegHeader → Bool
is_free_item live item = bytes_eq (id_bytes item.1.id) deleted_id && is_aligned (span_of item.0) && not (list_any (meets (span_of item.0)) live)

-- neither DELETED nor at the place of a live extent
abbrev pub is_unknown_item : List Span → CodeSpan × SegHeader → Bool
is_unknown_item live item = not (bytes_eq (id_bytes item.1.id) deleted_id) && not (list_any (λ s. s.at == item.0.at) live)
