use Rattle.std.proofs.Common.{◌≡◌, map, filter, take}
use Rattle.czi_num.specs.declared.span.Span.{Span as CodeSpan}
use Rattle.czi_num.specs.Span.{span_of}
use Rattle.czi_seg.specs.declared.header.SegHeader.{SegHeader}
use Rattle.czi_walk.specs.Marks.{is_free_item}
use Rattle.czi_walk.proofs.marks.deleted_extents.Given as goal

abbrev pub invariant-loop-item : goal.invariant-loop-item
invariant-loop-item l = l.extents.items ≡ map (λ (i : CodeSpan × SegHeader). i.0) (filter (is_free_item (map span_of l.live)) (take l.item-index l.walk))
