-- What a walk shows beside the live segments.
use Rattle.std.specs.Prelude.{◌≡◌, ℕ, ◌≤◌, List, map, filter, length, IsTrue, IsFalse}
use Rattle.std.specs.List.{AllByRecursion, list_any}
use Rattle.czi_format.specs.Span.{end_of, meets, is_aligned}
use Rattle.czi_format.specs.Segment.{Segment, extent}
use Rattle.czi_format.specs.Walk.{walk_end}
use Rattle.czi_format.specs.Layout.{is_free, is_unknown}
use Rattle.czi_num.specs.declared.span.Span.{Span as CodeSpan}
use Rattle.czi_num.specs.Span.{span_of}
use Rattle.czi_spans.specs.Apart.{AreApart}
use Rattle.czi_walk.specs.declared.surveying.Survey.{Survey}
use Rattle.czi_walk.specs.View.{segment_of}

-- the DELETED extents, the number of unknown segments and the end of the walk, where these segments are live
pub record Shows (live : List Segment) (s : Survey) : Type 0 where
  pub deleted : map span_of s.extents.items ≡ map extent (filter (is_free live) (map segment_of s.walk.items))
  pub unknown : s.unknown ≡ length (filter (is_unknown live) (map segment_of s.walk.items))
  pub ends : s.walk_end ≡ walk_end 0 (map segment_of s.walk.items)

-- extents one behind another, at multiples of 32, that end at or below a place and meet no live extent
pub record AreFree (size : ℕ) (live extents : List CodeSpan) : Type 0 where
  pub apart : AreApart 0 (map span_of extents)
  pub aligned : AllByRecursion (λ s. IsTrue (is_aligned s)) (map span_of extents)
  pub inside : AllByRecursion (λ s. end_of s ≤ size) (map span_of extents)
  pub clear : AllByRecursion (λ s. IsFalse (list_any (meets s) (map span_of live))) (map span_of extents)
