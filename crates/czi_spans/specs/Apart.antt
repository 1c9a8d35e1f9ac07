-- Spans that stand one behind another, and what pairs with spans stand for.
use Rattle.std.specs.Prelude.{ℕ, ◌<◌, ◌≤◌, List, [], ◌∷◌, ⊤}
use Rattle.czi_format.specs.Span.{Span, end_of}
use Rattle.czi_format.specs.Refusals.{Refusal, overlap}
use Rattle.czi_num.specs.declared.span.Span.{Span as CodeSpan}
use Rattle.czi_num.specs.Span.{span_of}

-- From a place on stand these spans, each at or behind the end of the one before it, and none is empty.
abbrev pub AreApart : ℕ → List Span → Type 0
AreApart from [] = ⊤
AreApart from (s ∷ rest) = (from ≤ s.at) × (0 < s.len) × AreApart (end_of s) rest

-- two spans that meet
abbrev pub overlap_of : CodeSpan × CodeSpan → Refusal
overlap_of pair = overlap (span_of pair.0) (span_of pair.1)

-- the span of an item
abbrev pub first_of : {T : Type 0} → CodeSpan × T → Span
first_of item = span_of item.0
