-- What a span stands for.
use Rattle.std.specs.Prelude.{ℕ, ◌<◌, ◌≤◌}
use Rattle.czi_format.specs.Span.{Span, end_of}
use Rattle.czi_num.specs.declared.span.Span.{Span as CodeSpan}

abbrev pub span_of : CodeSpan → Span
span_of s = record { at = s.at; len = s.len }

-- the place lies in the span
abbrev pub LiesIn : ℕ → Span → Type 0
LiesIn place s = (s.at ≤ place) × (place < end_of s)
