use Rattle.std.proofs.Common.{◌≤◌, map, take}
use Rattle.std.specs.List.{AllByRecursion}
use Rattle.czi_format.specs.Span.{Span, end_of}
use Rattle.czi_num.specs.Span.{span_of}
use Rattle.czi_space.proofs.fitting.ending_past.Given as goal

-- all that were passed end at or below the place
abbrev pub invariant-loop-i : goal.invariant-loop-i
invariant-loop-i l = AllByRecursion (λ (h : Span). end_of h ≤ l.place) (map span_of (take l.i l.held))
