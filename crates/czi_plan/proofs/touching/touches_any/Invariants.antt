use Rattle.std.proofs.Common.{◌≡◌, map, drop}
use Rattle.std.specs.List.{list_any}
use Rattle.czi_num.specs.Span.{span_of}
use Rattle.czi_plan.specs.Geometry.{touches}
use Rattle.czi_plan.proofs.touching.touches_any.Given as goal

-- the others decide it as all do
abbrev pub invariant-loop-other : goal.invariant-loop-other
invariant-loop-other l = list_any (touches (span_of l.span)) (map span_of (drop l.other-index l.others)) ≡ list_any (touches (span_of l.span)) (map span_of l.others)
