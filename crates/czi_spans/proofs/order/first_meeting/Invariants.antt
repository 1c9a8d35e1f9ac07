use Rattle.std.proofs.Common.{◌≡◌, ◌-◌, map, drop}
use Rattle.czi_format.specs.Refusals.{first_meeting}
use Rattle.czi_num.specs.Span.{span_of}
use Rattle.czi_spans.proofs.order.first_meeting.Given as goal

abbrev pub invariant-loop-i : goal.invariant-loop-i
invariant-loop-i l = first_meeting (map span_of (drop (l.i - 1) l.spans)) ≡ first_meeting (map span_of l.spans)
