use Rattle.std.proofs.Common.{◌-◌, sym, ◌∙◌, arith}
use Rattle.czi_num.specs.Span.{span_of}
use Rattle.czi_spans.proofs.Neighbours.{meeting_none}
use Rattle.czi_spans.proofs.order.first_meeting.Goals as goal

pub returns : goal.returns
returns c = sym (meeting_none span_of c.args.spans.now (c.loop-i.i - 1) (omega arith)) ∙ c.loop-i.invariant
