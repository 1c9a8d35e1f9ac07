use Rattle.std.proofs.Common.{◌∙◌, ◌==◌, ap}
use Rattle.std.specs.Option.{is_some}
use Rattle.czi_num.specs.declared.span.Span.{Span as CodeSpan}
use Rattle.czi_seg.specs.declared.header.SegHeader.{SegHeader}
use Rattle.czi_spans.proofs.Apart.{position_any}
use Rattle.czi_walk.proofs.Marked.{walked_is}
use Rattle.czi_walk.proofs.marks.is_walked.Goals as goal

pub returns : goal.returns
returns c = λ s is.
    c.is_some.ensures ∙ (ap is_some c.find_place.ensures.position
    ∙ (position_any (λ (p : CodeSpan × SegHeader). p.0.at == c.args.at) c.args.walk.now ∙ walked_is c.args.walk.now s c.args.at is))
