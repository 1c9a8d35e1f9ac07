use Rattle.czi_num.specs.Span.{span_of}
use Rattle.czi_report.specs.Text.{span_line}
use Rattle.czi_report.proofs.Lines.{next_line, last_line}
use Rattle.czi_report.proofs.space.push_spans.Goals as goal

pub loop-span-preserved : goal.loop-span-preserved
loop-span-preserved c = next_line (span_line c.args.label.now) span_of c.args.spans.now c.loop-span.span-index c.span-item.result _ _ _ _ c.loop-span-test.true c.span-item.is c.loop-span.invariant c.in_ok-end_with_span.ensures.ok

pub returns-clause-ok : goal.returns-clause-ok
returns-clause-ok c = last_line _ (span_line c.args.label.now) span_of c.args.spans.now c.loop-span.span-index _ _ c.loop-span-test.false c.loop-span.invariant
