use Rattle.std.proofs.Common.{◌≡◌, ◌++◌, length, map, take}
use Rattle.czi_num.specs.Span.{span_of}
use Rattle.czi_report.specs.Text.{lines, number_line, span_line}
use Rattle.czi_report.proofs.space.push_spans.Given as goal

-- the line of each that was passed stands behind their number
abbrev pub invariant-loop-span : goal.invariant-loop-span
invariant-loop-span l = l.out.items ≡ l.fn.out.items ++ (number_line l.count (length l.spans) ++ lines (span_line l.label) 0 (map span_of (take l.span-index l.spans)))
