use Rattle.std.proofs.Common.{◌≡◌, map, take}
use Rattle.czi_num.specs.Span.{span_of}
use Rattle.czi_spans.specs.Apart.{first_of}
use Rattle.czi_walk.proofs.surveying.spans_of.Given as goal

abbrev pub invariant-loop-item : goal.invariant-loop-item
invariant-loop-item l = map span_of l.spans.items ≡ map first_of (take l.item-index l.items)
