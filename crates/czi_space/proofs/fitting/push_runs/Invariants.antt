use Rattle.std.proofs.Common.{◌≡◌, ◌++◌, map, drop}
use Rattle.czi_format.specs.Space.{without}
use Rattle.czi_num.specs.Span.{span_of}
use Rattle.czi_space.specs.State.{IsInOrder}
use Rattle.czi_space.proofs.fitting.push_runs.Given as goal

-- the runs so far, and those of the other extents, are the whole
abbrev pub invariant-loop-extent : goal.invariant-loop-extent
invariant-loop-extent l = record {
  whole : map span_of l.out.items ++ without (map span_of l.rest) (map span_of (drop l.extent-index l.extents)) ≡ map span_of l.fn.out.items ++ without (map span_of l.held) (map span_of l.extents);
  order : IsInOrder (map span_of l.rest);
}
