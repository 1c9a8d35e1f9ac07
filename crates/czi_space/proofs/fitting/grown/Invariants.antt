use Rattle.std.proofs.Common.{◌≡◌, [], map, drop}
use Rattle.czi_format.specs.Space.{use_all}
use Rattle.czi_num.specs.Span.{span_of}
use Rattle.czi_space.proofs.fitting.grown.Given as goal

-- the rest of them grows what was reached as all grow the length
abbrev pub invariant-loop-span : goal.invariant-loop-span
invariant-loop-span l = (use_all (record { runs = []; length = l.end }) (map span_of (drop l.span-index l.used))).length ≡ (use_all (record { runs = []; length = l.length }) (map span_of l.used)).length
