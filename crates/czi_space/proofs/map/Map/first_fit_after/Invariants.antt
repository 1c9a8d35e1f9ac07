use Rattle.std.proofs.Common.{◌≡◌, map, drop}
use Rattle.czi_num.specs.Span.{span_of}
use Rattle.czi_space.proofs.Found.{rest_of}
use Rattle.czi_space.proofs.map.Map.first_fit_after.Given as goal

-- the lowest run lies in the extents that weren't passed
abbrev pub invariant-loop-extent : goal.invariant-loop-extent
invariant-loop-extent l = rest_of span_of (map span_of l.self-inside.held.items) (map span_of l.taken) l.need (drop l.extent-index l.self-inside.extents.items)
    ≡ rest_of span_of (map span_of l.self-inside.held.items) (map span_of l.taken) l.need l.self-inside.extents.items
