use Rattle.std.proofs.Common.{◌≡◌, take, count_by}
use Rattle.std.specs.List.{AllByRecursion}
use Rattle.czi_plan.specs.Search.{has_axis}
use Rattle.czi_plan.proofs.search.stand_alike.Given as goal

abbrev pub invariant-loop-dim : goal.invariant-loop-dim
invariant-loop-dim l = AllByRecursion (λ d. count_by (has_axis d) l.own ≡ count_by (has_axis d) l.wanted) (take l.dim-index l.some)
