use Rattle.std.proofs.Common.{◌≡◌, map, drop, bytes_eq}
use Rattle.std.specs.List.{find}
use Rattle.czi_doc.specs.View.{dim_of}
use Rattle.czi_plan.proofs.search.sizes_of.Given as goal

-- none that was passed is the one
abbrev pub invariant-loop-dim : goal.invariant-loop-dim
invariant-loop-dim l = find (λ d. bytes_eq d.name l.name) (map dim_of l.dims) ≡ find (λ d. bytes_eq d.name l.name) (map dim_of (drop l.dim-index l.dims))
