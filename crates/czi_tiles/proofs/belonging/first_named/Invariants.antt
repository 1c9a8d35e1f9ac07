use Rattle.std.proofs.Common.{◌≡◌, map, drop}
use Rattle.czi_doc.specs.View.{dim_of}
use Rattle.czi_format.specs.Painting.{first_named}
use Rattle.czi_tiles.proofs.belonging.first_named.Given as goal

-- none that was passed is the one
abbrev pub invariant-loop-dim : goal.invariant-loop-dim
invariant-loop-dim l = first_named l.name (map dim_of l.dims) ≡ first_named l.name (map dim_of (drop l.dim-index l.dims))
