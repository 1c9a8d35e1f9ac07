use Rattle.std.proofs.Common.{◌≡◌, ◌++◌, ◌∷◌, take}
use Rattle.std.specs.List.{flat_map}
use Rattle.czi_format.specs.Text.{dim_text}
use Rattle.czi_doc.specs.View.{dim_of}
use Rattle.czi_doc.proofs.writing.push_dims.Given as goal

-- the first was written, and those others that were passed
abbrev pub invariant-loop-dim : goal.invariant-loop-dim
invariant-loop-dim l = l.out.items ≡ l.fn.out.items ++ (dim_text (dim_of l.fn.first) ++ flat_map (λ d. 44 ∷ dim_text (dim_of d)) (take l.dim-index l.others))
