use Rattle.std.proofs.Common.{◌≡◌, ◌%◌, ◌^◌, take}
use Rattle.czi_doc.proofs.Numbered.{sum_of}
use Rattle.czi_doc.proofs.dimensions.Dims.key_number.Given as goal

abbrev pub invariant-loop-dim : goal.invariant-loop-dim
invariant-loop-dim l = l.number ≡ sum_of (take l.dim-index l.list) % 2 ^ 32
