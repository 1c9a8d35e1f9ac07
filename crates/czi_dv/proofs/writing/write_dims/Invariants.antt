use Rattle.czi_doc.specs.View.{dim_of}
use Rattle.czi_dv.proofs.Written.{Written}
use Rattle.czi_dv.proofs.writing.write_dims.Given as goal

-- the records so far stand behind the first 32 bytes, and the rest is as it was
abbrev pub invariant-loop-i : goal.invariant-loop-i
invariant-loop-i l = Written dim_of l.list l.initial.out l.out l.i
