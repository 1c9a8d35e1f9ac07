use Rattle.std.proofs.Common.{subst, sym, List, length}
use Rattle.czi_num.specs.declared.span.Span.{Span as CodeSpan}
use Rattle.czi_rig.specs.MemRig.{state_in}
use Rattle.czi_seg.specs.declared.header.SegHeader.{SegHeader}
use Rattle.czi_walk.specs.View.{Knows}
use Rattle.czi_walk.proofs.Walked.{knows_walk}
use Rattle.czi_test_image.proofs.walks.walk_twice.Goals as goal

pub walk_known-requires-clause-in_image : goal.walk_known-requires-clause-in_image
walk_known-requires-clause-in_image g c = λ image is.
    subst (λ (l : List (CodeSpan × SegHeader)). Knows (length c.content.result.now) image l) (sym c.deref.ensures.value)
    (knows_walk (state_in c.in_ok-rig.rig) (state_in c.walk.new.rig) c.content.result.now image c.in-Ok.first.items c.walk.ensures.untouched.same c.content.ensures is c.in-Ok.ensures.walk)
