use Rattle.std.proofs.Common.{◌≡◌, List, map, sym, ◌∙◌, subst, arith}
use Rattle.czi_num.specs.Span.{span_of}
use Rattle.czi_num.specs.declared.span.Span.{Span as CodeSpan}
use Rattle.czi_space.specs.State.{AreExtents}
use Rattle.czi_plan.proofs.Parts.{free_extents}
use Rattle.czi_test_plan.proofs.plans.map_of.Goals as goal

pub of_runs-requires : goal.of_runs-requires
of_runs-requires c =
    let copied : c.in_ok-extents.extents.items ≡ c.args.index.now.extents.items = c.in_ok-extents.ensures.items_if_clones_equal (λ x y h. h) ∙ c.as_slice.ensures.value in
    subst (λ (l : List CodeSpan). AreExtents 0 c.args.index.now.length (map span_of l)) (sym copied)
    (free_extents 0 c.args.index.now.length (map span_of c.args.index.now.extents.items) (omega arith) c.args.index.now.free.apart c.args.index.now.free.aligned c.args.index.now.free.inside)
