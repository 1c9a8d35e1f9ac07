use Rattle.std.proofs.Common.{◌≡◌, sym, ◌∙◌, count_by}
use Rattle.czi_doc.specs.declared.dimensions.Dim.{Dim}
use Rattle.czi_plan.specs.Search.{has_axis}
use Rattle.czi_plan.proofs.Entries.{all_more}
use Rattle.czi_plan.proofs.search.stand_alike.Goals as goal

pub loop-dim-preserved : goal.loop-dim-preserved
loop-dim-preserved c =
    all_more (λ (d : Dim). count_by (has_axis d) c.args.own.now ≡ count_by (has_axis d) c.args.wanted.now) c.args.some.now c.loop-dim.dim-index _ c.loop-dim-test.true c.loop-dim.invariant
    (sym c.times-here.ensures.count ∙ (c.if-here-there.false ∙ c.times-there.ensures.count))
