use Rattle.std.proofs.Common.{ℕ, ◌+◌, ◌%◌, ◌^◌, List, ap, ◌∙◌}
use Rattle.std.proofs.lemmas.List.{take_all}
use Rattle.czi_doc.specs.View.{records}
use Rattle.czi_doc.specs.declared.dimensions.Dim.{Dim}
use Rattle.czi_doc.proofs.Numbered.{number_of_all, sum_next, sum_of}
use Rattle.czi_doc.proofs.dimensions.Dims.key_number.Goals as goal

pub loop-dim-preserved : goal.loop-dim-preserved
loop-dim-preserved c = ap (λ (n : ℕ). (c.loop-dim.number + n) % 2 ^ 32) c.axis_number-number.ensures ∙ sum_next c.list-list.result.now c.loop-dim.dim-index c.loop-dim.number _ c.loop-dim-test.true c.loop-dim.invariant

pub returns : goal.returns
returns c =
    c.loop-dim.invariant ∙ (ap (λ (l : List Dim). sum_of l % 2 ^ 32) (take_all c.loop-dim.dim-index c.list-list.result.now c.loop-dim-test.false ∙ c.list-list.ensures.list) ∙ number_of_all (records c.args.self.now))
