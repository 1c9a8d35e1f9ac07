use Rattle.std.proofs.Common.{◌≡◌, true, false, sym, ◌∙◌}
use Rattle.czi_plan.proofs.Axes.{keys_alike, first_differs, second_differs}
use Rattle.czi_plan.proofs.search.have_one_key.Goals as goal
use Rattle.czi_plan.proofs.search.have_one_key.Goals.{then-have_sizes, else-have_sizes}

pub returns-then-have_sizes-2 : goal.returns-then-have_sizes-2
returns-then-have_sizes-2 c = elim c.if-have_sizes.branch [
  | then-have_sizes w ↦ keys_alike c.args.own.now c.args.wanted.now c.have_sizes.result w.have_sizes-then-have_sizes.result c.have_axes.result c.have_sizes.ensures w.have_sizes-then-have_sizes.ensures
      c.have_axes.ensures.there c.have_axes.ensures.back w.if-have_sizes.true (sym w.value-is ∙ c.if-have_sizes-2.true)
  | else-have_sizes w ↦ absurd (let clash : true ≡ false = sym c.if-have_sizes-2.true ∙ (w.value-is ∙ w.if-have_sizes.false) in cc (clash))
]

pub returns-else-have_sizes-2 : goal.returns-else-have_sizes-2
returns-else-have_sizes-2 c = elim c.if-have_sizes.branch [
  | then-have_sizes w ↦ c.if-have_sizes-2.false ∙ second_differs c.args.own.now c.args.wanted.now w.have_sizes-then-have_sizes.result w.have_sizes-then-have_sizes.ensures (sym w.value-is ∙ c.if-have_sizes-2.false)
  | else-have_sizes w ↦ c.if-have_sizes-2.false ∙ first_differs c.args.own.now c.args.wanted.now c.have_sizes.result c.have_sizes.ensures w.if-have_sizes.false
]
