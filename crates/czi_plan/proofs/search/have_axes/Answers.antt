use Rattle.czi_plan.proofs.Axes.{axes_alike, axes_back}
use Rattle.czi_plan.proofs.search.have_axes.Goals as goal

pub returns-then-stand_alike-clause-there : goal.returns-then-stand_alike-clause-there
returns-then-stand_alike-clause-there c = λ t. axes_alike c.args.own.now c.args.wanted.now (c.stand_alike.ensures.there c.if-stand_alike.true) (c.stand_alike-then-stand_alike.ensures.there t)

pub returns-then-stand_alike-clause-back : goal.returns-then-stand_alike-clause-back
returns-then-stand_alike-clause-back c = λ e. c.stand_alike-then-stand_alike.ensures.back (axes_back c.args.own.now c.args.wanted.now e)

pub returns-else-stand_alike-clause-back : goal.returns-else-stand_alike-clause-back
returns-else-stand_alike-clause-back c = λ e. c.stand_alike.ensures.back (axes_back c.args.own.now c.args.wanted.now e)
