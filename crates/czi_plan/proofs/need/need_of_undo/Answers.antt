use Rattle.czi_plan.proofs.Needing.{spares_less, undos_need_no_more}
use Rattle.czi_plan.proofs.need.need_of_undo.Goals as goal

pub returns-clause-most : goal.returns-clause-most
returns-clause-most c = undos_need_no_more

pub returns-clause-spared : goal.returns-clause-spared
returns-clause-spared c = spares_less
