use Rattle.czi_undo.proofs.Steps.{edits_lie, undos_lie}
use Rattle.czi_undo.proofs.laws.steps_lie.Goals as goal

pub returns-clause-edits : goal.returns-clause-edits
returns-clause-edits c = edits_lie

pub returns-clause-undos : goal.returns-clause-undos
returns-clause-undos c = undos_lie
