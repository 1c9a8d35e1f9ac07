use Rattle.czi_undo.proofs.Undone.{undone_last, undone_put, undone_out}
use Rattle.czi_undo.proofs.laws.changes_undone.Goals as goal

pub returns-clause-last : goal.returns-clause-last
returns-clause-last g c = undone_last

pub returns-clause-put : goal.returns-clause-put
returns-clause-put g c = undone_put

pub returns-clause-out : goal.returns-clause-out
returns-clause-out g c = undone_out _
