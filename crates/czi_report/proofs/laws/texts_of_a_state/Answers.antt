use Rattle.czi_report.proofs.Described.{lists_state, details_state}
use Rattle.czi_report.proofs.laws.texts_of_a_state.Goals as goal

pub returns-clause-list : goal.returns-clause-list
returns-clause-list c = lists_state

pub returns-clause-info : goal.returns-clause-info
returns-clause-info c = details_state
