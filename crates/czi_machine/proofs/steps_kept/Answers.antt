use Rattle.czi_machine.proofs.StepLaws.{undo_is, edits_keep, undos_keep, edits_steady, undos_steady, groups_keep, groups_steady}
use Rattle.czi_machine.proofs.Lying.{lies_loosely}
use Rattle.czi_machine.proofs.GroupOrder.{groups_lead}
use Rattle.czi_machine.proofs.steps_kept.Goals as goal

pub returns-clause-steady_too : goal.returns-clause-steady_too
returns-clause-steady_too c = lies_loosely

pub returns-clause-undo_plan : goal.returns-clause-undo_plan
returns-clause-undo_plan c = undo_is

pub returns-clause-edits : goal.returns-clause-edits
returns-clause-edits c = edits_keep

pub returns-clause-undos : goal.returns-clause-undos
returns-clause-undos c = undos_keep

pub returns-clause-edits_steady : goal.returns-clause-edits_steady
returns-clause-edits_steady c = edits_steady

pub returns-clause-undos_steady : goal.returns-clause-undos_steady
returns-clause-undos_steady c = undos_steady

pub returns-clause-groups : goal.returns-clause-groups
returns-clause-groups c = groups_keep

pub returns-clause-groups_steady : goal.returns-clause-groups_steady
returns-clause-groups_steady c = groups_steady

pub returns-clause-groups_lead : goal.returns-clause-groups_lead
returns-clause-groups_lead c = groups_lead
