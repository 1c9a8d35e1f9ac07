use Rattle.czi_journal.specs.Journals.{slot_of}
use Rattle.czi_opening.proofs.Standing.{stands_one}
use Rattle.czi_opening.proofs.Verdict.{indexed}
use Rattle.czi_opening.proofs.laws.indexed_opens.Goals as goal

pub returns-clause-one : goal.returns-clause-one
returns-clause-one c = λ image journal bytes others. stands_one (slot_of journal) image bytes others

pub returns-clause-opens : goal.returns-clause-opens
returns-clause-opens c = indexed
