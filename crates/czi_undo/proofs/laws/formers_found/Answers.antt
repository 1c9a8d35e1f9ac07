use Rattle.czi_undo.proofs.Found.{formers_found, formers_kept}
use Rattle.czi_undo.proofs.laws.formers_found.Goals as goal

pub returns-clause-found : goal.returns-clause-found
returns-clause-found c = formers_found

pub returns-clause-kept : goal.returns-clause-kept
returns-clause-kept c = formers_kept
