use Rattle.czi_script.proofs.Found.{finds_some, finds_one}
use Rattle.czi_script.proofs.laws.one_answer.Goals as goal

pub returns-clause-exists : goal.returns-clause-exists
returns-clause-exists c = λ room bytes. finds_some room bytes

pub returns-clause-unique : goal.returns-clause-unique
returns-clause-unique c = λ room bytes a b p q. finds_one room bytes a b p q
