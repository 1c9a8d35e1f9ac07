use Rattle.czi_script.proofs.Faults.{shown_fault}
use Rattle.czi_script.proofs.Reading.{fault_shows}
use Rattle.czi_script.proofs.laws.faults_show.Goals as goal

pub returns-clause-there : goal.returns-clause-there
returns-clause-there c = λ room bytes kind shows. shown_fault room kind bytes shows

pub returns-clause-whole : goal.returns-clause-whole
returns-clause-whole c = λ most front bytes cs kind spelled le shows. fault_shows most front bytes cs kind spelled le shows
