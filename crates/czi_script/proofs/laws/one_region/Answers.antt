use Rattle.czi_script.proofs.RegionWords.{said_once, some_said}
use Rattle.czi_script.proofs.laws.one_region.Goals as goal

pub returns-clause-exists : goal.returns-clause-exists
returns-clause-exists c = some_said

pub returns-clause-unique : goal.returns-clause-unique
returns-clause-unique c = said_once
