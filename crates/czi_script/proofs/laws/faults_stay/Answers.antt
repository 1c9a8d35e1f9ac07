use Rattle.czi_script.proofs.Reading.{reads_stays}
use Rattle.czi_script.proofs.laws.faults_stay.Goals as goal

pub returns : goal.returns
returns c = λ first front more cs n kind other r. reads_stays first front more cs n kind other r
