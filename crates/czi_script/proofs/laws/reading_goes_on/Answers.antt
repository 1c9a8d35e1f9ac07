use Rattle.std.proofs.Common.{refl}
use Rattle.czi_script.proofs.Reading.{reads_next, reads_empty, reads_fault}
use Rattle.czi_script.proofs.laws.reading_goes_on.Goals as goal

pub returns-clause-next : goal.returns-clause-next
returns-clause-next c = λ first d spelled more cs end s r. let a = reads_next first d spelled more _ cs end refl s r in (a.rest, a.whole, a.reads)

pub returns-clause-end : goal.returns-clause-end
returns-clause-end c = λ first cs end r. reads_empty first cs end r

pub returns-clause-fault : goal.returns-clause-fault
returns-clause-fault c = λ first bytes kind cs end f r. reads_fault first bytes kind cs end f r
