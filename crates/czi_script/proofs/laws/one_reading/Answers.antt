use Rattle.std.proofs.Common.{length, arith}
use Rattle.czi_script.proofs.Reading.{reading, reads_one}
use Rattle.czi_script.proofs.laws.one_reading.Goals as goal

pub returns-clause-exists : goal.returns-clause-exists
returns-clause-exists c = λ first bytes. let r = reading (length bytes) first bytes (omega arith) in (r.commands, r.end, r.reads)

pub returns-clause-unique : goal.returns-clause-unique
returns-clause-unique c = λ first bytes cs ds end last p q. reads_one first bytes cs ds end last p q
