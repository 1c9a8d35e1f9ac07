use Rattle.std.proofs.lemmas.Result.{on_ok_weaker}
use Rattle.czi_journal.proofs.arming.create.Goals as goal

pub returns-clause-moments : goal.returns-clause-moments
returns-clause-moments g c = λ all is. c.arm.ensures.moments all is _ c.encode.ensures.read_again

pub returns-clause-created : goal.returns-clause-created
returns-clause-created g c = on_ok_weaker c.arm.result (λ h. h _ c.encode.ensures.read_again) c.arm.ensures.created
