use Rattle.std.proofs.Common.{arith}
use Rattle.czi_test_run.proofs.Counted.{all_said, one_more}
use Rattle.czi_test_run.proofs.counter.CounterEditor.perform.Goals as goal

pub returns-in-Ok-write_synced-clause-ok : goal.returns-in-Ok-write_synced-clause-ok
returns-in-Ok-write_synced-clause-ok g c = λ said s h. (all_said s _ _ _ c.clear.ensures.items c.in-Ok.ensures, one_more _ (g.R.Rig.state c.len.new.self) _ said s c.in-Ok-len.at h (omega arith) c.in-Ok-len.ensures.length c.len.ensures.same c.write_synced.ensures.other c.in-Ok-write_synced.ensures.ok)
