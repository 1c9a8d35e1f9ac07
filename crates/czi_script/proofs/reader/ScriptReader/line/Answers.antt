use Rattle.std.proofs.Common.{ap, ◌∙◌}
use Rattle.czi_script.proofs.Steps.{long_fault}
use Rattle.czi_script.proofs.reader.ScriptReader.line.Goals as goal

pub returns-in-Long-clause-stops : goal.returns-in-Long-clause-stops
returns-in-Long-clause-stops g c =
    rw c.fault.ensures (long_fault _ _ c.held.result.now _ _ c.loop-len.invariant.took.0 c.loop-len.invariant.took.1 (c.held.ensures ∙ ap (λ r. r.held) c.self.view_is) c.in-Long.ensures)
