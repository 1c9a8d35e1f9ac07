use Rattle.czi_script.proofs.Steps.{full_fills}
use Rattle.czi_script.proofs.reader.ScriptReader.fill.Goals as goal

pub returns-then-room-eq0-clause-fills : goal.returns-then-room-eq0-clause-fills
returns-then-room-eq0-clause-fills g c = full_fills c.args.self.now _ _ c.in_ok-ends.ensures.same c.in_ok-ends.ensures.end
