use Rattle.std.proofs.Common.{sym, subst}
use Rattle.czi_script.specs.Reader.{Reader, LeavesError}
use Rattle.czi_script.proofs.Shown.{leaves_kept}
use Rattle.czi_script.proofs.reader.ScriptReader.next.Goals as goal

pub returns-in-Err-clause-leaves : goal.returns-in-Err-clause-leaves
returns-in-Err-clause-leaves g c = λ none. subst (λ (r : Reader). LeavesError c.args.self.now r (g.S.Source.input c.args.input.now).left (g.S.Source.input c.read.new.input).left c.in-Err.error) (sym c.keep.ensures)
    (leaves_kept c.args.self.now c.read.new.self c.in-Err.error _ _ c.in-Err.error c.in-Err.ensures.leaves)
