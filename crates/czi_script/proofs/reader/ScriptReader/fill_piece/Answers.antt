use Rattle.std.proofs.Common.{arith}
use Rattle.std.proofs.lemmas.Result.{err_from_is_err_and}
use Rattle.czi_script.proofs.Passing.{ends_here}
use Rattle.czi_script.proofs.reader.ScriptReader.fill_piece.Goals as goal

pub returns-in_err-ends-clause-stops : goal.returns-in_err-ends-clause-stops
returns-in_err-ends-clause-stops g c =
    let p = err_from_is_err_and c.from_residual.result c.from_residual.ensures.1 in
    rw (p.1, p.2) (ends_here c.args.self.now _ _ 0 c.in_err-ends.field-0.0 c.in_err-ends.ensures.stops c.requires.none (search arith))
