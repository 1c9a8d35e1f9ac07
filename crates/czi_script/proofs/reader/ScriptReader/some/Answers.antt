use Rattle.std.proofs.lemmas.Result.{err_from_is_err_and}
use Rattle.czi_script.proofs.Passing.{fill_stopped, none_held}
use Rattle.czi_script.proofs.reader.ScriptReader.some.Goals as goal

pub returns-in_err-fill-clause-stops : goal.returns-in_err-fill-clause-stops
returns-in_err-fill-clause-stops g c =
    let p = err_from_is_err_and c.from_residual.result c.from_residual.ensures.1 in
    rw (p.1, p.2) (fill_stopped c.args.self.now c.fill.new.self _ _ 0 c.in_err-fill.field-0.0 c.in_err-fill.ensures.stops
    (none_held (record { held = c.self.inside.window; taken = c.self.inside.taken; commands = c.self.inside.commands; error = c.self.inside.error }) c.args.self.now c.held.result.now c.self.view_is c.held.ensures c.if-not-is_empty.ensures))
