use Rattle.std.proofs.Common.{sym, subst, Some}
use Rattle.std.proofs.lemmas.Result.{err_from_is_err_and}
use Rattle.czi_script.specs.Reader.{Reader, TakesCounted, LeavesSome, ahead}
use Rattle.czi_script.specs.View.{head_of}
use Rattle.czi_script.proofs.Shown.{at_payload, finds_stopped, leaves_stopped, takes_stopped, finds_refused, leaves_refused, whole_command, takes_command, finds_payload, leaves_payload, takes_payload, counted, takes_counted}
use Rattle.czi_script.proofs.reader.ScriptReader.read.Goals as goal

pub returns-in_err-len-clause-finds : goal.returns-in_err-len-clause-finds
returns-in_err-len-clause-finds g c = λ bytes is.
    let p = err_from_is_err_and c.from_residual.result c.from_residual.ensures.1 in
    rw (p.1, p.2) (finds_stopped c.args.self.now c.line.new.self _ _ c.in_err-len.field-0.0 bytes c.line.ensures.sound c.in_err-len.ensures.stops is)

pub returns-in_err-len-clause-leaves : goal.returns-in_err-len-clause-leaves
returns-in_err-len-clause-leaves g c =
    let p = err_from_is_err_and c.from_residual.result c.from_residual.ensures.1 in
    rw (p.1, p.2) (leaves_stopped c.args.self.now c.line.new.self _ _ c.in_err-len.field-0.0 c.in_err-len.ensures.stops)

pub returns-in_err-len-clause-takes : goal.returns-in_err-len-clause-takes
returns-in_err-len-clause-takes g c =
    let p = err_from_is_err_and c.from_residual.result c.from_residual.ensures.1 in
    rw (p.1, p.2) (takes_stopped c.args.self.now c.line.new.self _ _ c.in_err-len.field-0.0 c.in_err-len.ensures.stops)

pub returns-in_err-head-clause-finds : goal.returns-in_err-head-clause-finds
returns-in_err-head-clause-finds g c = λ bytes is.
    let p = err_from_is_err_and c.from_residual-in_err-head.result c.from_residual-in_err-head.ensures.1 in
    let lines = rw c.in-Some.is at c.in_ok-len.ensures.lines in
    rw (p.1, p.2) (finds_refused c.args.self.now c.line.new.self c.head.new.self _ _ c.in-Some.len c.in_err-head.field-0.0 bytes c.line.ensures.sound lines c.in_err-head.ensures.err is)

pub returns-in_err-head-clause-leaves : goal.returns-in_err-head-clause-leaves
returns-in_err-head-clause-leaves g c =
    let p = err_from_is_err_and c.from_residual-in_err-head.result c.from_residual-in_err-head.ensures.1 in
    let lines = rw c.in-Some.is at c.in_ok-len.ensures.lines in
    rw (p.1, p.2) (leaves_refused c.args.self.now c.line.new.self c.head.new.self _ _ c.in-Some.len c.in_err-head.field-0.0 lines c.in_err-head.ensures.err)

pub returns-in_err-command-clause-finds : goal.returns-in_err-command-clause-finds
returns-in_err-command-clause-finds g c = λ bytes is.
    let p = err_from_is_err_and c.from_residual-in_err-command.result c.from_residual-in_err-command.ensures.1 in
    let lines = rw c.in-Some.is at c.in_ok-len.ensures.lines in
    let at = at_payload c.in_ok-head.head c.args.self.now c.line.new.self c.head.new.self _ _ c.in-Some.len c.line.ensures.sound c.head.ensures.sound lines c.in_ok-head.ensures.ok in
    rw (p.1, p.2) (finds_payload c.args.self.now c.head.new.self _ _ _ (head_of c.in_ok-head.head) at c.command.new.self _ c.in_err-command.field-0.0 c.command.ensures.sound c.in_err-command.ensures.stops bytes is)

pub returns-in_err-command-clause-leaves : goal.returns-in_err-command-clause-leaves
returns-in_err-command-clause-leaves g c =
    let p = err_from_is_err_and c.from_residual-in_err-command.result c.from_residual-in_err-command.ensures.1 in
    let lines = rw c.in-Some.is at c.in_ok-len.ensures.lines in
    let at = at_payload c.in_ok-head.head c.args.self.now c.line.new.self c.head.new.self _ _ c.in-Some.len c.line.ensures.sound c.head.ensures.sound lines c.in_ok-head.ensures.ok in
    rw (p.1, p.2) (leaves_payload c.args.self.now c.head.new.self _ _ _ (head_of c.in_ok-head.head) at c.command.new.self _ c.in_err-command.field-0.0 c.in_err-command.ensures.stops)

pub returns-in_err-command-clause-takes : goal.returns-in_err-command-clause-takes
returns-in_err-command-clause-takes g c =
    let p = err_from_is_err_and c.from_residual-in_err-command.result c.from_residual-in_err-command.ensures.1 in
    let lines = rw c.in-Some.is at c.in_ok-len.ensures.lines in
    let at = at_payload c.in_ok-head.head c.args.self.now c.line.new.self c.head.new.self _ _ c.in-Some.len c.line.ensures.sound c.head.ensures.sound lines c.in_ok-head.ensures.ok in
    rw (p.1, p.2) (takes_payload c.args.self.now c.head.new.self _ _ _ (head_of c.in_ok-head.head) at c.command.new.self _ c.in_err-command.field-0.0 c.command.ensures.sound c.in_err-command.ensures.stops)

pub returns-clause-finds : goal.returns-clause-finds
returns-clause-finds g c = λ bytes is.
    let lines = rw c.in-Some.is at c.in_ok-len.ensures.lines in
    let at = at_payload c.in_ok-head.head c.args.self.now c.line.new.self c.head.new.self _ _ c.in-Some.len c.line.ensures.sound c.head.ensures.sound lines c.in_ok-head.ensures.ok in
    let w = whole_command c.args.self.now c.head.new.self _ _ _ (head_of c.in_ok-head.head) at c.command.new.self _ c.in_ok-command.command c.command.ensures.sound c.in_ok-command.ensures.ok bytes is in
    (w.0, w.1, w.2, w.3, w.4)

pub returns-clause-leaves : goal.returns-clause-leaves
returns-clause-leaves g c = λ bytes is.
    let lines = rw c.in-Some.is at c.in_ok-len.ensures.lines in
    let at = at_payload c.in_ok-head.head c.args.self.now c.line.new.self c.head.new.self _ _ c.in-Some.len c.line.ensures.sound c.head.ensures.sound lines c.in_ok-head.ensures.ok in
    let w = whole_command c.args.self.now c.head.new.self _ _ _ (head_of c.in_ok-head.head) at c.command.new.self _ c.in_ok-command.command c.command.ensures.sound c.in_ok-command.ensures.ok bytes is in
    subst (λ (r : Reader). LeavesSome c.args.self.now (counted r) bytes (ahead (counted r) (g.S.Source.input c.command.new.input).left) (Some c.in_ok-command.command)) (sym c.self.view_is) (w.0, w.1, w.2, w.3, w.5, w.6)

pub returns-clause-takes : goal.returns-clause-takes
returns-clause-takes g c =
    let lines = rw c.in-Some.is at c.in_ok-len.ensures.lines in
    let at = at_payload c.in_ok-head.head c.args.self.now c.line.new.self c.head.new.self _ _ c.in-Some.len c.line.ensures.sound c.head.ensures.sound lines c.in_ok-head.ensures.ok in
    let t = takes_command c.args.self.now c.head.new.self _ _ _ (head_of c.in_ok-head.head) at c.command.new.self _ c.in_ok-command.command c.command.ensures.sound c.in_ok-command.ensures.ok in
    subst (λ (r : Reader). TakesCounted c.args.self.now (counted r) (g.S.Source.input c.args.input.now).left (g.S.Source.input c.command.new.input).left 0) (sym c.self.view_is) (takes_counted _ _ _ _ t)
