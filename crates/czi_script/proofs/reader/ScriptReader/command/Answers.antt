use Rattle.std.proofs.Common.{refl}
use Rattle.std.proofs.lemmas.Result.{err_from_is_err_and}
use Rattle.czi_script.specs.Script.{Brings}
use Rattle.czi_script.specs.View.{payload_of}
use Rattle.czi_script.proofs.Payloads.{alone_finished, fed, feed_stopped}
use Rattle.czi_script.proofs.reader.ScriptReader.command.Goals as goal

pub returns-in-Alone-clause-ok : goal.returns-in-Alone-clause-ok
returns-in-Alone-clause-ok g c = rw c.in-Alone.is (alone_finished c.args.self.now _ c.in-Alone.plain c.command.result c.command.ensures)

pub returns-in_ok-feed-in-Brings-clause-ok : goal.returns-in_ok-feed-in-Brings-clause-ok
returns-in_ok-feed-in-Brings-clause-ok g c =
    rw c.in-Brings.is (fed c.args.self.now c.contents.new.self c.feed.new.self _ _ _ (payload_of c.in-Brings.payload) c.in_ok-command-in-Brings.command c.in_ok-command-in-Brings.ensures.ok c.in_ok-feed-in-Brings.ensures.ok)

pub returns-in_err-feed-in-Brings-clause-stops : goal.returns-in_err-feed-in-Brings-clause-stops
returns-in_err-feed-in-Brings-clause-stops g c =
    let p = err_from_is_err_and c.from_residual-in_err-feed-in-Brings.result c.from_residual-in_err-feed-in-Brings.ensures.1 in
    rw (p.1, p.2, c.in-Brings.is) (feed_stopped c.args.self.now c.contents.new.self c.feed.new.self _ _ _ (Brings (payload_of c.in-Brings.payload)) c.in_ok-command-in-Brings.command c.in_err-feed-in-Brings.field-0.0 refl c.in_ok-command-in-Brings.ensures.ok
    c.in_err-feed-in-Brings.ensures.stops)
