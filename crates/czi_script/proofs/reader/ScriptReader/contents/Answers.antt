use Rattle.std.proofs.Common.{◌≡◌, ◌+◌, None, length, arith}
use Rattle.std.proofs.lemmas.Result.{err_from_is_err_and}
use Rattle.czi_doc.specs.View.{bytes_of}
use Rattle.czi_script.specs.Script.{Brings, payload_len}
use Rattle.czi_script.specs.View.{payload_of}
use Rattle.czi_script.proofs.Passing.{interrupted_then}
use Rattle.czi_script.proofs.Payloads.{in_turn, len_is, past_is}
use Rattle.czi_script.proofs.reader.ScriptReader.contents.Goals as goal

pub returns-in_err-second-clause-stops : goal.returns-in_err-second-clause-stops
returns-in_err-second-clause-stops g c =
    let p = err_from_is_err_and c.from_residual-in_err-second.result c.from_residual-in_err-second.ensures.1 in
    let sizes = c.pieces-pieces.result in
    let all = len_is (payload_of c.args.payload) sizes c.pieces-pieces.ensures in
    let one = c.in_ok-first.ensures.ok in
    let first : length (bytes_of c.in_ok-first.first) ≡ sizes.first.len = one.1 in
    rw (p.1, p.2) (interrupted_then c.args.self.now c.piece.new.self c.piece-2.new.self _ _ _ (bytes_of c.in_ok-first.first) sizes.second.len (payload_len (Brings (payload_of c.args.payload))) c.in_err-second.field-0.0
    one.0 c.in_err-second.ensures.stops (omega (arith, first, all)))

pub returns-in_err-third-clause-stops : goal.returns-in_err-third-clause-stops
returns-in_err-third-clause-stops g c =
    let p = err_from_is_err_and c.from_residual-in_err-third.result c.from_residual-in_err-third.ensures.1 in
    let sizes = c.pieces-pieces.result in
    let all = len_is (payload_of c.args.payload) sizes c.pieces-pieces.ensures in
    let one = c.in_ok-first.ensures.ok in
    let two = c.in_ok-second.ensures.ok in
    let first : length (bytes_of c.in_ok-first.first) ≡ sizes.first.len = one.1 in
    let second : length (bytes_of c.in_ok-second.second) ≡ sizes.second.len = two.1 in
    rw (p.1, p.2) (interrupted_then c.args.self.now c.piece.new.self c.piece-3.new.self _ _ _ (bytes_of c.in_ok-first.first) (sizes.second.len + sizes.third.len) (payload_len (Brings (payload_of c.args.payload))) c.in_err-third.field-0.0
    one.0 (interrupted_then c.piece.new.self c.piece-2.new.self c.piece-3.new.self _ _ _ (bytes_of c.in_ok-second.second) sizes.third.len (sizes.second.len + sizes.third.len) c.in_err-third.field-0.0
    two.0 c.in_err-third.ensures.stops (omega (arith, second))) (omega (arith, first, all)))

pub returns-clause-ok : goal.returns-clause-ok
returns-clause-ok g c =
    let sizes = c.pieces-pieces.result in
    let all = len_is (payload_of c.args.payload) sizes c.pieces-pieces.ensures in
    let one = c.in_ok-first.ensures.ok in
    let two = c.in_ok-second.ensures.ok in
    let three = c.in_ok-third.ensures.ok in
    let first : length (bytes_of c.in_ok-first.first) ≡ sizes.first.len = one.1 in
    let second : length (bytes_of c.in_ok-second.second) ≡ sizes.second.len = two.1 in
    let third : length (bytes_of c.in_ok-third.third) ≡ sizes.third.len = three.1 in
    in_turn (Brings (payload_of c.args.payload)) c.args.self.now c.piece.new.self c.piece-2.new.self c.piece-3.new.self _ _ _ _ (bytes_of c.in_ok-first.first) (bytes_of c.in_ok-second.second) (bytes_of c.in_ok-third.third) c.command.result
    one.0 two.0 three.0 (omega (arith, first, second, third, all)) (past_is (payload_of c.args.payload) sizes c.pieces-pieces.ensures None c.in_default.ensures) c.command.ensures
