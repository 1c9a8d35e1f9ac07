use Rattle.std.proofs.Common.{length, refl, ap}
use Rattle.std.proofs.lemmas.Bool.{lt-leb}
use Rattle.czi_machine.specs.Edit.{too_long}
use Rattle.czi_format.specs.FirstFault.{unless}
use Rattle.czi_engine.proofs.limits.check_piece.Goals as goal

pub returns-then-piece-limit-clause-past : goal.returns-then-piece-limit-clause-past
returns-then-piece-limit-clause-past c =
    let piece = c.args.piece.now in
    let limit = c.args.limit in
    (too_long (length piece) limit, refl, ap (λ b. unless b (too_long (length piece) limit)) (lt-leb (length piece) limit c.if-piece-limit.true))
