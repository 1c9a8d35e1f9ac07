use Rattle.std.proofs.Common.{List, ℕ, refl, subst}
use Rattle.std.proofs.lemmas.Result.{IfOk-weaker}
use Rattle.czi_image.specs.Holds.{Indexes}
use Rattle.czi_engine.proofs.engine.Engine.of_empty.Goals as goal

pub returns-clause-of : goal.returns-clause-of
returns-clause-of c =
    let indexes = subst (λ (bytes : List ℕ). Indexes bytes c.in_ok-index.index) c.empty_image.ensures c.in_ok-index.ensures in
    IfOk-weaker c.of.result _ _ (λ e h. (_, h, indexes, refl)) c.of.ensures.of
