use Rattle.std.proofs.Common.{◌++◌, [], ◌∷◌, ap, sym, ◌∙◌}
use Rattle.czi_paint.proofs.Sweeping.{range_more}
use Rattle.czi_paint.proofs.active.places.Goals as goal

pub loop-at-preserved : goal.loop-at-preserved
loop-at-preserved c = c.in_ok-push.ensures.items ∙ (ap (λ l. l ++ c.loop-at.at ∷ []) c.loop-at.invariant ∙ sym (range_more c.loop-at.at))
