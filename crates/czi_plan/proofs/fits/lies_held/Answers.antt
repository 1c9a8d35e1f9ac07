use Rattle.std.proofs.Common.{sym, subst}
use Rattle.czi_spans.specs.Apart.{AreApart}
use Rattle.czi_plan.proofs.Order.{extents_apart}
use Rattle.czi_plan.proofs.fits.lies_held.Goals as goal

pub lies_in_one-requires-clause-rising : goal.lies_in_one-requires-clause-rising
lies_in_one-requires-clause-rising c = subst (AreApart 0) (sym c.extents.ensures.extents) (extents_apart 0 _ _ c.extents.ensures.rising)
