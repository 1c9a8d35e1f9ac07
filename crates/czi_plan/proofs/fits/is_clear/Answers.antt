use Rattle.std.proofs.Common.{sym, subst}
use Rattle.czi_spans.specs.Apart.{AreApart}
use Rattle.czi_plan.proofs.Order.{extents_apart}
use Rattle.czi_plan.proofs.fits.is_clear.Goals as goal

pub meets_any-requires : goal.meets_any-requires
meets_any-requires c = subst (AreApart 0) (sym c.extents.ensures.extents) (extents_apart 0 _ _ c.extents.ensures.rising)
