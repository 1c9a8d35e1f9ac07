use Rattle.std.proofs.Common.{◌≡◌, true, false, arith}
use Rattle.czi_plan.proofs.fits.is_all_held.Goals as goal

pub returns-then-next-place : goal.returns-then-next-place
returns-then-next-place c = (
  (λ t. absurd (let clash : false ≡ true = t in cc (clash))),
  λ all. absurd (omega (arith, c.if-next-place.true, c.held_to-next.ensures.further (all c.loop-place.place c.loop-place.invariant.0 (omega (arith, c.loop-place-test.true))))),
)
