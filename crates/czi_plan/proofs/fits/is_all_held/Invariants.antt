use Rattle.std.proofs.Common.{ℕ, ◌-◌, ◌<◌, ◌≤◌, map}
use Rattle.czi_machine.specs.Cover.{cover}
use Rattle.czi_num.specs.Span.{span_of}
use Rattle.czi_plan.proofs.fits.is_all_held.Given as goal

-- it is held up to the place
abbrev pub invariant-loop-place : goal.invariant-loop-place
invariant-loop-place l = (l.span.at ≤ l.place) × ((q : ℕ) → l.span.at ≤ q → q < l.place → 1 ≤ cover (map span_of l.held) q)

abbrev pub decreases-loop-place : goal.decreases-loop-place
decreases-loop-place l = l.end - l.place
