use Rattle.std.proofs.Common.{ℕ, ◌<◌, ◌≤◌, map, take}
use Rattle.czi_machine.specs.Cover.{cover}
use Rattle.czi_num.specs.Span.{span_of}
use Rattle.czi_plan.proofs.fits.held_to.Given as goal

-- it is so of the held spans that were passed
abbrev pub invariant-loop-span : goal.invariant-loop-span
invariant-loop-span l = record {
  low : l.place ≤ l.end;
  covered : (q : ℕ) → l.place ≤ q → q < l.end → 1 ≤ cover (map span_of (take l.span-index l.held)) q;
  further : 1 ≤ cover (map span_of (take l.span-index l.held)) l.place → l.place < l.end;
}
