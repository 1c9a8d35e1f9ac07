use Rattle.std.proofs.Common.{◌≡◌, ℕ, ◌+◌, ◌<◌, map, take, arith, inl, inr}
use Rattle.std.proofs.lemmas.Bool.{cases_lt}
use Rattle.czi_machine.specs.Cover.{between, cover}
use Rattle.czi_num.specs.Span.{span_of}
use Rattle.czi_plan.proofs.Found.{cover_next}
use Rattle.czi_plan.proofs.Order.{at_place}
use Rattle.czi_plan.proofs.fits.held_to.Goals as goal
use Rattle.czi_plan.proofs.fits.held_to.Goals.{then-span-place, else-span-place}

pub loop-span-preserved : goal.loop-span-preserved
loop-span-preserved c =
    let held = c.args.held.now in
    let i = c.loop-span.span-index in
    let s = c.span-item.result in
    let next : (q : ℕ) → cover (map span_of (take (i + 1) held)) q ≡ cover (map span_of (take i held)) q + between s.at (s.at + s.len) q = λ q. cover_next span_of held i s q c.loop-span-test.true c.span-item.is in
    let old = c.loop-span.invariant in
    elim c.if-span-place.branch [
      | then-span-place w ↦ record {
        low = omega (arith, old.low);
        covered = λ q low high. elim (cases_lt q c.loop-span.end) [
          | inl k ↦ omega (arith, next q, old.covered q low k)
          | inr k ↦ omega (arith, next q, at_place s.at (s.at + s.len) q, low, high, k)
        ];
        further = λ some. elim (cases_lt c.args.place (s.at + s.len)) [
          | inl k ↦ omega (arith, k)
          | inr k ↦ let before : c.args.place < c.loop-span.end = old.further (omega (arith, some, next c.args.place, at_place s.at (s.at + s.len) c.args.place, k)) in omega (arith, before)
        ];
      }
      | else-span-place w ↦ record {
        low = omega (arith, old.low);
        covered = λ q low high. omega (arith, next q, old.covered q low (omega (arith, high)));
        further = λ some. let before : c.args.place < c.loop-span.end = old.further (omega (arith, some, next c.args.place, at_place s.at (s.at + s.len) c.args.place)) in omega (arith, before);
      }
    ]
