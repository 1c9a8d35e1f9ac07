use Rattle.std.proofs.Common.{◌≡◌, ◌-ℤ◌, ◌∙◌, FitsSigned, w32, subst, ◌<◌, ap, arith}
use Rattle.std.specs.Int.{div_ceil}
use Rattle.std.specs.Int.RustNames.{unsigned_abs}
use Rattle.std.proofs.lemmas.Int.{ints, to_z-of_z}
use Rattle.czi_tiles.proofs.Points.{before}
use Rattle.czi_tiles.proofs.window.enter.Goals as goal

pub returns-clause-before : goal.returns-clause-before
returns-clause-before c = λ i low.
    let a : FitsSigned w32 c.args.origin = c.ranges.origin in
    let b : FitsSigned w32 c.args.start = c.ranges.start in
    let gap : c.abs_diff-gap.result ≡ unsigned_abs (c.args.origin -ℤ c.args.start) = simp to_z-of_z at c.abs_diff-gap.ensures in
    let first : c.div_ceil-first.result ≡ div_ceil (unsigned_abs (c.args.origin -ℤ c.args.start)) c.args.layer = c.div_ceil-first.ensures ∙ ap (λ n. div_ceil n c.args.layer) gap in
    before c.args.origin c.args.start c.args.layer i c.requires (grind (arith, ints, to_z-of_z)) (subst (λ n. i < n) first low)
