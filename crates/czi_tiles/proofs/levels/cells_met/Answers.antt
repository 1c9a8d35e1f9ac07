use Rattle.std.proofs.Common.{◌≡◌, ◌+ℤ◌, ◌^◌, ◌+◌, ◌-◌, ◌*◌, ◌/◌, min, pos, FitsSigned, w32, arith}
use Rattle.std.proofs.lemmas.Int.{to_z-of_z}
use Rattle.czi_tiles.proofs.Sided.{met}
use Rattle.czi_tiles.proofs.levels.cells_met.Goals as goal

pub returns : goal.returns
returns c = λ i low inside.
    let a : FitsSigned w32 c.args.origin = c.ranges.origin in
    let begins : pos c.shifted-from.result ≡ c.args.origin +ℤ pos (2 ^ 31) = simp to_z-of_z at c.shifted-from.ensures.value in
    let m = met c.args.level c.side-side.result c.shifted-from.result c.args.layer c.args.n i c.args.origin c.side-side.ensures.value (omega (arith, c.side-side.ensures.least)) begins low in
    let last : c.min.result ≡ min ((c.shifted-from.result + (c.args.n - 1) * c.args.layer) / c.side-side.result) 2097151 = c.min.ensures in
    (m.0, omega (arith, last, m.1, inside))
