use Rattle.std.proofs.Common.{◌≡◌, ◌<ℤ◌, ◌+ℤ◌, ◌^◌, pos, FitsSigned, w32, arith}
use Rattle.std.specs.Int.RustNames.{unsigned_abs}
use Rattle.std.proofs.lemmas.Int.{ints, to_z-of_z}
use Rattle.czi_tiles.proofs.Sided.{within}
use Rattle.czi_tiles.proofs.levels.cells_of.Goals as goal

pub returns-clause-within : goal.returns-clause-within
returns-clause-within c = λ p low high.
    let a : FitsSigned w32 c.args.start = c.ranges.start in
    let b : FitsSigned w32 c.args.size = c.ranges.size in
    let size : c.args.size ≡ pos (unsigned_abs c.args.size) = grind (arith, ints, to_z-of_z) in
    let begins : pos c.shifted-from.result ≡ c.args.start +ℤ pos (2 ^ 31) = simp to_z-of_z at c.shifted-from.ensures.value in
    let far : p <ℤ (c.args.start +ℤ pos (unsigned_abs c.args.size)) = omega (arith, ints, high, size) in
    simp to_z-of_z (within c.args.level c.side-side.result c.shifted-from.result (unsigned_abs c.args.size) c.args.start p c.side-side.ensures.value (omega (arith, c.side-side.ensures.least)) begins low far)
