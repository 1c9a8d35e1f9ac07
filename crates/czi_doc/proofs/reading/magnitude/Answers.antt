use Rattle.std.proofs.Common.{◌≤◌, ◌+◌, ◌*◌, arith, rules}
use Rattle.czi_doc.proofs.Prefixes.{large_by, large_here}
use Rattle.czi_doc.proofs.reading.magnitude.Goals as goal

pub returns-in_err-checked_mul : goal.returns-in_err-checked_mul
returns-in_err-checked_mul c =
    let large : 18446744073709551616 ≤ c.loop-digit.value * 10 = omega (arith, c.in_err-checked_mul.ensures) in
    rw c.from_residual.ensures (large_by _ _ _ _ c.loop-digit-test.true large c.loop-digit.invariant.whole)

pub returns-in_err-value : goal.returns-in_err-value
returns-in_err-value c =
    let large : 18446744073709551616 ≤ c.in_ok-checked_mul.field-0 + c.from.result = omega (arith, c.in_err-value.ensures) in
    rw c.from_residual-in_err-value.ensures (large_here _ _ c.loop-digit.value _ _ c.from.result c.loop-digit-test.true c.loop-digit.invariant.digits (search rules) (omega (arith, c.in_ok-checked_mul.ensures)) large c.loop-digit.invariant.whole)
