use Rattle.std.proofs.Common.{◌+◌, ◌*◌, ◌/◌, ◌≤◌, length, arith}
use Rattle.std.proofs.Math.Nat.{mul-le-mul_right, div-mul-le_self}
use Rattle.czi_report.proofs.Turning.{turn_more}
use Rattle.czi_report.proofs.pnm.turn_round.Goals as goal

pub loop-i-preserved : goal.loop-i-preserved
loop-i-preserved g c =
    let more : (c.loop-i.i + 1) * g.row.SIZE ≤ length c.args.row.now / g.row.SIZE * g.row.SIZE = mul-le-mul_right g.row.SIZE (omega (arith, c.loop-i-test.true)) in
    let all : length c.args.row.now / g.row.SIZE * g.row.SIZE ≤ length c.args.row.now = div-mul-le_self (length c.args.row.now) g.row.SIZE in
    turn_more g.row.SIZE c.args.row.now c.loop-i.row c.reverse.new.self c.loop-i.i (omega (arith, more, all)) c.loop-i.invariant c.reverse.ensures.after
