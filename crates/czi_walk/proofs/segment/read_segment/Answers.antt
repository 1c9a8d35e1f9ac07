use Rattle.std.proofs.Common.{◌+◌, ◌<◌, ◌≤◌, length, take, arith}
use Rattle.std.proofs.lemmas.List.{length-take-le}
use Rattle.czi_walk.proofs.Known.{nothing_there, window}
use Rattle.czi_walk.proofs.segment.read_segment.Goals as goal
use Rattle.czi_walk.proofs.segment.read_segment.Goals.{then-size-lt32-via-then-size-lt32, then-size-lt32-via-else-size-lt32+then-size-at}

pub returns-then-size-lt32-clause-found : goal.returns-then-size-lt32-clause-found
returns-then-size-lt32-clause-found g c = λ image is.
    let short : c.args.size < c.args.at + 32 = elim c.then-size-lt32.branch [
      | then-size-lt32-via-then-size-lt32 w ↦ omega arith
      | then-size-lt32-via-else-size-lt32+then-size-at w ↦ omega arith
    ] in
    nothing_there image c.args.size c.args.at short

pub returns-clause-found : goal.returns-clause-found
returns-clause-found g c = λ image is.
    let long : c.args.size ≤ length image = c.requires.in_image image is in
    let fits : c.args.at + 32 ≤ c.args.size = omega (arith, c.if-size-lt32.false, c.if-size-at.false) in
    c.segment_in.ensures.found (take c.args.size image) (length-take-le c.args.size image long) (window image c.read_at.new.into c.args.size c.args.at fits (c.in_ok-read_at.ensures.bytes image is))
