use Rattle.std.proofs.Common.{◌+◌, arith}
use Rattle.std.proofs.lemmas.Grind.{common_steps}
use Rattle.czi_script.proofs.Bytes.{seen_len, first_in_front, no_line, started}
use Rattle.czi_script.proofs.lines.front_of.Goals as goal

pub returns-then-len-front : goal.returns-then-len-front
returns-then-len-front c =
    let seen = c.args.seen in
    let len = seen_len 10 seen c.min.result c.len_before.result c.args.bytes.now c.len_before.ensures.len (omega (arith, c.min.ensures, c.requires.inside, c.requires.few)) c.requires.inside c.requires.free in
    let f = first_in_front 10 c.min.result c.args.bytes.now (seen + c.len_before.result) len (search arith) in
    (grind (arith, common_steps), grind (arith, common_steps), f.free, f.whole)

pub returns-then-len-eq-LINE : goal.returns-then-len-eq-LINE
returns-then-len-eq-LINE c =
    let seen = c.args.seen in
    let len = seen_len 10 seen c.min.result c.len_before.result c.args.bytes.now c.len_before.ensures.len (omega (arith, c.min.ensures, c.requires.inside, c.requires.few)) c.requires.inside c.requires.free in
    let f = no_line 10 4096 c.min.result _ c.args.bytes.now c.min.ensures len (grind (arith, common_steps)) c.if-len-front.false c.if-len-eq-LINE.true in
    (f.far, f.free)

pub returns-else-len-eq-LINE : goal.returns-else-len-eq-LINE
returns-else-len-eq-LINE c =
    let seen = c.args.seen in
    let len = seen_len 10 seen c.min.result c.len_before.result c.args.bytes.now c.len_before.ensures.len (omega (arith, c.min.ensures, c.requires.inside, c.requires.few)) c.requires.inside c.requires.free in
    let f = started 10 4096 c.min.result _ c.args.bytes.now c.min.ensures len (grind (arith, common_steps)) c.if-len-front.false c.if-len-eq-LINE.false in
    (f.short, f.free)
