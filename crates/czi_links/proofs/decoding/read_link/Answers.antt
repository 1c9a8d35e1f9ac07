use Rattle.std.proofs.Common.{◌∙◌, arith}
use Rattle.std.proofs.lemmas.List.{length-drop}
use Rattle.czi_links.proofs.Taken.{place_at, size_at}
use Rattle.czi_links.proofs.decoding.read_link.Goals as goal
use Rattle.czi_links.proofs.decoding.read_link.Goals.{then-len-eq0-via-then-len-eq0, then-len-eq0-via-else-len-eq0+then-len-room}
use Rattle.czi_links.proofs.decoding.read_link.Goals.{then-place-from-via-then-place-from, then-place-from-via-else-place-from+then-place-limit, then-place-from-via-else-place-from+else-place-limit+then-from-limit}

pub returns-then-len-eq0 : goal.returns-then-len-eq0
returns-then-len-eq0 c = λ rules.
    let size_is = c.read_u32-size.ensures ∙ size_at c.args.slot.now c.args.at in
    let room = length-drop c.args.at c.args.slot.now in
    let fits = rules.fits in
    let some = rules.some in
    elim c.then-len-eq0.branch [ then-len-eq0-via-then-len-eq0 w ↦ omega (arith, some, size_is) | then-len-eq0-via-else-len-eq0+then-len-room w ↦ omega (arith, fits, room, size_is) ]

pub returns-then-place-from : goal.returns-then-place-from
returns-then-place-from c = λ rules.
    let place_is = c.read_u64-place.ensures ∙ place_at c.args.slot.now c.args.at in
    let size_is = c.read_u32-size.ensures ∙ size_at c.args.slot.now c.args.at in
    let begins = rules.begins in
    let ends = rules.ends in
    elim c.then-place-from.branch [ then-place-from-via-then-place-from w ↦ omega (arith, begins, place_is) | then-place-from-via-else-place-from+then-place-limit w ↦ omega (arith, ends, place_is) | then-place-from-via-else-place-from+else-place-limit+then-from-limit w ↦ omega (arith, ends, place_is, size_is, w.from.ensures) ]

pub returns : goal.returns
returns c =
    let place_is = c.read_u64-place.ensures ∙ place_at c.args.slot.now c.args.at in
    let size_is = c.read_u32-size.ensures ∙ size_at c.args.slot.now c.args.at in
    let room = length-drop c.args.at c.args.slot.now in (
      record {
        fits = omega (arith, room, size_is);
        some = omega (arith, size_is);
        begins = omega (arith, place_is);
        ends = omega (arith, place_is, size_is, c.from.ensures);
      },
      place_is,
      size_is,
    )
