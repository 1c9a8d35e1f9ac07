use Rattle.std.proofs.Common.{◌∙◌, ap}
use Rattle.czi_format.specs.Walk.{stands_at}
use Rattle.czi_walk.specs.View.{IsAt, named}
use Rattle.czi_walk.proofs.Known.{known_stands, known_at, same_some}
use Rattle.czi_walk.proofs.segment.stands_at.Goals as goal

pub returns-in-Some-clause-found : goal.returns-in-Some-clause-found
unfolding stands_at
returns-in-Some-clause-found g c = λ image is.
    c.named.ensures.value ∙ ap named (known_stands c.args.size c.args.at c.in-Some.i image c.args.known.now c.index-known-i.result c.index-known-i.result (c.requires.in_image image is) c.in-Some.ensures.position c.index-known-i.is)

pub returns-in-Some-clause-place : goal.returns-in-Some-clause-place
returns-in-Some-clause-place g c =
    same_some (IsAt c.args.at c.args.size) c.named.result _ (known_at c.args.size c.args.at c.in-Some.i c.args.known.now c.index-known-i.result c.index-known-i.result c.requires.row.extents c.requires.inside c.in-Some.ensures.position c.index-known-i.is) c.named.ensures.same
