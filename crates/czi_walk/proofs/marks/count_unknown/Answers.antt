use Rattle.std.proofs.Common.{◌∙◌}
use Rattle.czi_walk.proofs.Marked.{unknown_is}
use Rattle.czi_walk.proofs.marks.count_unknown.Goals as goal

pub returns : goal.returns
returns c = λ segments are. c.count_items.ensures ∙ unknown_is c.args.live.now segments c.args.walk.now are
