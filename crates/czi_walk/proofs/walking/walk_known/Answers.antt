use Rattle.std.proofs.Common.{◌∙◌, List, sym, subst, ap, option_map}
use Rattle.czi_num.specs.declared.span.Span.{Span as CodeSpan}
use Rattle.czi_seg.specs.declared.header.SegHeader.{SegHeader}
use Rattle.czi_walk.specs.View.{segment_of}
use Rattle.czi_walk.proofs.Walked.{Walked, walked_begins, walked_ends, walked_row}
use Rattle.czi_walk.proofs.walking.walk_known.Goals as goal

pub walk-init : goal.walk-init
walk-init g c = subst (λ (l : List (CodeSpan × SegHeader)). Walked g.R.Rig c.args.rig.now c.args.rig.now c.args.length 0 l) (sym c.new-found.ensures.items) (walked_begins g.R.Rig c.args.rig.now c.args.length)

pub returns-clause-row : goal.returns-clause-row
returns-clause-row g c = walked_row g.R.Rig c.walk.invariant

pub returns-clause-walk : goal.returns-clause-walk
returns-clause-walk g c = walked_ends g.R.Rig c.walk.invariant (λ image is. sym (ap (option_map segment_of) c.in_default.is) ∙ c.in_ok-item.ensures.found image is)
