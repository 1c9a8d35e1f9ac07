use Rattle.std.proofs.Common.{◌-◌}
use Rattle.czi_walk.proofs.Walked.{Walked}
use Rattle.czi_walk.proofs.walking.walk_known.Given as goal

abbrev pub invariant-walk : goal.invariant-walk
invariant-walk g l = Walked g.R.Rig l.initial.rig l.rig l.length l.place l.found.items

abbrev pub decreases-walk : goal.decreases-walk
decreases-walk g l = l.length - l.place
