use Rattle.czi_format.proofs.Walks.{walk_exists, walks_unique}
use Rattle.czi_format.proofs.one_walk.Goals as goal

pub returns-clause-exists : goal.returns-clause-exists
returns-clause-exists c = walk_exists

pub returns-clause-unique : goal.returns-clause-unique
returns-clause-unique c = λ image v w. walks_unique image 0 v w
