use Rattle.czi_format.proofs.Walks.{layout_exists, layout_unique}
use Rattle.czi_format.proofs.one_layout.Goals as goal

pub returns-clause-exists : goal.returns-clause-exists
returns-clause-exists c = layout_exists

pub returns-clause-unique : goal.returns-clause-unique
returns-clause-unique c = layout_unique
