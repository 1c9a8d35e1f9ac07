use Rattle.czi_engine.proofs.Committed.{commit_stands, commit_opens}
use Rattle.czi_engine.proofs.one_commit.Goals as goal

pub returns-clause-stands : goal.returns-clause-stands
returns-clause-stands c = commit_stands

pub returns-clause-opens : goal.returns-clause-opens
returns-clause-opens c = commit_opens
