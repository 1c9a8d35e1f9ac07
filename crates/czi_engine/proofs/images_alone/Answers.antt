use Rattle.czi_engine.proofs.Reading.{alone_shows, written_has, commit_leaves}
use Rattle.czi_engine.proofs.images_alone.Goals as goal

pub returns-clause-shows : goal.returns-clause-shows
returns-clause-shows c = alone_shows

pub returns-clause-written : goal.returns-clause-written
returns-clause-written c = written_has

pub returns-clause-commit : goal.returns-clause-commit
returns-clause-commit c = commit_leaves
