use Rattle.czi_engine.proofs.Writable.{free_in_view, filled_in_view, place_in_view}
use Rattle.czi_engine.proofs.writes_are_free.Goals as goal

pub returns-clause-writes : goal.returns-clause-writes
returns-clause-writes c = free_in_view

pub returns-clause-filled : goal.returns-clause-filled
returns-clause-filled c = filled_in_view

pub returns-clause-place : goal.returns-clause-place
returns-clause-place c = place_in_view
