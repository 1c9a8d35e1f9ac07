use Rattle.czi_format.proofs.Empties.{is_empty, empty_shows, empty_has_layout, empty_steady}
use Rattle.czi_format.proofs.empty_is_shown.Goals as goal

pub returns-clause-long : goal.returns-clause-long
returns-clause-long c = λ guid is. (is_empty guid is).long

pub returns-clause-guid : goal.returns-clause-guid
returns-clause-guid c = λ guid is. (is_empty guid is).stored

pub returns-clause-shows : goal.returns-clause-shows
returns-clause-shows c = λ guid is. (empty_shows guid is, (is_empty guid is).idle)

pub returns-clause-layout : goal.returns-clause-layout
returns-clause-layout c = empty_has_layout

pub returns-clause-steady : goal.returns-clause-steady
returns-clause-steady c = empty_steady
