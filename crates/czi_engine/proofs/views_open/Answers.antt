use Rattle.czi_engine.proofs.Keeping.{document_opens, itself_rests, rests_stands, held_stays}
use Rattle.czi_engine.proofs.Openable.{recovered_opens, view_opens}
use Rattle.czi_engine.proofs.Outside.{stands_outside, holes_high}
use Rattle.czi_engine.proofs.views_open.Goals as goal

pub returns-clause-high : goal.returns-clause-high
returns-clause-high c = holes_high

pub returns-clause-outside : goal.returns-clause-outside
returns-clause-outside c = stands_outside

pub returns-clause-recovered : goal.returns-clause-recovered
returns-clause-recovered c = recovered_opens

pub returns-clause-opens : goal.returns-clause-opens
returns-clause-opens c = view_opens

pub returns-clause-document : goal.returns-clause-document
returns-clause-document c = document_opens

pub returns-clause-rests : goal.returns-clause-rests
returns-clause-rests c = rests_stands

pub returns-clause-held : goal.returns-clause-held
returns-clause-held c = held_stays

pub returns-clause-itself : goal.returns-clause-itself
returns-clause-itself c = itself_rests
