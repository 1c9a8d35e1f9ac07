use Rattle.czi_rig.proofs.Files.{everywhere_weaker}
use Rattle.czi_rig.proofs.Runs.{weaker}
use Rattle.czi_opening.proofs.Restoring.{counts_armed, void_unarmed}
use Rattle.czi_opening.proofs.Standing.{closing_stands}
use Rattle.czi_opening.proofs.closing.close.Goals as goal

pub returns-else-journal-clause-closed : goal.returns-else-journal-clause-closed
returns-else-journal-clause-closed g c = λ disk is. everywhere_weaker disk (λ journal. void_unarmed c.args.journal.armed c.args.journal.selected journal c.if-journal.false) (c.requires.stands disk is)

pub seal-requires : goal.seal-requires
seal-requires g c = record { counts = λ disk is. everywhere_weaker disk (λ journal. counts_armed c.args.journal.armed c.args.journal.selected journal c.if-journal.true) (c.requires.stands disk is) }

pub returns-then-journal-clause-moments : goal.returns-then-journal-clause-moments
returns-then-journal-clause-moments g c = λ all is rest own. weaker g.R.Rig (closing_stands all rest own) (c.seal.ensures.moments all is)
