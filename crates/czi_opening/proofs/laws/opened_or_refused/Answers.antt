use Rattle.czi_opening.proofs.Verdict.{verdict, not_both, one_cause}
use Rattle.czi_opening.proofs.laws.opened_or_refused.Goals as goal

pub returns-clause-either : goal.returns-clause-either
returns-clause-either c = verdict

pub returns-clause-not_both : goal.returns-clause-not_both
returns-clause-not_both c = not_both

pub returns-clause-one_cause : goal.returns-clause-one_cause
returns-clause-one_cause c = one_cause
