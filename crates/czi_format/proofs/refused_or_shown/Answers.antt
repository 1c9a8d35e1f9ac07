use Rattle.czi_format.proofs.Rules.{refused_or_shown, never_both}
use Rattle.czi_format.proofs.refused_or_shown.Goals as goal

pub returns-clause-either : goal.returns-clause-either
returns-clause-either c = refused_or_shown

pub returns-clause-not_both : goal.returns-clause-not_both
returns-clause-not_both c = never_both
