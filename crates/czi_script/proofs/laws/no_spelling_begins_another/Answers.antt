use Rattle.czi_script.proofs.Faults.{spelled_once}
use Rattle.czi_script.proofs.laws.no_spelling_begins_another.Goals as goal

pub returns : goal.returns
returns c = λ d e a b x y p q is. let s = spelled_once d e a b x y p q is in (s.command, s.spelled, s.more)
