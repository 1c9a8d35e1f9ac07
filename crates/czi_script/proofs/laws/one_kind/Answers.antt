use Rattle.czi_script.proofs.Faults.{stuck_kind, one_kind, fault_some_bytes, fault_stuck}
use Rattle.czi_script.proofs.laws.one_kind.Goals as goal

pub returns-clause-exists : goal.returns-clause-exists
returns-clause-exists c = λ bytes some stuck. stuck_kind bytes some stuck

pub returns-clause-unique : goal.returns-clause-unique
returns-clause-unique c = λ bytes k l p q. one_kind k l bytes p q

pub returns-clause-begins_none : goal.returns-clause-begins_none
returns-clause-begins_none c = λ bytes kind f. (fault_some_bytes kind bytes f, fault_stuck kind bytes f)
