use Rattle.czi_top.proofs.Asking.{one_command, some_command}
use Rattle.czi_top.proofs.laws.one_command.Goals as goal

pub returns-clause-exists : goal.returns-clause-exists
returns-clause-exists c = some_command

pub returns-clause-unique : goal.returns-clause-unique
returns-clause-unique c = one_command
