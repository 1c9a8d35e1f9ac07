use Rattle.czi_editor.proofs.Beginning.{each_begins, opens_or_refused}
use Rattle.czi_editor.proofs.laws.each_pair_begins_or_is_refused.Goals as goal

pub returns-clause-begins : goal.returns-clause-begins
returns-clause-begins c = each_begins

pub returns-clause-refused : goal.returns-clause-refused
returns-clause-refused c = opens_or_refused
