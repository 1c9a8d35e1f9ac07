use Rattle.czi_format.proofs.Written.{entry_again, entries_again, header_again}
use Rattle.czi_format.proofs.written_is_read.Goals as goal

pub returns-clause-entry : goal.returns-clause-entry
returns-clause-entry c = entry_again

pub returns-clause-entries : goal.returns-clause-entries
returns-clause-entries c = entries_again (λ at. at)

pub returns-clause-header : goal.returns-clause-header
returns-clause-header c = header_again
