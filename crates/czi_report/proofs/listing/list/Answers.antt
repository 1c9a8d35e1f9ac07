use Rattle.czi_report.proofs.Held.{listed}
use Rattle.czi_report.proofs.listing.list.Goals as goal

pub returns-else-is_err-clause-ok : goal.returns-else-is_err-clause-ok
returns-else-is_err-clause-ok c = listed _ c.args.index.now _ _ (rw c.deref.ensures.value at c.push_tiles-listed.ensures.ok)
