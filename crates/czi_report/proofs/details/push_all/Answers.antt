use Rattle.czi_report.proofs.Held.{detailed}
use Rattle.czi_report.proofs.details.push_all.Goals as goal

pub returns-clause-ok : goal.returns-clause-ok
returns-clause-ok c = λ live holds. detailed live c.args.index.now _ _ _ _ _ _ holds (c.in_ok-push_front.ensures.ok live holds) (rw c.deref.ensures.value at c.in_ok-push_tiles.ensures.ok)
    c.in_ok-push_directory.ensures.ok (rw c.deref-2.ensures.value at c.in_ok-push_attachments.ensures.ok) c.in_ok-push_metadata.ensures.ok
