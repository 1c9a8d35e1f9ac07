use Rattle.std.proofs.Common.{sym, ◌∙◌}
use Rattle.std.proofs.lemmas.Result.{err_from_is_err_and}
use Rattle.czi_opening.proofs.Restoring.{still_synced, unread_tells}
use Rattle.czi_opening.proofs.opening.open_synced.Goals as goal

pub returns-in_err-index-clause-refused : goal.returns-in_err-index-clause-refused
returns-in_err-index-clause-refused g c =
    let s = g.R.Rig.state c.restore.new.rig in
    let t = g.R.Rig.state c.read_image.new.rig in
    let p = err_from_is_err_and c.from_residual-in_err-index.result c.from_residual-in_err-index.ensures.1 in
    rw (p.1, p.2) (λ x of_image y of_journal. unread_tells s t x y c.in_err-index.field-0.0 (c.in_ok-journal.ensures.restored x of_image y of_journal) c.read_image.ensures.untouched.same c.in_err-index.ensures.refused)

pub returns-clause-recovered : goal.returns-clause-recovered
returns-clause-recovered g c = λ x of_image y of_journal.
    let s = g.R.Rig.state c.restore.new.rig in
    let t = g.R.Rig.state c.read_image.new.rig in
    let r = c.in_ok-journal.ensures.restored x of_image y of_journal in
    record { bytes = r.bytes; recovered = r.recovered; synced = still_synced s t r.bytes y c.read_image.ensures.untouched.same r.synced }

pub returns-clause-stands : goal.returns-clause-stands
returns-clause-stands g c = λ disk is. c.in_ok-journal.ensures.stands disk (sym c.read_image.ensures.untouched.same.journal ∙ is)
