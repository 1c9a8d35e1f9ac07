use Rattle.czi_report.proofs.Held.{counted}
use Rattle.czi_report.proofs.counts.push_counts.Goals as goal

pub returns-clause-ok : goal.returns-clause-ok
returns-clause-ok c = λ l lies. counted l c.args.index.now c.count_live.result _ _ _ _ _ lies (c.count_live.ensures l lies)
    c.in_ok-push_number.ensures.ok (rw c.len.ensures at c.in_ok-push_number-2.ensures.ok) c.in_ok-push_number-3.ensures.ok c.in_ok-end_with_number.ensures.ok
