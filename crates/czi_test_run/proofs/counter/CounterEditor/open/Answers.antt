use Rattle.std.proofs.Common.{inr}
use Rattle.czi_rig.specs.declared.file.File.TheVariants.{Image, Journal}
use Rattle.czi_rig.proofs.Runs.{run_begins, run_synced}
use Rattle.czi_test_run.proofs.Counted.{No, opened, opened_alike, stood}
use Rattle.czi_test_run.proofs.counter.CounterEditor.open.Goals as goal

pub returns-in-Ok-sync-clause-opens : goal.returns-in-Ok-sync-clause-opens
returns-in-Ok-sync-clause-opens g c = λ said s h.
    let a = c.sync.ensures in
    let b = c.sync-in-Ok.ensures in
    let first = run_synced g.R.Rig Image g.met.R.Rig.counts_now (run_begins g.R.Rig c.args.rig.now h.now No h.known) a.time a.other a.same c.in-Ok.ensures.synced in
    let both = run_synced g.R.Rig Journal g.met.R.Rig.counts_now first b.time b.other b.same c.in-Ok-sync.ensures.synced in
    (opened g.R.Rig g.met.R.Rig.only_now c.args.rig.now _ said s h both, stood g.R.Rig g.met.R.Rig.only_now c.args.rig.now _ said s h both)

pub returns-in-Ok-sync-clause-alike : goal.returns-in-Ok-sync-clause-alike
returns-in-Ok-sync-clause-alike g c = λ said s h.
    let a = c.sync.ensures in
    let b = c.sync-in-Ok.ensures in
    let first = run_synced g.R.Rig Image g.met.R.Rig.counts_now (run_begins g.R.Rig c.args.rig.now h.now No h.known) a.time a.other a.same c.in-Ok.ensures.synced in
    let both = run_synced g.R.Rig Journal g.met.R.Rig.counts_now first b.time b.other b.same c.in-Ok-sync.ensures.synced in
    inr (opened_alike g.R.Rig g.met.R.Rig.only_now c.args.rig.now _ said s h both)
