use Rattle.std.proofs.Common.{◌<◌, ◌≤◌, length, ◌∙◌, ap, sym, arith}
use Rattle.std.specs.Prelude.{option_map}
use Rattle.czi_rig.specs.declared.file.File.TheVariants.{Journal}
use Rattle.czi_rig.specs.Disk.{Disk}
use Rattle.czi_rig.proofs.Known.{known_file, known_seen, same_known}
use Rattle.czi_rig.proofs.Runs.{run_begins, run_is, run_waits, run_calls}
use Rattle.czi_journal.proofs.Voids.{void_unmarked, clear_torn}
use Rattle.czi_journal.proofs.arming.clear.Goals as goal

pub returns-then-branch-ge-LONG-clause-unmarked : goal.returns-then-branch-ge-LONG-clause-unmarked
returns-then-branch-ge-LONG-clause-unmarked g c = λ x is.
    let before = sym (ap (option_map (λ (d : Disk). d.seen)) c.len.ensures.same.journal) ∙ is in
    let long : 524352 ≤ length x = omega (arith, c.in_ok-len.ensures.length x before, c.if-branch-ge-LONG.true) in
    void_unmarked x long (c.requires.void x before)

pub returns-clause-moments : goal.returns-clause-moments
returns-clause-moments g c = λ all is.
    let s = g.R.Rig.state c.args.rig.now in
    let now = same_known s (g.R.Rig.state c.len.new.self) all is c.len.ensures.same in
    let short : length all.journal.seen < 524352 = omega (arith, c.in_ok-len.ensures.length all.journal.seen (known_seen s Journal all is), c.if-branch-ge-LONG.false) in
    let waited = run_waits g.R.Rig g.met.R.Rig.counts_now (run_begins g.R.Rig c.args.rig.now all _ is) c.len.ensures.time in
    run_calls g.R.Rig (run_is g.R.Rig now waited) (c.write_synced.ensures.moments all now) (clear_torn all (c.requires.synced all.journal (known_file s Journal all is)) short)
