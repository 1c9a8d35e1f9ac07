use Rattle.czi_rig.specs.declared.file.File.TheVariants.{Image, Journal}
use Rattle.czi_rig.specs.State.{known}
use Rattle.czi_rig.proofs.Files.{everywhere_weaker}
use Rattle.czi_rig.proofs.Known.{known_file}
use Rattle.czi_rig.proofs.Runs.{weaker}
use Rattle.czi_links.specs.Reading.{Void}
use Rattle.std.proofs.Common.{◌≡◌}
use Rattle.czi_journal.specs.Journals.{slot_of}
use Rattle.czi_commit.proofs.Arming.{armed_counts, seen_has, unarmed_void, while_armed}
use Rattle.czi_commit.proofs.steps.arm.Goals as goal

pub returns-then-journal-clause-counts : goal.returns-then-journal-clause-counts
returns-then-journal-clause-counts g c = λ disk is.
    everywhere_weaker disk (λ j stands. armed_counts c.args.journal.now.armed c.args.journal.now.selected j c.if-journal.true stands) (c.requires.journal disk is)

pub create-requires-clause-void : goal.create-requires-clause-void
create-requires-clause-void g c = seen_has (λ seen. slot_of seen ≡ Void) (known (g.R.Rig.state c.args.rig.now) Journal)
    (λ disk is. unarmed_void c.args.journal.now.armed c.args.journal.now.selected disk.seen c.if-journal.false (c.requires.journal disk is).read)

pub returns-in_err-journal-clause-moments : goal.returns-in_err-journal-clause-moments
returns-in_err-journal-clause-moments g c = λ all is view stands ready.
    let first = c.args.rig.now in
    let here_i = known_file (g.R.Rig.state first) Image all is in
    let here_j = known_file (g.R.Rig.state first) Journal all is in
    let void = unarmed_void c.args.journal.now.armed c.args.journal.now.selected all.journal.seen c.if-journal.false (c.requires.journal all.journal here_j).read in
    weaker g.R.Rig (while_armed all c.args.file.now c.requires.least ready view stands (g.met.R.Rig.reads_now first Image all.image here_i) (g.met.R.Rig.reads_now first Journal all.journal here_j) void)
    (c.create.ensures.moments all is)

pub returns-clause-moments : goal.returns-clause-moments
returns-clause-moments g c = λ all is view stands ready.
    let first = c.args.rig.now in
    let here_i = known_file (g.R.Rig.state first) Image all is in
    let here_j = known_file (g.R.Rig.state first) Journal all is in
    let void = unarmed_void c.args.journal.now.armed c.args.journal.now.selected all.journal.seen c.if-journal.false (c.requires.journal all.journal here_j).read in
    weaker g.R.Rig (while_armed all c.args.file.now c.requires.least ready view stands (g.met.R.Rig.reads_now first Image all.image here_i) (g.met.R.Rig.reads_now first Journal all.journal here_j) void)
    (c.create.ensures.moments all is)
