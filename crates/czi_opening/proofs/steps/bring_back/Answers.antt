use Rattle.std.proofs.Common.{◌∙◌}
use Rattle.czi_rig.specs.declared.file.File.TheVariants.{Image, Journal}
use Rattle.czi_rig.proofs.Known.{known_file, known_seen}
use Rattle.czi_rig.proofs.Quiet.{devices_same, untouched_run}
use Rattle.czi_rig.proofs.Runs.{run_calls}
use Rattle.czi_links.specs.Record.{record_of}
use Rattle.czi_vault.specs.Recovered.{applied}
use Rattle.czi_opening.specs.Course.{Stays}
use Rattle.czi_opening.proofs.Standing.{exactly, makes, record_stands, repaired_stays, slots_hold}
use Rattle.czi_opening.proofs.steps.bring_back.Goals as goal

pub returns-in-Ok-clause-moments : goal.returns-in-Ok-clause-moments
returns-in-Ok-clause-moments g c = λ all is.
    let rig = g.R.Rig in
    let s = rig.state c.args.rig.now in
    let r = record_of c.args.head.now c.args.links.now.links in
    let image = c.requires.image all.image (known_file s Image all is) in
    let journal = c.requires.journal all.journal (known_file s Journal all is) in
    let holds = c.requires.holds all.journal.seen (known_seen s Journal all is) in
    let fits = c.in_ok-check.ensures.passed all.image.seen (known_seen s Image all is) in
    let mid = devices_same s (rig.state c.check.new.rig) c.check.ensures.untouched.same ∙ is in
    let moments = c.recover.ensures.moments all mid (exactly (applied r all.image.seen)) (record_stands all image journal r holds fits) (slots_hold all image journal r holds fits) in
    run_calls rig (untouched_run rig {P = Stays all} is c.check.ensures.untouched) moments (repaired_stays all (applied r all.image.seen) (makes all image journal r holds fits))

pub returns-in-Err-clause-moments : goal.returns-in-Err-clause-moments
returns-in-Err-clause-moments g c = λ all is.
    let rig = g.R.Rig in
    let s = rig.state c.args.rig.now in
    let r = record_of c.args.head.now c.args.links.now.links in
    let image = c.requires.image all.image (known_file s Image all is) in
    let journal = c.requires.journal all.journal (known_file s Journal all is) in
    let holds = c.requires.holds all.journal.seen (known_seen s Journal all is) in
    let fits = c.in_ok-check.ensures.passed all.image.seen (known_seen s Image all is) in
    let mid = devices_same s (rig.state c.check.new.rig) c.check.ensures.untouched.same ∙ is in
    let moments = c.recover.ensures.moments all mid (exactly (applied r all.image.seen)) (record_stands all image journal r holds fits) (slots_hold all image journal r holds fits) in
    run_calls rig (untouched_run rig {P = Stays all} is c.check.ensures.untouched) moments (repaired_stays all (applied r all.image.seen) (makes all image journal r holds fits))
