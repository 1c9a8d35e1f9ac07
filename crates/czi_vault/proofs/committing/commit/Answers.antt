use Rattle.std.proofs.Common.{◌∙◌, sym}
use Rattle.czi_rig.specs.declared.file.File.TheVariants.{Image, Journal}
use Rattle.czi_rig.proofs.Known.{known_file, known_seen, still_known}
use Rattle.czi_rig.proofs.Runs.{weaker}
use Rattle.czi_links.specs.Record.{record_of}
use Rattle.czi_vault.specs.Recovered.{applied}
use Rattle.czi_vault.proofs.Commits.{meets_of, exactly, while_switched, new_stands, commit_moments, commit_done}
use Rattle.czi_vault.proofs.Pending.{switch_keeps, commit_keeps}
use Rattle.czi_vault.proofs.committing.commit.Goals as goal

pub returns-in-Err-clause-moments : goal.returns-in-Err-clause-moments
returns-in-Err-clause-moments g c = λ all is view stands.
    let rig = g.R.Rig in
    let s = rig.state c.args.rig.now in
    let r = record_of c.args.head.now c.args.links.now.links in
    let seen_is = known_seen s Image all is in
    let meets = meets_of all r (c.requires.synced all.image (known_file s Image all is)) (c.requires.in_file all.image.seen seen_is) (c.requires.guid all.image.seen seen_is) in
    weaker rig (while_switched all r meets view stands) (c.switch.ensures.moments all is r c.encode.ensures.read_again)

pub returns-in-Ok-recover-clause-moments : goal.returns-in-Ok-recover-clause-moments
returns-in-Ok-recover-clause-moments g c = λ all is view stands.
    let rig = g.R.Rig in
    let s = rig.state c.args.rig.now in
    let r = record_of c.args.head.now c.args.links.now.links in
    let seen_is = known_seen s Image all is in
    let meets = meets_of all r (c.requires.synced all.image (known_file s Image all is)) (c.requires.in_file all.image.seen seen_is) (c.requires.guid all.image.seen seen_is) in
    let mid = c.switch.new.rig in
    let still = still_known s (rig.state mid) Journal all is c.switch.ensures.other c.switch.ensures.goes_on in
    let slots = c.in-Ok.ensures.switched r c.encode.ensures.read_again still.disk (known_file (rig.state mid) Journal _ still.known) in
    let second = c.recover.ensures.moments _ still.known (exactly (applied r all.image.seen)) (new_stands all r meets still.disk slots) slots.left in
    commit_moments all r meets rig c.args.rig.now mid c.recover.new.rig view stands (c.switch.ensures.moments all is r c.encode.ensures.read_again) second

pub returns-in-Err-recover-clause-moments : goal.returns-in-Err-recover-clause-moments
returns-in-Err-recover-clause-moments g c = λ all is view stands.
    let rig = g.R.Rig in
    let s = rig.state c.args.rig.now in
    let r = record_of c.args.head.now c.args.links.now.links in
    let seen_is = known_seen s Image all is in
    let meets = meets_of all r (c.requires.synced all.image (known_file s Image all is)) (c.requires.in_file all.image.seen seen_is) (c.requires.guid all.image.seen seen_is) in
    let mid = c.switch.new.rig in
    let still = still_known s (rig.state mid) Journal all is c.switch.ensures.other c.switch.ensures.goes_on in
    let slots = c.in-Ok.ensures.switched r c.encode.ensures.read_again still.disk (known_file (rig.state mid) Journal _ still.known) in
    let second = c.recover.ensures.moments _ still.known (exactly (applied r all.image.seen)) (new_stands all r meets still.disk slots) slots.left in
    commit_moments all r meets rig c.args.rig.now mid c.recover.new.rig view stands (c.switch.ensures.moments all is r c.encode.ensures.read_again) second

pub returns-in-Ok-recover-clause-committed : goal.returns-in-Ok-recover-clause-committed
returns-in-Ok-recover-clause-committed g c = λ all is now is_now.
    let rig = g.R.Rig in
    let s = rig.state c.args.rig.now in
    let r = record_of c.args.head.now c.args.links.now.links in
    let seen_is = known_seen s Image all is in
    let meets = meets_of all r (c.requires.synced all.image (known_file s Image all is)) (c.requires.in_file all.image.seen seen_is) (c.requires.guid all.image.seen seen_is) in
    let mid = c.switch.new.rig in
    let still = still_known s (rig.state mid) Journal all is c.switch.ensures.other c.switch.ensures.goes_on in
    let slots = c.in-Ok.ensures.switched r c.encode.ensures.read_again still.disk (known_file (rig.state mid) Journal _ still.known) in
    let second = c.recover.ensures.moments _ still.known (exactly (applied r all.image.seen)) (new_stands all r meets still.disk slots) slots.left in
    commit_done all r meets rig mid c.recover.new.rig still.disk now g.met.R.Rig.counts_now g.met.R.Rig.only_now still.known slots second is_now

pub returns-in-Ok-recover-clause-counts : goal.returns-in-Ok-recover-clause-counts
returns-in-Ok-recover-clause-counts g c = λ disk is. c.in-Ok.ensures.counts disk (sym c.recover.ensures.other.file ∙ is)

pub returns-in-Err-clause-alone : goal.returns-in-Err-clause-alone
returns-in-Err-clause-alone g c = λ all is view stands alone has off.
    let rig = g.R.Rig in
    let first = c.args.rig.now in
    let s = rig.state first in
    let r = record_of c.args.head.now c.args.links.now.links in
    let here_i = known_file s Image all is in
    let here_j = known_file s Journal all is in
    let seen_is = known_seen s Image all is in
    let meets = meets_of all r (c.requires.synced all.image here_i) (c.requires.in_file all.image.seen seen_is) (c.requires.guid all.image.seen seen_is) in
    let counts = (c.requires.counts all.journal here_j).read.counts in
    let reads_i = g.met.R.Rig.reads_now first Image all.image here_i in
    let reads_j = g.met.R.Rig.reads_now first Journal all.journal here_j in
    weaker rig (switch_keeps all r view stands alone has counts reads_i reads_j meets) (c.switch.ensures.moments all is r c.encode.ensures.read_again)

pub returns-in-Ok-recover-clause-alone : goal.returns-in-Ok-recover-clause-alone
returns-in-Ok-recover-clause-alone g c = λ all is view stands alone has off.
    let rig = g.R.Rig in
    let first = c.args.rig.now in
    let s = rig.state first in
    let r = record_of c.args.head.now c.args.links.now.links in
    let here_i = known_file s Image all is in
    let here_j = known_file s Journal all is in
    let seen_is = known_seen s Image all is in
    let meets = meets_of all r (c.requires.synced all.image here_i) (c.requires.in_file all.image.seen seen_is) (c.requires.guid all.image.seen seen_is) in
    let counts = (c.requires.counts all.journal here_j).read.counts in
    let reads_i = g.met.R.Rig.reads_now first Image all.image here_i in
    let reads_j = g.met.R.Rig.reads_now first Journal all.journal here_j in
    let mid = c.switch.new.rig in
    let still = still_known s (rig.state mid) Journal all is c.switch.ensures.other c.switch.ensures.goes_on in
    let slots = c.in-Ok.ensures.switched r c.encode.ensures.read_again still.disk (known_file (rig.state mid) Journal _ still.known) in
    commit_keeps all r view stands alone has counts reads_i reads_j meets rig first mid c.recover.new.rig (c.switch.ensures.moments all is r c.encode.ensures.read_again)
    (c.recover.ensures.moments _ still.known (exactly (applied r all.image.seen)) (new_stands all r meets still.disk slots) slots.left)
    (c.recover.ensures.alone _ still.known (c.requires.synced all.image here_i) off)

pub returns-in-Err-recover-clause-alone : goal.returns-in-Err-recover-clause-alone
returns-in-Err-recover-clause-alone g c = λ all is view stands alone has off.
    let rig = g.R.Rig in
    let first = c.args.rig.now in
    let s = rig.state first in
    let r = record_of c.args.head.now c.args.links.now.links in
    let here_i = known_file s Image all is in
    let here_j = known_file s Journal all is in
    let seen_is = known_seen s Image all is in
    let meets = meets_of all r (c.requires.synced all.image here_i) (c.requires.in_file all.image.seen seen_is) (c.requires.guid all.image.seen seen_is) in
    let counts = (c.requires.counts all.journal here_j).read.counts in
    let reads_i = g.met.R.Rig.reads_now first Image all.image here_i in
    let reads_j = g.met.R.Rig.reads_now first Journal all.journal here_j in
    let mid = c.switch.new.rig in
    let still = still_known s (rig.state mid) Journal all is c.switch.ensures.other c.switch.ensures.goes_on in
    let slots = c.in-Ok.ensures.switched r c.encode.ensures.read_again still.disk (known_file (rig.state mid) Journal _ still.known) in
    commit_keeps all r view stands alone has counts reads_i reads_j meets rig first mid c.recover.new.rig (c.switch.ensures.moments all is r c.encode.ensures.read_again)
    (c.recover.ensures.moments _ still.known (exactly (applied r all.image.seen)) (new_stands all r meets still.disk slots) slots.left)
    (c.recover.ensures.alone _ still.known (c.requires.synced all.image here_i) off)
