use Rattle.std.proofs.Common.{◌≤◌, length, [], ◌∷◌, take, ◌∙◌, ap, arith}
use Rattle.std.specs.Prelude.{option_map}
use Rattle.czi_rig.specs.declared.file.File.TheVariants.{Image}
use Rattle.czi_rig.specs.Disk.{Disk, at_rest, overwritten, begun_write, begun_cut}
use Rattle.czi_rig.specs.State.{known}
use Rattle.czi_rig.proofs.Known.{known_file, known_seen}
use Rattle.czi_rig.proofs.Runs.{weaker}
use Rattle.czi_links.specs.Record.{record_of}
use Rattle.czi_vault.specs.Recovered.{applied, with_links}
use Rattle.czi_vault.specs.Puts.{begun_each}
use Rattle.czi_vault.proofs.Repair.{MadeNow, fine_of, made_stands, marked, linked, shortened, wrote_links, then_seen, mapped_alike, still_long, ends_all, length-marked, length-linked, length-shortened, applied_last}
use Rattle.czi_vault.proofs.Pending.{WaitsNow}
use Rattle.czi_vault.proofs.Rests.{laws, stored}
use Rattle.czi_vault.proofs.Chain.{mark_fails, after_mark, links_fail, after_links, cut_fails, after_cut, last_call, puts_ok, stands_kept, waits_kept}
use Rattle.czi_vault.proofs.recovering.recover.Goals as goal

pub put_links-requires-clause-fits : goal.put_links-requires-clause-fits
put_links-requires-clause-fits g c = ends_all c.args.head.now.length _ c.args.links.now.links c.requires.greatest c.requires.ends

pub put_links-requires-clause-in_file : goal.put_links-requires-clause-in_file
put_links-requires-clause-in_file g c = λ x is.
    let rig = g.R.Rig in
    let s = rig.state c.args.rig.now in
    let r = record_of c.args.head.now c.args.links.now.links in
    let fine = fine_of r c.requires.least c.count-count.ensures.rising c.requires.ends in
    let one = c.write_synced.new.rig in
    let e1 = c.in_ok-write_synced.ensures.ok in
    let long : r.committed ≤ length x = still_long r.committed (known s Image) (known (rig.state one) Image) (marked r) (λ seen le. omega (arith, le, length-marked r fine seen le)) e1 c.requires.in_file x is in
    ends_all r.committed (length x) c.args.links.now.links long c.requires.ends

pub cut_to-requires-clause-in_file : goal.cut_to-requires-clause-in_file
cut_to-requires-clause-in_file g c = λ x is.
    let rig = g.R.Rig in
    let s = rig.state c.args.rig.now in
    let r = record_of c.args.head.now c.args.links.now.links in
    let fine = fine_of r c.requires.least c.count-count.ensures.rising c.requires.ends in
    let one = c.write_synced.new.rig in
    let e1 = c.in_ok-write_synced.ensures.ok in
    let two = c.put_links.new.rig in
    let e2 = wrote_links r.links (known (rig.state one) Image) (known (rig.state two) Image) (marked r) (known s Image) e1 c.in_ok-put_links.ensures.ok in
    still_long r.committed (known s Image) (known (rig.state two) Image) (linked r) (λ seen le. omega (arith, le, length-linked r fine seen le)) e2 c.requires.in_file x is

pub write_synced-requires-2-clause-in_file : goal.write_synced-requires-2-clause-in_file
write_synced-requires-2-clause-in_file g c = λ x is.
    let rig = g.R.Rig in
    let s = rig.state c.args.rig.now in
    let r = record_of c.args.head.now c.args.links.now.links in
    let fine = fine_of r c.requires.least c.count-count.ensures.rising c.requires.ends in
    let one = c.write_synced.new.rig in
    let e1 = c.in_ok-write_synced.ensures.ok in
    let two = c.put_links.new.rig in
    let e2 = wrote_links r.links (known (rig.state one) Image) (known (rig.state two) Image) (marked r) (known s Image) e1 c.in_ok-put_links.ensures.ok in
    let three = c.cut_to.new.rig in
    let e3 = then_seen (take r.committed) (linked r) (known (rig.state two) Image) (known (rig.state three) Image) (known s Image) e2 c.in_ok-cut_to.ensures.ok in
    let long : r.committed ≤ length x = still_long r.committed (known s Image) (known (rig.state three) Image) (shortened r) (λ seen le. omega (arith, le, length-shortened r fine seen le)) e3 c.requires.in_file x is in
    omega (arith, long, fine.least)

pub returns-clause-ok : goal.returns-clause-ok
returns-clause-ok g c =
    let rig = g.R.Rig in
    let s = rig.state c.args.rig.now in
    let r = record_of c.args.head.now c.args.links.now.links in
    let fine = fine_of r c.requires.least c.count-count.ensures.rising c.requires.ends in
    let one = c.write_synced.new.rig in
    let e1 = c.in_ok-write_synced.ensures.ok in
    let two = c.put_links.new.rig in
    let e2 = wrote_links r.links (known (rig.state one) Image) (known (rig.state two) Image) (marked r) (known s Image) e1 c.in_ok-put_links.ensures.ok in
    let three = c.cut_to.new.rig in
    let e3 = then_seen (take r.committed) (linked r) (known (rig.state two) Image) (known (rig.state three) Image) (known s Image) e2 c.in_ok-cut_to.ensures.ok in
    let e4 = then_seen (overwritten 100 (0 ∷ [])) (shortened r) (known (rig.state three) Image) (known (rig.state c.write_synced-2.new.rig) Image) (known s Image) e3 c.in_ok-write_synced-2.ensures.ok in
    e4 ∙ mapped_alike (λ (d : Disk). at_rest (overwritten 100 (0 ∷ []) (shortened r d.seen))) (λ (d : Disk). at_rest (applied r d.seen)) (known s Image)
    (λ d k. ap at_rest (applied_last r fine d.seen (c.requires.in_file d.seen (ap (option_map (λ (e : Disk). e.seen)) k))))

pub returns-in_err-write_synced-clause-moments : goal.returns-in_err-write_synced-clause-moments
returns-in_err-write_synced-clause-moments g c = λ all is view stands slots.
    let rig = g.R.Rig in
    let m = g.met.R.Rig in
    let w = laws rig m.counts_now m.only_now m.reads_now in
    let first = c.args.rig.now in
    let here = known_file (rig.state first) Image all is in
    let long = c.requires.in_file all.image.seen (known_seen (rig.state first) Image all is) in
    let r = record_of c.args.head.now c.args.links.now.links in
    let fine = fine_of r c.requires.least c.count-count.ensures.rising c.requires.ends in
    let t = stands_kept all r view fine long stands slots (m.reads_now first Image all.image here) in
    weaker rig (made_stands r view all.said) (mark_fails rig w first all is r (MadeNow r view all.said) t c.write_synced.new.rig c.write_synced.ensures.moments)

pub returns-in_err-put_links-clause-moments : goal.returns-in_err-put_links-clause-moments
returns-in_err-put_links-clause-moments g c = λ all is view stands slots.
    let rig = g.R.Rig in
    let m = g.met.R.Rig in
    let w = laws rig m.counts_now m.only_now m.reads_now in
    let first = c.args.rig.now in
    let here = known_file (rig.state first) Image all is in
    let long = c.requires.in_file all.image.seen (known_seen (rig.state first) Image all is) in
    let r = record_of c.args.head.now c.args.links.now.links in
    let fine = fine_of r c.requires.least c.count-count.ensures.rising c.requires.ends in
    let t = stands_kept all r view fine long stands slots (m.reads_now first Image all.image here) in
    let one = c.write_synced.new.rig in
    let k1 = after_mark rig w first all is r (MadeNow r view all.said) t one (stored rig (begun_write 100 1) (marked r) first one c.write_synced.ensures.moments c.write_synced.ensures.other c.in_ok-write_synced.ensures.ok) in
    weaker rig (made_stands r view all.said) (links_fail rig w first all is r (MadeNow r view all.said) t one c.put_links.new.rig k1 c.put_links.ensures.moments)

pub returns-in_err-cut_to-clause-moments : goal.returns-in_err-cut_to-clause-moments
returns-in_err-cut_to-clause-moments g c = λ all is view stands slots.
    let rig = g.R.Rig in
    let m = g.met.R.Rig in
    let w = laws rig m.counts_now m.only_now m.reads_now in
    let first = c.args.rig.now in
    let here = known_file (rig.state first) Image all is in
    let long = c.requires.in_file all.image.seen (known_seen (rig.state first) Image all is) in
    let r = record_of c.args.head.now c.args.links.now.links in
    let fine = fine_of r c.requires.least c.count-count.ensures.rising c.requires.ends in
    let t = stands_kept all r view fine long stands slots (m.reads_now first Image all.image here) in
    let one = c.write_synced.new.rig in
    let k1 = after_mark rig w first all is r (MadeNow r view all.said) t one (stored rig (begun_write 100 1) (marked r) first one c.write_synced.ensures.moments c.write_synced.ensures.other c.in_ok-write_synced.ensures.ok) in
    let two = c.put_links.new.rig in
    let ok2 = puts_ok r.links (known (rig.state one) Image) (known (rig.state two) Image) c.in_ok-put_links.ensures.ok in
    let k2 = after_links rig w first all is r (MadeNow r view all.said) t one two k1 (stored rig (begun_each r.links) (with_links r.links) one two c.put_links.ensures.moments c.put_links.ensures.other ok2) in
    weaker rig (made_stands r view all.said) (cut_fails rig w first all is r (MadeNow r view all.said) t two c.cut_to.new.rig k2 c.cut_to.ensures.moments)

pub returns-in_err-write_synced-2-clause-moments : goal.returns-in_err-write_synced-2-clause-moments
returns-in_err-write_synced-2-clause-moments g c = λ all is view stands slots.
    let rig = g.R.Rig in
    let m = g.met.R.Rig in
    let w = laws rig m.counts_now m.only_now m.reads_now in
    let first = c.args.rig.now in
    let here = known_file (rig.state first) Image all is in
    let long = c.requires.in_file all.image.seen (known_seen (rig.state first) Image all is) in
    let r = record_of c.args.head.now c.args.links.now.links in
    let fine = fine_of r c.requires.least c.count-count.ensures.rising c.requires.ends in
    let t = stands_kept all r view fine long stands slots (m.reads_now first Image all.image here) in
    let one = c.write_synced.new.rig in
    let k1 = after_mark rig w first all is r (MadeNow r view all.said) t one (stored rig (begun_write 100 1) (marked r) first one c.write_synced.ensures.moments c.write_synced.ensures.other c.in_ok-write_synced.ensures.ok) in
    let two = c.put_links.new.rig in
    let ok2 = puts_ok r.links (known (rig.state one) Image) (known (rig.state two) Image) c.in_ok-put_links.ensures.ok in
    let k2 = after_links rig w first all is r (MadeNow r view all.said) t one two k1 (stored rig (begun_each r.links) (with_links r.links) one two c.put_links.ensures.moments c.put_links.ensures.other ok2) in
    let three = c.cut_to.new.rig in
    let k3 = after_cut rig w first all is r (MadeNow r view all.said) t two three k2 (stored rig (begun_cut r.committed) (take r.committed) two three c.cut_to.ensures.moments c.cut_to.ensures.other c.in_ok-cut_to.ensures.ok) in
    weaker rig (made_stands r view all.said) (last_call rig w first all is r (MadeNow r view all.said) t three c.write_synced-2.new.rig k3 c.write_synced-2.ensures.moments)

pub returns-clause-moments : goal.returns-clause-moments
returns-clause-moments g c = λ all is view stands slots.
    let rig = g.R.Rig in
    let m = g.met.R.Rig in
    let w = laws rig m.counts_now m.only_now m.reads_now in
    let first = c.args.rig.now in
    let here = known_file (rig.state first) Image all is in
    let long = c.requires.in_file all.image.seen (known_seen (rig.state first) Image all is) in
    let r = record_of c.args.head.now c.args.links.now.links in
    let fine = fine_of r c.requires.least c.count-count.ensures.rising c.requires.ends in
    let t = stands_kept all r view fine long stands slots (m.reads_now first Image all.image here) in
    let one = c.write_synced.new.rig in
    let k1 = after_mark rig w first all is r (MadeNow r view all.said) t one (stored rig (begun_write 100 1) (marked r) first one c.write_synced.ensures.moments c.write_synced.ensures.other c.in_ok-write_synced.ensures.ok) in
    let two = c.put_links.new.rig in
    let ok2 = puts_ok r.links (known (rig.state one) Image) (known (rig.state two) Image) c.in_ok-put_links.ensures.ok in
    let k2 = after_links rig w first all is r (MadeNow r view all.said) t one two k1 (stored rig (begun_each r.links) (with_links r.links) one two c.put_links.ensures.moments c.put_links.ensures.other ok2) in
    let three = c.cut_to.new.rig in
    let k3 = after_cut rig w first all is r (MadeNow r view all.said) t two three k2 (stored rig (begun_cut r.committed) (take r.committed) two three c.cut_to.ensures.moments c.cut_to.ensures.other c.in_ok-cut_to.ensures.ok) in
    weaker rig (made_stands r view all.said) (last_call rig w first all is r (MadeNow r view all.said) t three c.write_synced-2.new.rig k3 c.write_synced-2.ensures.moments)

pub returns-in_err-write_synced-clause-alone : goal.returns-in_err-write_synced-clause-alone
returns-in_err-write_synced-clause-alone g c = λ all is rest off.
    let rig = g.R.Rig in
    let m = g.met.R.Rig in
    let w = laws rig m.counts_now m.only_now m.reads_now in
    let first = c.args.rig.now in
    let here = known_file (rig.state first) Image all is in
    let long = c.requires.in_file all.image.seen (known_seen (rig.state first) Image all is) in
    let r = record_of c.args.head.now c.args.links.now.links in
    let fine = fine_of r c.requires.least c.count-count.ensures.rising c.requires.ends in
    let t = waits_kept all r fine long rest off in
    mark_fails rig w first all is r (WaitsNow r all) t c.write_synced.new.rig c.write_synced.ensures.moments

pub returns-in_err-put_links-clause-alone : goal.returns-in_err-put_links-clause-alone
returns-in_err-put_links-clause-alone g c = λ all is rest off.
    let rig = g.R.Rig in
    let m = g.met.R.Rig in
    let w = laws rig m.counts_now m.only_now m.reads_now in
    let first = c.args.rig.now in
    let here = known_file (rig.state first) Image all is in
    let long = c.requires.in_file all.image.seen (known_seen (rig.state first) Image all is) in
    let r = record_of c.args.head.now c.args.links.now.links in
    let fine = fine_of r c.requires.least c.count-count.ensures.rising c.requires.ends in
    let t = waits_kept all r fine long rest off in
    let one = c.write_synced.new.rig in
    let k1 = after_mark rig w first all is r (WaitsNow r all) t one (stored rig (begun_write 100 1) (marked r) first one c.write_synced.ensures.moments c.write_synced.ensures.other c.in_ok-write_synced.ensures.ok) in
    links_fail rig w first all is r (WaitsNow r all) t one c.put_links.new.rig k1 c.put_links.ensures.moments

pub returns-in_err-cut_to-clause-alone : goal.returns-in_err-cut_to-clause-alone
returns-in_err-cut_to-clause-alone g c = λ all is rest off.
    let rig = g.R.Rig in
    let m = g.met.R.Rig in
    let w = laws rig m.counts_now m.only_now m.reads_now in
    let first = c.args.rig.now in
    let here = known_file (rig.state first) Image all is in
    let long = c.requires.in_file all.image.seen (known_seen (rig.state first) Image all is) in
    let r = record_of c.args.head.now c.args.links.now.links in
    let fine = fine_of r c.requires.least c.count-count.ensures.rising c.requires.ends in
    let t = waits_kept all r fine long rest off in
    let one = c.write_synced.new.rig in
    let k1 = after_mark rig w first all is r (WaitsNow r all) t one (stored rig (begun_write 100 1) (marked r) first one c.write_synced.ensures.moments c.write_synced.ensures.other c.in_ok-write_synced.ensures.ok) in
    let two = c.put_links.new.rig in
    let ok2 = puts_ok r.links (known (rig.state one) Image) (known (rig.state two) Image) c.in_ok-put_links.ensures.ok in
    let k2 = after_links rig w first all is r (WaitsNow r all) t one two k1 (stored rig (begun_each r.links) (with_links r.links) one two c.put_links.ensures.moments c.put_links.ensures.other ok2) in
    cut_fails rig w first all is r (WaitsNow r all) t two c.cut_to.new.rig k2 c.cut_to.ensures.moments

pub returns-in_err-write_synced-2-clause-alone : goal.returns-in_err-write_synced-2-clause-alone
returns-in_err-write_synced-2-clause-alone g c = λ all is rest off.
    let rig = g.R.Rig in
    let m = g.met.R.Rig in
    let w = laws rig m.counts_now m.only_now m.reads_now in
    let first = c.args.rig.now in
    let here = known_file (rig.state first) Image all is in
    let long = c.requires.in_file all.image.seen (known_seen (rig.state first) Image all is) in
    let r = record_of c.args.head.now c.args.links.now.links in
    let fine = fine_of r c.requires.least c.count-count.ensures.rising c.requires.ends in
    let t = waits_kept all r fine long rest off in
    let one = c.write_synced.new.rig in
    let k1 = after_mark rig w first all is r (WaitsNow r all) t one (stored rig (begun_write 100 1) (marked r) first one c.write_synced.ensures.moments c.write_synced.ensures.other c.in_ok-write_synced.ensures.ok) in
    let two = c.put_links.new.rig in
    let ok2 = puts_ok r.links (known (rig.state one) Image) (known (rig.state two) Image) c.in_ok-put_links.ensures.ok in
    let k2 = after_links rig w first all is r (WaitsNow r all) t one two k1 (stored rig (begun_each r.links) (with_links r.links) one two c.put_links.ensures.moments c.put_links.ensures.other ok2) in
    let three = c.cut_to.new.rig in
    let k3 = after_cut rig w first all is r (WaitsNow r all) t two three k2 (stored rig (begun_cut r.committed) (take r.committed) two three c.cut_to.ensures.moments c.cut_to.ensures.other c.in_ok-cut_to.ensures.ok) in
    last_call rig w first all is r (WaitsNow r all) t three c.write_synced-2.new.rig k3 c.write_synced-2.ensures.moments

pub returns-clause-alone : goal.returns-clause-alone
returns-clause-alone g c = λ all is rest off.
    let rig = g.R.Rig in
    let m = g.met.R.Rig in
    let w = laws rig m.counts_now m.only_now m.reads_now in
    let first = c.args.rig.now in
    let here = known_file (rig.state first) Image all is in
    let long = c.requires.in_file all.image.seen (known_seen (rig.state first) Image all is) in
    let r = record_of c.args.head.now c.args.links.now.links in
    let fine = fine_of r c.requires.least c.count-count.ensures.rising c.requires.ends in
    let t = waits_kept all r fine long rest off in
    let one = c.write_synced.new.rig in
    let k1 = after_mark rig w first all is r (WaitsNow r all) t one (stored rig (begun_write 100 1) (marked r) first one c.write_synced.ensures.moments c.write_synced.ensures.other c.in_ok-write_synced.ensures.ok) in
    let two = c.put_links.new.rig in
    let ok2 = puts_ok r.links (known (rig.state one) Image) (known (rig.state two) Image) c.in_ok-put_links.ensures.ok in
    let k2 = after_links rig w first all is r (WaitsNow r all) t one two k1 (stored rig (begun_each r.links) (with_links r.links) one two c.put_links.ensures.moments c.put_links.ensures.other ok2) in
    let three = c.cut_to.new.rig in
    let k3 = after_cut rig w first all is r (WaitsNow r all) t two three k2 (stored rig (begun_cut r.committed) (take r.committed) two three c.cut_to.ensures.moments c.cut_to.ensures.other c.in_ok-cut_to.ensures.ok) in
    last_call rig w first all is r (WaitsNow r all) t three c.write_synced-2.new.rig k3 c.write_synced-2.ensures.moments
