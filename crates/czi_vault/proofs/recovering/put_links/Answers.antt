use Rattle.std.proofs.Common.{None, length, ◌∙◌, ap, sym, take, subst, arith, ◌<◌, ◌≤◌, ◌+◌}
use Rattle.std.specs.Prelude.{option_map}
use Rattle.std.proofs.lemmas.Option.{get_or_from_slice_get}
use Rattle.czi_rig.specs.declared.file.File.TheVariants.{Image}
use Rattle.czi_rig.specs.Disk.{Disk, wrote}
use Rattle.czi_rig.specs.State.{known}
use Rattle.czi_rig.proofs.Known.{source_of, known_wrote, leaves_then, goes_then, option_map_then, file_known, known_file}
use Rattle.czi_rig.proofs.Faults.{faults_then}
use Rattle.czi_rig.proofs.Runs.{run_is, run_write_fails, run_wrote}
use Rattle.czi_links.specs.Record.{Bytes}
use Rattle.czi_vault.specs.Puts.{wrote_each}
use Rattle.czi_vault.proofs.Putting.{wrote_each-more, place_in_file, link_torn}
use Rattle.czi_vault.proofs.recovering.put_links.Goals as goal

pub write_at-requires-clause-in_file : goal.write_at-requires-clause-in_file
write_at-requires-clause-in_file g c = λ x is.
    let i = c.loop-i.i in
    let ls = c.args.links.now.links in
    let m : Bytes = record { place = c.link-place.result.0; bytes = c.link-place.result.1.now } in
    let from = source_of (known (g.R.Rig.state c.args.rig.now) Image) _ (wrote_each (take i ls)) x c.loop-i.invariant.written is in
    let fits = c.requires.in_file from.disk.seen (ap (option_map (λ (d : Disk). d.seen)) from.known_before) in
    subst (λ s. c.link-place.result.0 ≤ length s) (sym from.seen_is) (place_in_file ls i m from.disk fits (omega (arith, c.loop-i-test.true, c.requires.all)) (sym (get_or_from_slice_get ls i m m c.link-place.ensures)))

pub returns-in_err-write_at-clause-moments : goal.returns-in_err-write_at-clause-moments
returns-in_err-write_at-clause-moments g c = λ all is.
    let s = g.R.Rig.state c.args.rig.now in
    let ls = c.args.links.now.links in
    let i = c.loop-i.i in
    let m : Bytes = record { place = c.link-place.result.0; bytes = c.link-place.result.1.now } in
    let now = file_known s (g.R.Rig.state c.loop-i.rig) Image all _ is c.loop-i.invariant.other (c.loop-i.invariant.written ∙ ap (option_map (wrote_each (take i ls))) (known_file s Image all is)) in
    let h = c.write_at.ensures in
    run_write_fails g.R.Rig Image m.place _ (run_is g.R.Rig now (c.loop-i.invariant.moments all is)) h.time h.other c.in_err-write_at.ensures.failed
    (λ i2 j o l. record { image_is = link_torn ls i m all.image i2 (omega (arith, c.loop-i-test.true, c.requires.all)) (sym (get_or_from_slice_get ls i m m c.link-place.ensures)) l.image_is; journal_is = l.journal_is; said_is = l.said_is })

pub loop-i-preserved : goal.loop-i-preserved
loop-i-preserved g c =
    let s = g.R.Rig.state c.args.rig.now in
    let ls = c.args.links.now.links in
    let i = c.loop-i.i in
    let m : Bytes = record { place = c.link-place.result.0; bytes = c.link-place.result.1.now } in
    let lt : c.loop-i.i < length c.args.links.now.links = omega (arith, c.loop-i-test.true, c.requires.all) in
    let link_is = sym (get_or_from_slice_get ls i m m c.link-place.ensures) in
    let h = c.write_at.ensures in
    let ok = c.in_ok-write_at.ensures in
    let wrote_now = known_wrote (g.R.Rig.state c.loop-i.rig) (g.R.Rig.state c.write_at.new.self) Image m.place _ ok.written ok.begun in
    record {
      written = wrote_now ∙ ap (option_map (wrote m.place m.bytes)) c.loop-i.invariant.written
          ∙ option_map_then (wrote_each (take i ls)) (wrote m.place m.bytes) (wrote_each (take (i + 1) ls)) (known s Image) (λ d. sym (wrote_each-more ls i m d lt link_is));
      other = leaves_then Image s (g.R.Rig.state c.loop-i.rig) (g.R.Rig.state c.write_at.new.self) c.loop-i.invariant.other h.other;
      goes_on = goes_then s (g.R.Rig.state c.loop-i.rig) (g.R.Rig.state c.write_at.new.self) c.loop-i.invariant.goes_on h.time.goes_on;
      cause = faults_then None _ _ _ c.loop-i.invariant.cause ok.cause;
      moments = λ all is.
          let now = file_known s (g.R.Rig.state c.loop-i.rig) Image all _ is c.loop-i.invariant.other (c.loop-i.invariant.written ∙ ap (option_map (wrote_each (take i ls))) (known_file s Image all is)) in
          (run_wrote g.R.Rig Image m.place _ (run_is g.R.Rig now (c.loop-i.invariant.moments all is)) h.time h.other ok.begun ok.written
          (λ i2 j o l. record { image_is = link_torn ls i m all.image i2 lt link_is l.image_is; journal_is = l.journal_is; said_is = l.said_is })).moments;
    }
