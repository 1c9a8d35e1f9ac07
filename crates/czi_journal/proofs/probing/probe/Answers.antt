use Rattle.std.proofs.Common.{◌≡◌, length, None, Some, refl, sym, ◌∙◌, ap, subst, arith}
use Rattle.std.specs.Prelude.{option_map}
use Rattle.std.proofs.lemmas.Result.{err_from_is_err_and}
use Rattle.czi_rig.specs.declared.file.File.TheVariants.{Journal}
use Rattle.czi_rig.specs.Disk.{Disk}
use Rattle.czi_rig.specs.Faults.{Faults}
use Rattle.czi_rig.specs.State.{seen_of}
use Rattle.czi_rig.proofs.Faults.{faults_then}
use Rattle.czi_rig.proofs.Known.{same_known, goes_then}
use Rattle.czi_rig.proofs.Runs.{run_is, run_waits}
use Rattle.czi_links.specs.WriteSet.{WriteSet}
use Rattle.czi_links.specs.Reading.{read}
use Rattle.czi_journal.specs.Journals.{behind, CountsWith}
use Rattle.czi_journal.specs.Probing.{IsSelection}
use Rattle.czi_journal.proofs.Probes.{emptied_err, slot_read, refused, no_device}
use Rattle.czi_journal.proofs.Slots.{slot_room}
use Rattle.czi_journal.proofs.probing.probe.Goals as goal

pub read_at-requires-clause-fits : goal.read_at-requires-clause-fits
read_at-requires-clause-fits g c = omega (arith, c.place.ensures, slot_room c.in-Some.selected, (c.in_ok-slot.ensures {u = tt}).len, c.deref_mut.ensures.len)

pub read_at-requires-clause-in_file : goal.read_at-requires-clause-in_file
read_at-requires-clause-in_file g c = λ x is.
    let before : seen_of (g.R.Rig.state c.args.rig.now) Journal ≡ Some x = sym (ap (option_map (λ (d : Disk). d.seen)) c.selected_slot.ensures.same.journal) ∙ is in
    let counts : CountsWith c.in-Some.selected x = subst (IsSelection x) c.in-Some.is ((c.in_ok-selected.ensures {u = tt}).answer x before) in
    omega (arith, c.place.ensures, slot_room c.in-Some.selected, (c.in_ok-slot.ensures {u = tt}).len, c.deref_mut.ensures.len, counts.counts.long)

pub returns-in_err-read_at-clause-emptied : goal.returns-in_err-read_at-clause-emptied
returns-in_err-read_at-clause-emptied g c = emptied_err _ _ c.from_residual-in_err-read_at.ensures.0 (ap (λ (w : WriteSet). w.links) c.clear.ensures)

pub returns-in_err-read_at-clause-moments : goal.returns-in_err-read_at-clause-moments
returns-in_err-read_at-clause-moments g c = λ all is.
    let rig = g.R.Rig in
    let now = same_known (rig.state c.args.rig.now) (rig.state c.selected_slot.new.rig) all is c.selected_slot.ensures.same in
    run_waits rig g.met.R.Rig.counts_now (run_is rig now (c.selected_slot.ensures.moments all is)) c.read_at.ensures.time

pub decode_at-requires-clause-place : goal.decode_at-requires-clause-place
decode_at-requires-clause-place g c = omega (arith, c.place-2.ensures, slot_room c.in-Some.selected)

pub returns-in_err-head-clause-answer : goal.returns-in_err-head-clause-answer
returns-in_err-head-clause-answer g c = λ x before.
    let selected = c.in-Some.selected in
    let counts : CountsWith c.in-Some.selected x = subst (IsSelection x) c.in-Some.is ((c.in_ok-selected.ensures {u = tt}).answer x before) in
    let after : seen_of (g.R.Rig.state c.selected_slot.new.rig) Journal ≡ Some x = ap (option_map (λ (d : Disk). d.seen)) c.selected_slot.ensures.same.journal ∙ before in
    let bytes_are = (c.in_ok-read_at.ensures {u = tt}).bytes x after in
    let answer = (c.in_err-head.ensures {u = tt}).answer in
    let slot_is = c.deref.ensures.value in
    let n_is : length c.deref_mut.result.now ≡ 262144 = omega (arith, (c.in_ok-slot.ensures {u = tt}).len, c.deref_mut.ensures.len) in
    let says = slot_read selected x c.deref.result.now c.read_at.new.into _ c.place.result c.place-2.result (length c.deref_mut.result.now) c.in_ok-slot.slot.len counts c.place.ensures c.place-2.ensures n_is ((c.in_ok-slot.ensures {u = tt}).len) bytes_are slot_is in
    let p = err_from_is_err_and c.from_residual-in_err-head.result c.from_residual-in_err-head.ensures.1 in
    rw (p.1, p.2) (refused x c.decode_at.new.links.links (behind c.place-2.result (read c.deref.result.now)) c.in_err-head.field-0.0 says answer)

pub returns-in_err-head-clause-moments : goal.returns-in_err-head-clause-moments
returns-in_err-head-clause-moments g c = λ all is.
    let rig = g.R.Rig in
    let now = same_known (rig.state c.args.rig.now) (rig.state c.selected_slot.new.rig) all is c.selected_slot.ensures.same in
    run_waits rig g.met.R.Rig.counts_now (run_is rig now (c.selected_slot.ensures.moments all is)) c.read_at.ensures.time

pub returns-in_err-head-clause-cause : goal.returns-in_err-head-clause-cause
returns-in_err-head-clause-cause g c =
    let answer = (c.in_err-head.ensures {u = tt}).answer in
    let p = err_from_is_err_and c.from_residual-in_err-head.result c.from_residual-in_err-head.ensures.1 in
    let none : Faults None (g.R.Rig.state c.args.rig.now) (g.R.Rig.state c.read_at.new.self) = faults_then None _ _ _ (c.in_ok-selected.ensures {u = tt}).cause (c.in_ok-read_at.ensures {u = tt}).cause in
    rw (p.1, p.2) (rw (no_device c.decode_at.new.links.links (behind c.place-2.result (read c.deref.result.now)) c.in_err-head.field-0.0 answer) none)

pub returns-clause-answer : goal.returns-clause-answer
returns-clause-answer g c = λ x before.
    let selected = c.in-Some.selected in
    let counts : CountsWith c.in-Some.selected x = subst (IsSelection x) c.in-Some.is ((c.in_ok-selected.ensures {u = tt}).answer x before) in
    let after : seen_of (g.R.Rig.state c.selected_slot.new.rig) Journal ≡ Some x = ap (option_map (λ (d : Disk). d.seen)) c.selected_slot.ensures.same.journal ∙ before in
    let bytes_are = (c.in_ok-read_at.ensures {u = tt}).bytes x after in
    let answer = (c.in_ok-head.ensures {u = tt}).answer in
    let slot_is = c.deref.ensures.value in
    let n_is : length c.deref_mut.result.now ≡ 262144 = omega (arith, (c.in_ok-slot.ensures {u = tt}).len, c.deref_mut.ensures.len) in
    let says = slot_read selected x c.deref.result.now c.read_at.new.into _ c.place.result c.place-2.result (length c.deref_mut.result.now) c.in_ok-slot.slot.len counts c.place.ensures c.place-2.ensures n_is ((c.in_ok-slot.ensures {u = tt}).len) bytes_are slot_is in
    (says ∙ answer, refl, counts)

pub returns-clause-same : goal.returns-clause-same
returns-clause-same g c =
    let first = c.selected_slot.ensures.same in
    let then = c.read_at.ensures.same in
    record { image = then.image ∙ first.image; journal = then.journal ∙ first.journal; said = then.said ∙ first.said }

pub returns-clause-moments : goal.returns-clause-moments
returns-clause-moments g c = λ all is.
    let rig = g.R.Rig in
    let now = same_known (rig.state c.args.rig.now) (rig.state c.selected_slot.new.rig) all is c.selected_slot.ensures.same in
    run_waits rig g.met.R.Rig.counts_now (run_is rig now (c.selected_slot.ensures.moments all is)) c.read_at.ensures.time

pub returns-clause-goes_on : goal.returns-clause-goes_on
returns-clause-goes_on g c = goes_then (g.R.Rig.state c.args.rig.now) (g.R.Rig.state c.selected_slot.new.rig) (g.R.Rig.state c.read_at.new.self) c.selected_slot.ensures.goes_on c.read_at.ensures.time.goes_on
