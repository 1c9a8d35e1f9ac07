use Rattle.std.proofs.Common.{◌≡◌, ap, sym, subst, [], ◌∷◌}
use Rattle.std.specs.Prelude.{option_map}
use Rattle.czi_rig.specs.declared.file.File.TheVariants.{Journal}
use Rattle.czi_rig.specs.Disk.{Disk, Everywhere, at_rest, overwritten}
use Rattle.czi_rig.specs.State.{known}
use Rattle.czi_rig.proofs.Known.{known_file, known_seen, still_known, came_from}
use Rattle.czi_rig.proofs.Files.{everywhere_at_rest}
use Rattle.czi_rig.proofs.Runs.{weaker, joined}
use Rattle.czi_links.specs.Reading.{Holds}
use Rattle.czi_journal.specs.declared.journal.Slot.TheVariants.{A}
use Rattle.czi_journal.specs.Journals.{slot_of, CountsWith}
use Rattle.czi_journal.proofs.Voids.{void_then, mark_moments, armed_counts, armed_says}
use Rattle.czi_journal.proofs.arming.arm.Goals as goal

pub returns-in_err-clear-clause-moments : goal.returns-in_err-clear-clause-moments
returns-in_err-clear-clause-moments g c = λ all is r spells.
    weaker g.R.Rig (void_then r all) (c.clear.ensures.moments all is)

pub returns-in_err-fill-clause-moments : goal.returns-in_err-fill-clause-moments
returns-in_err-fill-clause-moments g c = λ all is r spells.
    let rig = g.R.Rig in
    let s = rig.state c.args.rig.now in
    let a = still_known s (rig.state c.clear.new.rig) Journal all is c.clear.ensures.other_file c.clear.ensures.goes_on in
    let first = weaker rig (void_then r all) (c.clear.ensures.moments all is) in
    let second = weaker rig (void_then r all) (c.fill.ensures.moments _ a.known) in
    joined rig first second

pub returns-in_err-write_synced-clause-moments : goal.returns-in_err-write_synced-clause-moments
returns-in_err-write_synced-clause-moments g c = λ all is r spells.
    let rig = g.R.Rig in
    let s = rig.state c.args.rig.now in
    let a = still_known s (rig.state c.clear.new.rig) Journal all is c.clear.ensures.other_file c.clear.ensures.goes_on in
    let first = weaker rig (void_then r all) (c.clear.ensures.moments all is) in
    let second = weaker rig (void_then r all) (c.fill.ensures.moments _ a.known) in
    let b = still_known (rig.state c.clear.new.rig) (rig.state c.fill.new.rig) Journal _ a.known c.fill.ensures.other_file c.fill.ensures.goes_on in
    let here = known_file (rig.state c.fill.new.rig) Journal _ b.known in
    let third = mark_moments rig c.fill.new.rig c.write_synced.new.rig r c.args.slot.now _ b.known (c.in_ok-fill.ensures.synced b.disk here)
    (c.in_ok-fill.ensures.filled b.disk.seen (known_seen (rig.state c.fill.new.rig) Journal _ b.known)) c.requires.whole spells
    (g.met.R.Rig.reads_now c.fill.new.rig Journal b.disk here) (c.write_synced.ensures.moments _ b.known) in
    joined rig first (joined rig second third)

pub returns-clause-moments : goal.returns-clause-moments
returns-clause-moments g c = λ all is r spells.
    let rig = g.R.Rig in
    let s = rig.state c.args.rig.now in
    let a = still_known s (rig.state c.clear.new.rig) Journal all is c.clear.ensures.other_file c.clear.ensures.goes_on in
    let first = weaker rig (void_then r all) (c.clear.ensures.moments all is) in
    let second = weaker rig (void_then r all) (c.fill.ensures.moments _ a.known) in
    let b = still_known (rig.state c.clear.new.rig) (rig.state c.fill.new.rig) Journal _ a.known c.fill.ensures.other_file c.fill.ensures.goes_on in
    let here = known_file (rig.state c.fill.new.rig) Journal _ b.known in
    let third = mark_moments rig c.fill.new.rig c.write_synced.new.rig r c.args.slot.now _ b.known (c.in_ok-fill.ensures.synced b.disk here)
    (c.in_ok-fill.ensures.filled b.disk.seen (known_seen (rig.state c.fill.new.rig) Journal _ b.known)) c.requires.whole spells
    (g.met.R.Rig.reads_now c.fill.new.rig Journal b.disk here) (c.write_synced.ensures.moments _ b.known) in
    joined rig first (joined rig second third)

pub returns-clause-created : goal.returns-clause-created
returns-clause-created g c = λ r spells disk is.
    let from = came_from (known (g.R.Rig.state c.fill.new.rig) Journal) _ (λ (d : Disk). at_rest (overwritten 0 (90 ∷ []) d.seen)) disk c.in_ok-write_synced.ensures.ok is in
    let filled = c.in_ok-fill.ensures.filled from.old.seen (ap (option_map (λ (d : Disk). d.seen)) from.known_before) in
    subst (Everywhere (λ j. slot_of j ≡ Holds r)) {x = at_rest (overwritten 0 (90 ∷ []) from.old.seen)} (sym from.is)
    (everywhere_at_rest (λ j. slot_of j ≡ Holds r) _ (armed_says c.args.slot.now from.old.seen filled r c.requires.whole spells))

pub returns-clause-counts : goal.returns-clause-counts
returns-clause-counts g c = λ disk is.
    let from = came_from (known (g.R.Rig.state c.fill.new.rig) Journal) _ (λ (d : Disk). at_rest (overwritten 0 (90 ∷ []) d.seen)) disk c.in_ok-write_synced.ensures.ok is in
    let filled = c.in_ok-fill.ensures.filled from.old.seen (ap (option_map (λ (d : Disk). d.seen)) from.known_before) in
    subst (Everywhere (CountsWith A)) {x = at_rest (overwritten 0 (90 ∷ []) from.old.seen)} (sym from.is)
    (everywhere_at_rest (CountsWith A) _ (armed_counts c.args.slot.now from.old.seen filled))
