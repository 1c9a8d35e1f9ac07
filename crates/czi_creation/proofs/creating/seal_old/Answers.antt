use Rattle.std.proofs.Common.{ap, subst, sym, ◌∙◌}
use Rattle.std.specs.Prelude.{option_map}
use Rattle.czi_rig.specs.Disk.{Disk, Everywhere}
use Rattle.czi_rig.proofs.Files.{everywhere_at_rest}
use Rattle.czi_journal.specs.Journals.{Counts}
use Rattle.czi_journal.specs.Probing.{IsSelection}
use Rattle.czi_creation.proofs.creating.seal_old.Goals as goal

pub seal-requires : goal.seal-requires
seal-requires g c = record {
  counts = λ disk is.
      let was = sym c.selected_slot.ensures.same.journal ∙ is in
      let selected = subst (IsSelection disk.seen) c.in-Some.is (c.in_ok-selected_slot.ensures.answer disk.seen (ap (option_map (λ (d : Disk). d.seen)) was)) in
      subst (Everywhere Counts) (sym (c.requires.synced disk was)) (everywhere_at_rest Counts disk.seen selected.counts);
}
