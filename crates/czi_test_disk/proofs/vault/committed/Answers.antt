use Rattle.czi_rig.proofs.Files.{everywhere_weaker}
use Rattle.czi_test_disk.proofs.vault.committed.Goals as goal

pub seal-requires : goal.seal-requires
seal-requires g c = record { counts = λ disk is. everywhere_weaker disk (λ j with_slot. with_slot.counts) (c.in-Ok-commit.ensures.counts disk is) }
