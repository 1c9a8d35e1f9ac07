-- What is told of a device.
use Rattle.std.proofs.Common.{◌≡◌, Some, refl, ◌∙◌, ap}
use Rattle.std.specs.Prelude.{option_map}
use Rattle.czi_rig.specs.declared.file.File.TheVariants.{Image, Journal}
use Rattle.czi_rig.specs.Disk.{Disk}
use Rattle.czi_rig.specs.State.{SameFiles, State}
use Rattle.czi_rig.specs.Passes.{GoesOn}
use Rattle.czi_rig.specs.Moments.{Devices, all_of, devices}
use Rattle.czi_rig.proofs.Known.{known_file, known_said, told_after}
use Rattle.czi_session.specs.Course.{Model, OnlyRecovered}

-- what is told stays told where nothing is said
pub record Told (old new : State) (all : Devices) : Type 0 where
  pub now : Devices
  pub known : devices new ≡ Some now
  pub said : now.said ≡ all.said

pub still_told : (old new : State) (all : Devices) → devices old ≡ Some all → GoesOn old new → new.said ≡ old.said → Told old new all
still_told old new all is goes same =
    let image = told_after old new Image all.image goes (known_file old Image all is) in
    let journal = told_after old new Journal all.journal goes (known_file old Journal all is) in
    record {
      now = record { image = image.0; journal = journal.0; said = all.said };
      known = λ k. all_of (image.1 k) (journal.1 k) ((same ∙ known_said old all is) k);
      said = refl;
    }

-- a text leaves files that were only recovered so
pub recovered_said : (m : Model) (all : Devices) (old new : State) → SameFiles old new → OnlyRecovered m all old → OnlyRecovered m all new
recovered_said m all old new files r = record {
  journal = ap (option_map (λ (d : Disk). d.seen)) files.journal ∙ r.journal;
  bytes = r.bytes;
  image = ap (option_map (λ (d : Disk). d.seen)) files.image ∙ r.image;
  same = r.same;
}
