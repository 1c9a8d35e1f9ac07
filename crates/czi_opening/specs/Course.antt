-- What a crash leaves while an image is opened or closed.
use Rattle.std.specs.Prelude.{◌≡◌, ◌⊎◌, ℕ, List, Result, Ok, Err}
use Rattle.czi_rig.specs.declared.rig.Rig.{Ghosts}
use Rattle.czi_rig.specs.State.{Instant}
use Rattle.czi_rig.specs.Moments.{Devices, LeavesNow, FromSomeMoment, LeavesNothingNew}
use Rattle.czi_vault.specs.Recovered.{Recovered}
use Rattle.czi_opening.specs.declared.opening.Opened.{Opened}
use Rattle.czi_opening.specs.declared.error.OpenError.{OpenError}
use Rattle.czi_opening.specs.declared.error.OpenError.TheVariants.{JournalVersion, BadJournal, ImageShort, ForeignJournal, Refused, ImageDevice, JournalDevice, Memory}

-- A pair of files stands for the bytes that an earlier pair stood for. Where that stood for none, it is that pair.
pub record StandsForTheSame (image journal now_image now_journal : List ℕ) : Type 0 where
  pub same : (bytes : List ℕ) → Recovered image journal bytes → Recovered now_image now_journal bytes
  pub none : ((bytes : List ℕ) → Recovered image journal bytes → ⊥) → (now_image ≡ image) × (now_journal ≡ journal)

-- so does what a crash leaves, and nothing more was said
abbrev pub Stays : Devices → Instant
Stays all image journal said = StandsForTheSame all.image.seen all.journal.seen image journal × (said ≡ all.said)

-- The same of an opening: only where a device failed that moment may not have come.
abbrev pub OpensFrom : {D : Type 0} → Ghosts D → D → D → Instant → Result Opened OpenError → Type 0
OpensFrom rig old new P (Ok opened) = FromSomeMoment rig old new P
OpensFrom rig old new P (Err (JournalVersion version)) = FromSomeMoment rig old new P
OpensFrom rig old new P (Err (BadJournal place)) = FromSomeMoment rig old new P
OpensFrom rig old new P (Err (ImageShort have need)) = FromSomeMoment rig old new P
OpensFrom rig old new P (Err (ForeignJournal journal image)) = FromSomeMoment rig old new P
OpensFrom rig old new P (Err (Refused refusal)) = FromSomeMoment rig old new P
OpensFrom rig old new P (Err ImageDevice) = LeavesNothingNew rig old new ⊎ FromSomeMoment rig old new P
OpensFrom rig old new P (Err JournalDevice) = LeavesNothingNew rig old new ⊎ FromSomeMoment rig old new P
OpensFrom rig old new P (Err Memory) = FromSomeMoment rig old new P

-- each journal that a crash now may leave makes the image stand for itself
abbrev pub StandsForItself : Devices → Type 0
StandsForItself all = (image journal said : List ℕ) → LeavesNow all image journal said → Recovered image journal all.image.seen
