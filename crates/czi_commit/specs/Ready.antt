-- What the steps of a command stand on.
use Rattle.std.specs.Prelude.{◌≡◌, ℕ, List, false, length, take, drop, slice_index}
use Rattle.std.specs.Option.{ForSome}
use Rattle.czi_rig.specs.declared.file.File.TheVariants.{Image, Journal}
use Rattle.czi_rig.specs.Disk.{Disk, Left, Everywhere, IsAtRest}
use Rattle.czi_rig.specs.State.{State, known, seen_of}
use Rattle.czi_rig.specs.Moments.{Devices}
use Rattle.czi_links.specs.declared.head.SlotHead.{SlotHead}
use Rattle.czi_journal.specs.declared.journal.Journal.{Journal as JournalState}
use Rattle.czi_journal.specs.Journals.{Counts}
use Rattle.czi_opening.specs.Answers.{IsJournal}
use Rattle.czi_plan.specs.declared.plan.EditPlan.{EditPlan}
use Rattle.czi_region.specs.declared.block.Region.{Region}
use Rattle.czi_commit.specs.Made.{Fits, IsStaged, step_of}
use Rattle.czi_format.specs.declared.numbers.TheConstants.{FILE_GUID, UPDATE_PENDING}

-- the image is at rest and is this file, and its byte 100 says that it waits for no journal
pub record IsReady (file : SlotHead) (image : Disk) : Type 0 where
  pub rest : IsAtRest image
  pub long : length image.seen ≡ file.length
  pub guid : take 16 (drop FILE_GUID image.seen) ≡ file.guid
  pub ready : slice_index image.seen UPDATE_PENDING ≡ 0

-- whatever a crash now leaves of the journal counts
abbrev pub JournalCounts : Devices → Type 0
JournalCounts all = (journal : List ℕ) → Left all.journal.durable journal → Counts journal

-- A plan can be carried out: the image is this file and at rest, the journal is as the engine has it, and on the disk where it
-- isn't armed; the plan's step can be written and committed over an image of that length.
pub record CanCarry (s : State) (slots : JournalState) (file : SlotHead) (region : Region) (plan : EditPlan) : Type 0 where
  pub rest : ForSome (known s Image) IsAtRest
  pub whole : ForSome (seen_of s Image) (λ seen. length seen ≡ file.length)
  pub guid : ForSome (seen_of s Image) (λ seen. take 16 (drop FILE_GUID seen) ≡ file.guid)
  pub journal : ForSome (known s Journal) (Everywhere (IsJournal slots))
  pub idle : slots.armed ≡ false → ForSome (known s Journal) IsAtRest
  pub staged : IsStaged region plan
  pub fits : Fits file.length (step_of file region plan)
