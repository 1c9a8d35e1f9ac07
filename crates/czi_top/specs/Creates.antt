-- What creating a document says, and what it leaves.
use Rattle.std.specs.Prelude.{◌≡◌, ◌≢◌, ◌⊎◌, ℕ, ◌≤◌, List, [], ◌∷◌, ◌++◌, length, take, codes, option_map}
use Rattle.std.specs.Option.{ForSome}
use Rattle.czi_format.specs.Empty.{empty_document, empty_image}
use Rattle.czi_rig.specs.declared.file.File.TheVariants.{Image, Journal}
use Rattle.czi_rig.specs.Disk.{at_rest}
use Rattle.czi_rig.specs.Moments.{Devices, devices}
use Rattle.czi_rig.specs.State.{State, Instant, known, seen_of}
use Rattle.czi_journal.specs.Journals.{slot_of}
use Rattle.czi_links.specs.Reading.{Void}
use Rattle.czi_creation.specs.Steps.{AreSynced}
use Rattle.czi_opening.specs.Opens.{Opens}
use Rattle.czi_engine.specs.Creating.{Creates}
use Rattle.czi_engine.specs.Rests.{RestsOn}
use Rattle.czi_report.specs.Refusals.{not_empty_text}
use Rattle.czi_session.specs.declared.stop.Ended.{Ended}
use Rattle.czi_session.specs.declared.stop.Ended.TheVariants.{Done, Refused, Stopped}
use Rattle.czi_session.specs.declared.stop.Stop.TheVariants.{Script, Image as ImageStop, Journal as JournalStop, Output, Input, Memory, TooLong}
use Rattle.czi_top.specs.Run.{Says, code_of}

-- what is said once the document is there: its length in bytes
unfoldable pub created : List ℕ
created = codes "created 704" ++ 10 ∷ []

-- the line that is said at the end, by what the image held at the start
abbrev pub last_line : List ℕ → List ℕ
last_line [] = created
last_line (b ∷ bytes) = not_empty_text (length (b ∷ bytes))

-- how a creation ends, by what the image held at the start, unless a device fails or memory is wanting
abbrev pub wanted : List ℕ → Ended
wanted [] = Done
wanted (b ∷ bytes) = Refused

-- An image that was empty opens to the empty document with this GUID. Any other is as it was, and so is its journal.
abbrev pub IsMadeOf : (guid was before image journal : List ℕ) → Type 0
IsMadeOf guid [] before image journal = Opens image journal (empty_document guid)
IsMadeOf guid (b ∷ bytes) before image journal = (image ≡ b ∷ bytes) × (journal ≡ before)

-- What a crash leaves while a document is created: a pair that opens to the empty document or is refused, with nothing said; and
-- once anything was said, a front of the last line, one that opens to it. An image that wasn't empty is as it was.
abbrev pub CreatesSaying : List ℕ → Devices → Instant
CreatesSaying guid all image journal said = Creates guid all image journal said
    ⊎ (IsMadeOf guid all.image.seen all.journal.seen image journal × (n : ℕ) × (n ≤ length (last_line all.image.seen)) × (said ≡ all.said ++ take n (last_line all.image.seen)))

-- The files at the end: an image that was empty has the empty document's bytes, on the disk, the journal is void, and whatever a
-- crash leaves stands for them. Any other is on the disk as it was read, and so is its journal.
abbrev pub IsMade : (guid was : List ℕ) → (old new : State) → Type 0
IsMade guid [] old new = (known new Image ≡ option_map (λ _. at_rest (empty_image guid)) (known old Image))
    × ForSome (seen_of new Journal) (λ journal. slot_of journal ≡ Void) × ForSome (devices new) (λ all. RestsOn all (empty_image guid))
IsMade guid (b ∷ bytes) old new = AreSynced old new

-- How a creation ends over files that are told: the document is there and its line said, or the image wasn't empty and that
-- was said; a front of the line, where the output failed; and nothing, where a file failed or memory was wanting.
abbrev pub CreateEnds : List ℕ → Devices → (old new : State) → Ended → Type 0
CreateEnds guid all old new Done = (all.image.seen ≡ []) × IsMade guid all.image.seen old new × Says (last_line all.image.seen) old new
CreateEnds guid all old new Refused = (all.image.seen ≢ []) × IsMade guid all.image.seen old new × Says (last_line all.image.seen) old new
CreateEnds guid all old new (Stopped ImageStop) = new.said ≡ old.said
CreateEnds guid all old new (Stopped JournalStop) = new.said ≡ old.said
CreateEnds guid all old new (Stopped Output) = IsMade guid all.image.seen old new × (n : ℕ) × (n ≤ length (last_line all.image.seen)) × Says (take n (last_line all.image.seen)) old new
CreateEnds guid all old new (Stopped Memory) = AreSynced old new × (new.said ≡ old.said)
CreateEnds guid all old new (Stopped Input) = ⊥
CreateEnds guid all old new (Stopped (Script number kind)) = ⊥
CreateEnds guid all old new (Stopped TooLong) = ⊥

-- the same, told by the status
abbrev pub CreateEndsWith : List ℕ → Devices → (old new : State) → ℕ → Type 0
CreateEndsWith guid all old new status = (ended : Ended) × (status ≡ code_of ended) × CreateEnds guid all old new ended
