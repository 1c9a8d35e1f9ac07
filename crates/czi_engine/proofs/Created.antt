-- What creating a document leaves.
use Rattle.std.proofs.Common.{◌≡◌, inl, inr, ℕ, ◌≤◌, Option, Some, None, Bool, true, List, [], ◌∷◌, Result, Ok, Err, false, refl, sym, ◌∙◌, ap, subst}
use Rattle.std.specs.Prelude.{option_map}
use Rattle.std.specs.Option.{ForSome}
use Rattle.std.proofs.lemmas.Option.{same_Some}
use Rattle.czi_creation.specs.Creates.{OpensOrRefused}
use Rattle.czi_creation.specs.Steps.{AreSynced, IsDevice}
use Rattle.czi_creation.specs.Devices.{creation_device}
use Rattle.czi_creation.specs.declared.creating.CreationFault.{CreationFault}
use Rattle.czi_creation.specs.declared.creating.CreationFault.TheVariants as creation
use Rattle.czi_creation.proofs.Refusing.{sealing_opens}
use Rattle.czi_rig.specs.declared.rig.Rig.{Ghosts}
use Rattle.czi_rig.specs.declared.file.File.TheVariants.{Image, Journal}
use Rattle.czi_rig.specs.Disk.{Disk, Everywhere, IsAtRest, Left, at_rest}
use Rattle.czi_rig.specs.State.{State, known, seen_of}
use Rattle.czi_rig.specs.Moments.{Devices, devices, FromSomeMoment, LeavesNow, LeavesNothingNew, OnlyNow, Throughout}
use Rattle.czi_rig.specs.Quiet.{AddsNothing}
use Rattle.czi_rig.proofs.Files.{everywhere_at_rest, left_settled}
use Rattle.czi_rig.proofs.Known.{came_from, is_honest, known_file, known_seen}
use Rattle.czi_image.specs.Holds.{Indexes}
use Rattle.czi_journal.specs.Journals.{slot_of}
use Rattle.czi_journal.specs.declared.journal.Slot.{Slot}
use Rattle.czi_links.specs.Reading.{Reading, Void}
use Rattle.czi_vault.specs.Recovered.{Recovered, StandsFor}
use Rattle.czi_opening.specs.declared.opening.Opened.{Opened}
use Rattle.czi_opening.specs.Answers.{IsJournal, StandsSo}
use Rattle.czi_engine.specs.Rests.{RestsOn}
use Rattle.czi_engine.specs.Standing.{IsOf, IsOpened, StandsOnRig}
use Rattle.czi_engine.specs.declared.engine.EngineState.{EngineState}
use Rattle.czi_engine.proofs.Fresh.{begins, opened_fresh}
use Rattle.czi_rig.proofs.Runs.{started, weaker}
use Rattle.czi_opening.proofs.Restoring.{synced_devices}
use Rattle.czi_opening.proofs.Standing.{both_rest, from_synced}
use Rattle.czi_engine.specs.Creating.{Creates, CreatesFrom, CreatesIn, KeepsBoth, create_device, create_error}

-- of files that are on the disk a crash leaves what was read
rest_kept : (all : Devices) (image journal said : List ℕ) → LeavesNow (both_rest all) image journal said → KeepsBoth all image journal said
rest_kept all i j o l = (left_settled all.image.seen i l.image_is, left_settled all.journal.seen j l.journal_is, l.said_is)

-- an empty image
in_empty : (guid : List ℕ) (all : Devices) → all.image.seen ≡ [] → (image journal said : List ℕ) → OpensOrRefused guid all.journal.seen image journal × (said ≡ all.said) → Creates guid all image journal said
in_empty guid all none i j o p = (subst (λ (x : List ℕ). CreatesIn guid x all.journal.seen i j) (sym none) p.0, p.1)

empty_kept : (guid : List ℕ) (all : Devices) → all.image.seen ≡ [] → (image journal said : List ℕ) → LeavesNow (both_rest all) image journal said → Creates guid all image journal said
empty_kept guid all none i j o l = in_empty guid all none i j o
    (sealing_opens guid (both_rest all) (ap at_rest none) refl i j o (l.image_is, record { old = j; was = l.journal_is; same = inl refl }, l.said_is))

module _ {D : Type 0} (rig : Ghosts D) (only : OnlyNow rig) (old mid : D) (all : Devices) (is : devices (rig.state old) ≡ Some all)
    (adds : AddsNothing rig old mid) (later : (rig.state old).moment ≤ (rig.state mid).moment) (said : (rig.state mid).said ≡ (rig.state old).said) where
  now_synced : AreSynced (rig.state old) (rig.state mid) → devices (rig.state mid) ≡ Some (both_rest all)
  now_synced synced = synced_devices (rig.state old) (rig.state mid) all is synced.image synced.journal said

  -- nothing was written
  pub keeps_from : AreSynced (rig.state old) (rig.state mid) → FromSomeMoment rig old mid (KeepsBoth all)
  keeps_from synced = from_synced rig old mid mid all (KeepsBoth all) only is adds later (now_synced synced) (rest_kept all) (started rig mid (KeepsBoth all))

  -- the document was made, or a device failed
  pub creates_from : (new : D) (guid : List ℕ) → AreSynced (rig.state old) (rig.state mid) → all.image.seen ≡ []
      → ForSome (devices (rig.state mid)) (λ then. Throughout rig mid new (λ image journal said. OpensOrRefused guid then.journal.seen image journal × (said ≡ then.said))) → FromSomeMoment rig old new (Creates guid all)
  creates_from new guid synced none made =
      let now = now_synced synced in
      from_synced rig old mid new all (Creates guid all) only is adds later now (empty_kept guid all none) (weaker rig (in_empty guid all none) (made (both_rest all) now))

  -- the first step refused, or a device failed in it
  pub begin_moments : (T : Type 0) (guid : List ℕ) (fault : CreationFault) → (creation_device fault ≡ None → AreSynced (rig.state old) (rig.state mid)) → CreatesFrom {T = T} rig old mid guid all (Err (create_error fault))
  begin_moments T guid (creation.NotEmpty length) synced = keeps_from (synced refl)
  begin_moments T guid creation.Image synced = inl (record { later = later; each = λ t i j o le left. inl (adds (is_honest (rig.state old) all is) t i j o le left) })
  begin_moments T guid creation.Journal synced = inl (record { later = later; each = λ t i j o le left. inl (adds (is_honest (rig.state old) all is) t i j o le left) })

-- a device failed in the last step
pub make_moments : (T : Type 0) {D : Type 0} (rig : Ghosts D) (old new : D) (all : Devices) (guid : List ℕ) (fault : CreationFault) → IsDevice fault → FromSomeMoment rig old new (Creates guid all)
    → CreatesFrom {T = T} rig old new guid all (Err (create_error fault))
make_moments T rig old new all guid (creation.NotEmpty length) device from = absurd device
make_moments T rig old new all guid creation.Image device from = inr from
make_moments T rig old new all guid creation.Journal device from = inr from

seen_is : (o : Option Disk) (x bytes : List ℕ) → ForSome o (λ (d : Disk). d ≡ at_rest bytes) → option_map (λ (d : Disk). d.seen) o ≡ Some x → x ≡ bytes
seen_is None x bytes all is = cc
seen_is (Some d) x bytes all is = sym (same_Some d.seen x is) ∙ ap (λ (e : Disk). e.seen) (all d refl)

-- a journal that isn't armed is void
unarmed : (armed : Bool) (s : Slot) (journal : List ℕ) → armed ≡ false → slot_of journal ≡ Void → StandsSo armed s journal
unarmed true s journal off void = cc
unarmed false s journal off void = void

-- what is left of a document that was made, beside a void journal
module _ (s : State) (bytes : List ℕ) (made : ForSome (known s Image) (λ (d : Disk). d ≡ at_rest bytes)) (void : ForSome (seen_of s Journal) (λ journal. slot_of journal ≡ Void))
    (rest : ForSome (known s Journal) IsAtRest) where
  is_itself : (image journal : List ℕ) → slot_of journal ≡ Void → Recovered image journal image
  is_itself image journal is = subst (λ (read : Reading). StandsFor read image image) (sym is) refl

  pub made_rests : ForSome (devices s) (λ all. RestsOn all bytes)
  made_rests all is =
      let image = made all.image (known_file s Image all is) in
      let nothing = void all.journal.seen (known_seen s Journal all is) in
      record {
        image = image;
        recovers = λ i j o l.
            let of_image : i ≡ bytes = left_settled bytes i (subst (λ (d : Disk). Left d.durable i) image l.image_is) in
            let of_journal : j ≡ all.journal.seen = left_settled all.journal.seen j (subst (λ e. Left e j) (ap (λ (x : Disk). x.durable) (rest all.journal (known_file s Journal all is))) l.journal_is) in
            subst (λ (x : List ℕ). Recovered i j x) of_image (is_itself i j (ap slot_of of_journal ∙ nothing));
      }

  module _ (o : Opened) (x : EngineState) (of : IsOf o x) (indexes : Indexes bytes o.index) (off : o.journal.armed ≡ false) where
    shown : ForSome (seen_of s Image) (λ image. Indexes image o.index)
    shown = λ image is. subst (λ (b : List ℕ). Indexes b o.index) (sym (seen_is (known s Image) image bytes made is)) indexes

    pub made_stands : StandsOnRig s x
    made_stands = begins s o x of shown
        (λ disk is. subst (Everywhere (IsJournal o.journal)) (sym (rest disk is))
        (everywhere_at_rest (IsJournal o.journal) disk.seen (unarmed o.journal.armed o.journal.selected disk.seen off (void disk.seen (ap (option_map (λ (d : Disk). d.seen)) is)))))
        ((λ disk is. made disk is ∙ ap at_rest (sym (ap (λ (d : Disk). d.seen) (made disk is)))), rest)
        (λ all is. is_itself all.image.seen all.journal.seen (void all.journal.seen (known_seen s Journal all is)))

    pub made_fresh : IsOpened s x
    made_fresh = opened_fresh s o x of shown

-- a file that was made so, whatever it was
pub made_so : (old new : State) (bytes : List ℕ) → known new Image ≡ option_map (λ (d : Disk). at_rest bytes) (known old Image) → ForSome (known new Image) (λ (d : Disk). d ≡ at_rest bytes)
made_so old new bytes is disk now = (came_from (known old Image) (known new Image) (λ (d : Disk). at_rest bytes) disk is now).is

-- the error tells the device of the fault
pub same_device : (fault : CreationFault) → creation_device fault ≡ create_device (create_error fault)
same_device (creation.NotEmpty length) = refl
same_device creation.Image = refl
same_device creation.Journal = refl
