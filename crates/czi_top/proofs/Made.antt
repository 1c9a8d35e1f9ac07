-- What creating a document says and leaves.
use Rattle.std.proofs.Common.{◌≡◌, ◌≢◌, ◌⊎◌, inl, inr, ⊎_elim, ℕ, ◌≤◌, ◌<◌, List, [], ◌∷◌, ◌++◌, length, take, Option, Some, refl, sym, ap, ◌∙◌, subst, arith}
use Rattle.std.specs.Prelude.{option_map}
use Rattle.std.specs.Option.{ForSome}
use Rattle.czi_format.specs.Empty.{empty_image}
use Rattle.czi_rig.specs.declared.rig.Rig.{Ghosts}
use Rattle.czi_rig.specs.declared.file.File.TheVariants as file
use Rattle.czi_rig.specs.Disk.{Disk, Left, at_rest}
use Rattle.czi_rig.specs.Faults.{Faults}
use Rattle.czi_rig.specs.Moments.{Devices, LeavesSaying, Throughout, all_of, devices, FromSomeMoment}
use Rattle.czi_rig.specs.Passes.{GoesOn}
use Rattle.czi_rig.specs.State.{SameFiles, State, known, seen_of}
use Rattle.czi_rig.proofs.Files.{left_settled}
use Rattle.czi_rig.proofs.Known.{known_file, known_said, told_after}
use Rattle.czi_rig.proofs.Runs.{weaker}
use Rattle.czi_journal.specs.Journals.{slot_of}
use Rattle.czi_links.specs.Reading.{Void}
use Rattle.czi_creation.specs.Creates.{OpensOrRefused}
use Rattle.czi_creation.specs.Steps.{AreSynced}
use Rattle.czi_creation.proofs.Refusing.{beside_old, made_opens}
use Rattle.czi_opening.proofs.Restoring.{synced_devices}
use Rattle.czi_opening.proofs.Standing.{both_rest}
use Rattle.czi_engine.specs.Creating.{Creates, CreatesIn, KeepsBoth}
use Rattle.czi_engine.specs.Rests.{RestsOn}
use Rattle.czi_report.specs.Refusals.{not_empty_text}
use Rattle.czi_session.specs.declared.stop.Ended.{Ended}
use Rattle.czi_session.specs.declared.stop.Ended.TheVariants.{Done, Refused, Stopped}
use Rattle.czi_session.specs.declared.stop.Stop.TheVariants.{Script, Image, Journal, Output, Input, Memory, TooLong}
use Rattle.czi_session.specs.Ends.{Answers, Quiet}
use Rattle.czi_session.specs.Stops.{end_device}
use Rattle.czi_session.proofs.Ending.{from_more, from_weaker}
use Rattle.czi_top.specs.Creates.{CreateEnds, CreatesSaying, IsMade, IsMadeOf, created, last_line, wanted}
use Rattle.czi_top.specs.Run.{Says}

-- an image that isn't empty
pub other_wanted : (was : List ℕ) → 0 < length was → wanted was ≡ Refused
other_wanted [] some = absurd (omega (arith, some))
other_wanted (b ∷ bytes) some = refl

pub other_line : (was : List ℕ) → 0 < length was → last_line was ≡ not_empty_text (length was)
other_line [] some = absurd (omega (arith, some))
other_line (b ∷ bytes) some = refl

pub other_made : (guid was : List ℕ) (old new : State) → 0 < length was → AreSynced old new → IsMade guid was old new
other_made guid [] old new some synced = absurd (omega (arith, some))
other_made guid (b ∷ bytes) old new some synced = synced

pub not_nothing : (was : List ℕ) → 0 < length was → was ≢ []
not_nothing was some none = omega (arith, some, ap length none)

other_of : (guid was before image journal : List ℕ) → 0 < length was → image ≡ was → journal ≡ before → IsMadeOf guid was before image journal
other_of guid [] before i j some same beside = absurd (omega (arith, some))
other_of guid (b ∷ bytes) before i j some same beside = (same, beside)

-- nothing was written: an empty image is refused beside the journal from before
kept_in : (guid was before image journal : List ℕ) → image ≡ was → journal ≡ before → CreatesIn guid was before image journal
kept_in guid [] before i j same beside = subst (λ (x : List ℕ). OpensOrRefused guid before x j) (sym same) (beside_old guid before j (ap slot_of beside))
kept_in guid (b ∷ bytes) before i j same beside = (same, beside)

pub kept_creates : (guid : List ℕ) (all : Devices) (image journal said : List ℕ) → KeepsBoth all image journal said → CreatesSaying guid all image journal said
kept_creates guid all i j o keeps = inl (kept_in guid all.image.seen all.journal.seen i j keeps.0 keeps.1, keeps.2)

-- the last line is said over the files at the end
module _ {D : Type 0} (rig : Ghosts D) (guid : List ℕ) (all now : Devices) (old mid new : D) (line : List ℕ) (is : line ≡ last_line all.image.seen) (silent : now.said ≡ all.said)
    (made : (image journal : List ℕ) → Left now.image.durable image → Left now.journal.durable journal → IsMadeOf guid all.image.seen all.journal.seen image journal)
    (says : Throughout rig mid new (LeavesSaying now line)) where
  saying : (image journal said : List ℕ) → LeavesSaying now line image journal said → CreatesSaying guid all image journal said
  saying i j o l = inr (
    made i j l.2.image_is l.2.journal_is,
    l.0,
    subst (λ (x : List ℕ). l.0 ≤ length x) is l.1,
    l.2.said_is ∙ (λ k. silent k ++ take l.0 (is k)),
  )

  pub creates_saying : FromSomeMoment rig old mid (CreatesSaying guid all) → FromSomeMoment rig old new (CreatesSaying guid all)
  creates_saying from = from_more rig from (weaker rig saying says)

-- what a crash leaves of the document that was made, and of another image
pub made_leaves : (guid : List ℕ) (all now : Devices) → length guid ≡ 16 → all.image.seen ≡ [] → RestsOn now (empty_image guid)
    → (image journal : List ℕ) → Left now.image.durable image → Left now.journal.durable journal → IsMadeOf guid all.image.seen all.journal.seen image journal
made_leaves guid all now sixteen none rests i j of_image of_journal = subst (λ (x : List ℕ). IsMadeOf guid x all.journal.seen i j) (sym none)
    (made_opens guid i j sixteen (rests.recovers i j now.said (record { image_is = of_image; journal_is = of_journal; said_is = refl })))

pub other_leaves : (guid : List ℕ) (all now : Devices) → 0 < length all.image.seen → now.image ≡ at_rest all.image.seen → now.journal ≡ at_rest all.journal.seen
    → (image journal : List ℕ) → Left now.image.durable image → Left now.journal.durable journal → IsMadeOf guid all.image.seen all.journal.seen image journal
other_leaves guid all now some image_rests journal_rests i j of_image of_journal = other_of guid all.image.seen all.journal.seen i j some
    (left_settled all.image.seen i (subst (λ (d : Disk). Left d.durable i) image_rests of_image))
    (left_settled all.journal.seen j (subst (λ (d : Disk). Left d.durable j) journal_rests of_journal))

-- a line was said, or a front of it where the output failed, over files that stay as they are
abbrev pub EndsSaying : (line : List ℕ) → (old new : State) → (wanted ended : Ended) → Type 0
EndsSaying line old new wanted ended = ((ended ≡ wanted) × Says line old new) ⊎ ((ended ≡ Stopped Output) × (n : ℕ) × (n ≤ length line) × Says (take n line) old new)

says_then : (old mid new : State) (line : List ℕ) → mid.said ≡ old.said → Says line mid new → Says line old new
says_then old mid new line silent says = says ∙ ap (option_map (λ (said : List ℕ). said ++ line)) silent

-- what is there then
module _ (guid : List ℕ) (all : Devices) (old mid new : State) (silent : mid.said ≡ old.said) (made : IsMade guid all.image.seen old new) where
  created_ends : all.image.seen ≡ [] → (ended : Ended) → EndsSaying created mid new Done ended → CreateEnds guid all old new ended
  created_ends none ended says = ⊎_elim
      (λ done. subst (λ (e : Ended). CreateEnds guid all old new e) (sym done.0) (none, made, says_then old mid new (last_line all.image.seen) silent (subst (λ (l : List ℕ). Says l mid new) (sym line_is) done.1)))
      (λ cut. subst (λ (e : Ended). CreateEnds guid all old new e) (sym cut.0)
      (made, cut.1, subst (λ (l : List ℕ). cut.1 ≤ length l) (sym line_is) cut.2, says_then old mid new (take cut.1 (last_line all.image.seen)) silent (subst (λ (l : List ℕ). Says (take cut.1 l) mid new) (sym line_is) cut.3)))
      says
    where
      line_is : last_line all.image.seen ≡ created
      line_is = ap last_line none

  refused_ends : 0 < length all.image.seen → (ended : Ended) → EndsSaying (not_empty_text (length all.image.seen)) mid new Refused ended → CreateEnds guid all old new ended
  refused_ends some ended says = ⊎_elim
      (λ done. subst (λ (e : Ended). CreateEnds guid all old new e) (sym done.0) (not_nothing all.image.seen some, made, says_then old mid new (last_line all.image.seen) silent (subst (λ (l : List ℕ). Says l mid new) (sym line_is) done.1)))
      (λ cut. subst (λ (e : Ended). CreateEnds guid all old new e) (sym cut.0)
      (made, cut.1, subst (λ (l : List ℕ). cut.1 ≤ length l) (sym line_is) cut.2, says_then old mid new (take cut.1 (last_line all.image.seen)) silent (subst (λ (l : List ℕ). Says (take cut.1 l) mid new) (sym line_is) cut.3)))
      says
    where
      line_is : last_line all.image.seen ≡ not_empty_text (length all.image.seen)
      line_is = other_line all.image.seen some

-- saying leaves the files as they are
synced_then : (old mid new : State) → SameFiles mid new → AreSynced old mid → AreSynced old new
synced_then old mid new same synced = record { image = same.image ∙ synced.image; journal = same.journal ∙ synced.journal }

rests_then : (mid new : State) (now x : Devices) (bytes : List ℕ) → SameFiles mid new → devices mid ≡ Some now → devices new ≡ Some x → RestsOn now bytes → RestsOn x bytes
rests_then mid new now x bytes same before after rests =
    let image : x.image ≡ now.image = cc (sym (known_file new file.Image x after) ∙ same.image ∙ known_file mid file.Image now before) in
    let journal : x.journal ≡ now.journal = cc (sym (known_file new file.Journal x after) ∙ same.journal ∙ known_file mid file.Journal now before) in
    record {
      image = image ∙ rests.image;
      recovers = λ i j o l. rests.recovers i j now.said (record {
        image_is = subst (λ (d : Disk). Left d.durable i) image l.image_is;
        journal_is = subst (λ (d : Disk). Left d.durable j) journal l.journal_is;
        said_is = refl;
      });
    }

-- The document was made, and all is known of it.
module _ (guid : List ℕ) (all : Devices) (old mid : State) (is : devices old ≡ Some all) (goes : GoesOn old mid) (made : known mid file.Image ≡ option_map (λ (d : Disk). at_rest (empty_image guid)) (known old file.Image)) (silent : mid.said ≡ old.said) where
  abbrev journal_then : (d : Disk) × (known mid file.Journal ≡ Some d)
  journal_then = told_after old mid file.Journal all.journal goes (known_file old file.Journal all is)

  abbrev pub made_now : Devices
  made_now = record { image = at_rest (empty_image guid); journal = journal_then.0; said = all.said }

  made_known : devices mid ≡ Some made_now
  made_known = λ k. all_of (image_is k) (journal_then.1 k) (said_is k)
    where
      image_is : known mid file.Image ≡ Some (at_rest (empty_image guid))
      image_is = made ∙ ap (option_map (λ (d : Disk). at_rest (empty_image guid))) (known_file old file.Image all is)

      said_is : mid.said ≡ Some all.said
      said_is = silent ∙ known_said old all is

  module _ (rests : ForSome (devices mid) (λ now. RestsOn now (empty_image guid))) (void : ForSome (seen_of mid file.Journal) (λ journal. slot_of journal ≡ Void)) where
    made_then : (new : State) → SameFiles mid new → all.image.seen ≡ [] → IsMade guid all.image.seen old new
    made_then new same none = subst (λ (was : List ℕ). IsMade guid was old new) (sym none) (
      same.image ∙ made,
      subst (λ (o : Option (List ℕ)). ForSome o (λ journal. slot_of journal ≡ Void)) (sym (ap (option_map (λ (d : Disk). d.seen)) same.journal)) void,
      (λ x after. rests_then mid new made_now x (empty_image guid) same made_known after (rests made_now made_known)),
    )

    pub done_ends : (new : State) (ended : Ended) → SameFiles mid new → all.image.seen ≡ [] → EndsSaying created mid new Done ended → CreateEnds guid all old new ended
    done_ends new ended same none says = created_ends guid all old mid new silent (made_then new same none) none ended says

-- what a crash leaves while that is said
pub done_moments : {D : Type 0} (rig : Ghosts D) (guid : List ℕ) (all : Devices) (old mid new : D) → length guid ≡ 16 → devices (rig.state old) ≡ Some all → GoesOn (rig.state old) (rig.state mid)
    → known (rig.state mid) file.Image ≡ option_map (λ (d : Disk). at_rest (empty_image guid)) (known (rig.state old) file.Image) → (rig.state mid).said ≡ (rig.state old).said
    → ForSome (devices (rig.state mid)) (λ now. RestsOn now (empty_image guid)) → all.image.seen ≡ [] → FromSomeMoment rig old mid (Creates guid all)
    → ForSome (devices (rig.state mid)) (λ now. Throughout rig mid new (LeavesSaying now created)) → FromSomeMoment rig old new (CreatesSaying guid all)
done_moments rig guid all old mid new sixteen is goes made silent rests none from says =
    let now = made_now guid all (rig.state old) (rig.state mid) is goes made silent in
    let here = made_known guid all (rig.state old) (rig.state mid) is goes made silent in
    creates_saying rig guid all now old mid new created (sym (ap last_line none)) refl (made_leaves guid all now sixteen none (rests now here)) (says now here)
    (from_weaker rig (λ i j o p. inl p) from)

-- the image isn't empty
module _ (guid : List ℕ) (all : Devices) (found : ℕ) (told : found ≡ length all.image.seen) (some : 0 < found) where
  is_some : 0 < length all.image.seen
  is_some = subst (λ (n : ℕ). 0 < n) told some

  pub refuse_ends : (old mid new : State) (ended : Ended) → mid.said ≡ old.said → AreSynced old mid → SameFiles mid new
      → ((ended ≡ Refused) × Says (not_empty_text found) mid new)
      ⊎ ((ended ≡ Stopped Output) × (n : ℕ) × (n ≤ length (not_empty_text found)) × Says (take n (not_empty_text found)) mid new)
      ⊎ ((ended ≡ Stopped Memory) × (new.said ≡ mid.said)) → CreateEnds guid all old new ended
  refuse_ends old mid new ended silent synced same says = ⊎_elim (λ whole. by_line (inl whole)) (λ rest. ⊎_elim (λ cut. by_line (inr cut)) by_memory rest) says
    where
      after : AreSynced old new
      after = synced_then old mid new same synced

      by_line : EndsSaying (not_empty_text found) mid new Refused ended → CreateEnds guid all old new ended
      by_line line = refused_ends guid all old mid new silent (other_made guid all.image.seen old new is_some after) is_some ended (subst (λ (n : ℕ). EndsSaying (not_empty_text n) mid new Refused ended) told line)

      by_memory : (ended ≡ Stopped Memory) × (new.said ≡ mid.said) → CreateEnds guid all old new ended
      by_memory memory = subst (λ (e : Ended). CreateEnds guid all old new e) (sym memory.0) (after, memory.1 ∙ silent)

  pub refuse_moments : {D : Type 0} (rig : Ghosts D) (old mid new : D) → devices (rig.state old) ≡ Some all → AreSynced (rig.state old) (rig.state mid) → (rig.state mid).said ≡ (rig.state old).said
      → FromSomeMoment rig old mid (KeepsBoth all) → ForSome (devices (rig.state mid)) (λ now. Throughout rig mid new (LeavesSaying now (not_empty_text found))) → FromSomeMoment rig old new (CreatesSaying guid all)
  refuse_moments rig old mid new is synced silent from says =
      let here = synced_devices (rig.state old) (rig.state mid) all is synced.image synced.journal silent in
      creates_saying rig guid all (both_rest all) old mid new (not_empty_text found) (ap not_empty_text told ∙ sym (other_line all.image.seen is_some)) refl
      (other_leaves guid all (both_rest all) is_some refl refl) (says (both_rest all) here) (from_weaker rig (kept_creates guid all) from)

-- no fault came: it was made, or refused, or memory was wanting
pub create_answers : (guid : List ℕ) (all : Devices) (old new : State) (ended : Ended) → CreateEnds guid all old new ended → Faults (end_device ended) old new → Quiet old new 0 0 → Answers (wanted all.image.seen) ended
create_answers guid all old new Done ends cause quiet = inl (sym (ap wanted ends.0))
create_answers guid all old new Refused ends cause quiet = inl (sym (refused all.image.seen ends.0))
  where
    refused : (was : List ℕ) → was ≢ [] → wanted was ≡ Refused
    refused [] some = absurd (some refl)
    refused (b ∷ bytes) some = refl
create_answers guid all old new (Stopped Image) ends cause quiet = absurd (quiet.image cause.image_count)
create_answers guid all old new (Stopped Journal) ends cause quiet = absurd (quiet.journal cause.journal_count)
create_answers guid all old new (Stopped Output) ends cause quiet = absurd (quiet.output cause.output_count)
create_answers guid all old new (Stopped Memory) ends cause quiet = inr refl
create_answers guid all old new (Stopped Input) ends cause quiet = absurd ends
create_answers guid all old new (Stopped (Script number kind)) ends cause quiet = absurd ends
create_answers guid all old new (Stopped TooLong) ends cause quiet = absurd ends
