-- What a stopped creation leaves is refused.
use Rattle.std.proofs.Common.{◌≡◌, ◌⊎◌, inl, inr, ⊎_elim, ℕ, ◌≤◌, List, [], length, refl, sym, ◌∙◌, ap, subst, arith, get_or}
use Rattle.std.proofs.lemmas.Bool.{cases_lt}
use Rattle.czi_rig.specs.Disk.{Disk, Left, IsAtRest, at_rest}
use Rattle.czi_rig.specs.Moments.{Devices}
use Rattle.czi_format.specs.Empty.{empty_document, empty_image}
use Rattle.czi_format.specs.Segment.{file_id}
use Rattle.czi_format.specs.Refusals.{IsRefused, not_czi}
use Rattle.czi_format.proofs.Empties.{is_empty, empty_shows}
use Rattle.czi_format.proofs.NoFront.{short_refused, unmarked_refused}
use Rattle.czi_links.specs.Record.{Record}
use Rattle.czi_links.specs.Reading.{Reading, Void, Holds, OfVersion, BadAt}
use Rattle.czi_journal.specs.Journals.{slot_of, Counts, SaysAsBeforeOrVoid}
use Rattle.czi_journal.proofs.Slots.{slot_of_short, slot_of_void, counted_sound, marked_or_not}
use Rattle.czi_links.proofs.Sound.{IsOfSlot}
use Rattle.czi_vault.specs.Recovered.{Recovered, StandsFor}
use Rattle.czi_opening.specs.Opens.{Cause, of_version, bad_at, too_short, unread, IsRefusedBy, Opens}
use Rattle.czi_rig.proofs.Files.{left_settled}
use Rattle.czi_creation.specs.Creates.{MayRefuse, OpensOrRefused}
use Rattle.czi_creation.specs.Steps.{HasNoFront}

-- what a crash leaves of a file that is on the disk
left_seen : (d : Disk) (left : List ℕ) → IsAtRest d → Left d.durable left → left ≡ d.seen
left_seen d left rest l = left_settled d.seen left (subst (λ e. Left e left) (ap (λ (x : Disk). x.durable) rest) l)

-- a journal that says something counts
counted_when : (journal : List ℕ) → (slot_of journal ≡ Void → ⊥) → Counts journal
counted_when j some = ⊎_elim (λ lt. absurd (some (slot_of_short j lt)))
    (λ long. ⊎_elim (λ mark. record { long = long; mark = mark }) (λ other. absurd (some (slot_of_void j other))) (marked_or_not j))
    (cases_lt (length j) 524352)

-- a record's image isn't empty
least_length : (journal : List ℕ) (r : Record) → slot_of journal ≡ Holds r → 112 ≤ r.committed
least_length j r is =
    let counts = counted_when j (λ void. (let no : Holds r ≡ Void = sym is ∙ void in cc)) in
    (subst IsOfSlot is (counted_sound j counts)).least

void_stands : (image journal : List ℕ) → slot_of journal ≡ Void → Recovered image journal image
void_stands i j void = subst (λ (read : Reading). StandsFor read i i) (sym void) refl

-- an image without a front, beside a void journal
no_front_refused : (guid before image journal : List ℕ) → slot_of journal ≡ Void → IsRefused image not_czi → OpensOrRefused guid before image journal
no_front_refused guid before i j void refused = inr (unread not_czi, record { bytes = i; recovered = void_stands i j void; refused = refused }, refl)

front_refused : (image : List ℕ) → HasNoFront image → IsRefused image not_czi
front_refused i front = ⊎_elim (short_refused i) (unmarked_refused i) front

-- the whole image
pub made_opens : (guid image journal : List ℕ) → length guid ≡ 16 → Recovered image journal (empty_image guid) → Opens image journal (empty_document guid)
made_opens guid i j sixteen is = record { bytes = empty_image guid; recovered = is; shows = empty_shows guid sixteen; idle = (is_empty guid sixteen).idle }

-- while the image is written
pub writing_opens : (guid before image journal : List ℕ) → length guid ≡ 16 → slot_of journal ≡ Void → HasNoFront image ⊎ (image ≡ empty_image guid) → OpensOrRefused guid before image journal
writing_opens guid before i j sixteen void = ⊎_elim
    (λ no. no_front_refused guid before i j void (front_refused i no))
    (λ whole. inl (made_opens guid i j sixteen (subst (λ (bytes : List ℕ). Recovered i j bytes) whole (void_stands i j void))))

-- an empty image beside the journal from before
module _ (guid before journal : List ℕ) (same : slot_of journal ≡ slot_of before) where
  by_reading : (read : Reading) → slot_of before ≡ read → OpensOrRefused guid before [] journal
  by_reading Void is = no_front_refused guid before [] journal (same ∙ is) (short_refused [] (omega arith))
  by_reading (Holds r) is = inr (
    too_short 0 r.committed,
    record { entry = r; holds = same ∙ is; have_is = refl; need_is = refl; fewer = omega (arith, least_length before r is) },
    (r, is, refl),
  )
  by_reading (OfVersion v) is = inr (of_version v, same ∙ is, is)
  by_reading (BadAt place) is = inr (bad_at place, same ∙ is, is)

  pub beside_old : OpensOrRefused guid before [] journal
  beside_old = by_reading (slot_of before) refl

-- while the journal is sealed
pub sealing_opens : (guid : List ℕ) (all : Devices) → all.image ≡ at_rest [] → IsAtRest all.journal → (image journal said : List ℕ)
    → Left all.image.durable image × SaysAsBeforeOrVoid all.journal.durable journal × (said ≡ all.said) → OpensOrRefused guid all.journal.seen image journal × (said ≡ all.said)
sealing_opens guid all empty rest i j o p =
    let none : i ≡ [] = left_seen all.image i (empty ∙ ap at_rest (sym (ap (λ (d : Disk). d.seen) empty))) p.0 ∙ ap (λ (d : Disk). d.seen) empty in
    let was : p.1.old ≡ all.journal.seen = left_seen all.journal p.1.old rest p.1.was in (
      subst (λ (x : List ℕ). OpensOrRefused guid all.journal.seen x j) (sym none)
          (⊎_elim (λ same. beside_old guid all.journal.seen j (same ∙ ap slot_of was))
          (λ void. no_front_refused guid all.journal.seen [] j void (short_refused [] (omega arith))) p.1.same),
      p.2,
    )

-- while the image is written, beside a journal that is void
pub then_writing : (guid bytes : List ℕ) (all : Devices) (disk : Disk) → length guid ≡ 16 → bytes ≡ empty_image guid → IsAtRest disk → slot_of disk.seen ≡ Void → (image journal said : List ℕ)
    → (HasNoFront image ⊎ (image ≡ bytes)) × Left disk.durable journal × (said ≡ all.said) → OpensOrRefused guid all.journal.seen image journal × (said ≡ all.said)
then_writing guid bytes all disk sixteen is rest void i j o p =
    let of_journal : j ≡ disk.seen = left_seen disk j rest p.1 in
    (writing_opens guid all.journal.seen i j sixteen (ap slot_of of_journal ∙ void) (⊎_elim (λ front. inl front) (λ whole. inr (whole ∙ is)) p.0), p.2)

-- the image begins with a Z
pub first_is_z : (guid : List ℕ) → get_or (empty_image guid) 0 0 ≡ 0x5A
unfolding empty_image file_id
first_is_z guid = refl
