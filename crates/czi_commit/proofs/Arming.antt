-- What the files stand for while a journal is armed.
use Rattle.std.proofs.Common.{◌≡◌, ⊎_elim, inr, ℕ, ◌≤◌, Bool, true, false, Option, None, Some, List, [], ◌∷◌, length, take, drop, get_or, IsTrue, refl, sym, ◌∙◌, ap, subst, arith}
use Rattle.std.specs.Prelude.{option_map}
use Rattle.std.specs.Option.{ForSome}
use Rattle.std.proofs.lemmas.Option.{same_Some}
use Rattle.std.proofs.lemmas.List.{ext_get_or, take_all}
use Rattle.czi_rig.specs.Disk.{Disk, Left, Covers, IsAtRest, SameOutside, overwritten}
use Rattle.czi_rig.specs.Moments.{Devices}
use Rattle.czi_rig.proofs.Files.{left_settled, length-overwritten, overwritten_at, overwritten_same}
use Rattle.czi_links.specs.declared.head.SlotHead.{SlotHead}
use Rattle.czi_links.specs.Record.{record_of}
use Rattle.czi_links.specs.Reading.{Reading, Void}
use Rattle.czi_journal.specs.declared.journal.Slot.{Slot}
use Rattle.czi_journal.specs.Journals.{slot_of, CountsWith, IsVoidOr}
use Rattle.czi_journal.proofs.Slots.{number_or_not}
use Rattle.czi_vault.specs.Alone.{Alone, HasBytes, HasBytesBut100, KeepsNow}
use Rattle.czi_vault.specs.Recovered.{View, Stands, StandsNow, StandsFor, Makes, applied}
use Rattle.czi_opening.specs.Answers.{StandsSo}
use Rattle.czi_commit.proofs.Standing.{KeepsStill}
use Rattle.czi_commit.specs.Ready.{IsReady}

pub armed_counts : (armed : Bool) (s : Slot) (journal : List ℕ) → IsTrue armed → StandsSo armed s journal → CountsWith s journal
armed_counts true s journal is stands = stands
armed_counts false s journal is stands = cc

pub counts_armed : (armed : Bool) (s : Slot) (journal : List ℕ) → IsTrue armed → CountsWith s journal → StandsSo armed s journal
counts_armed true s journal is counts = counts
counts_armed false s journal is counts = cc

pub unarmed_void : (armed : Bool) (s : Slot) (journal : List ℕ) → armed ≡ false → StandsSo armed s journal → slot_of journal ≡ Void
unarmed_void true s journal is stands = cc
unarmed_void false s journal is stands = stands

-- what is known of a file, of its content
pub seen_has : (P : List ℕ → Type 0) (o : Option Disk) → ForSome o (λ (d : Disk). P d.seen) → ForSome (option_map (λ (d : Disk). d.seen) o) P
seen_has P None h x is = cc
seen_has P (Some d) h x is = subst P (same_Some d.seen x is) (h d refl)

zero_over : (x : List ℕ) → 112 ≤ length x → get_or x 100 0 ≡ 0 → overwritten 100 (0 ∷ []) x ≡ x
zero_over x long zero = ext_get_or 0 (overwritten 100 (0 ∷ []) x) x (length-overwritten 100 (0 ∷ []) x (omega (arith, long)))
    (λ k lt. ⊎_elim (λ e. at k e) (λ not. (overwritten_same 100 (0 ∷ []) x (omega (arith, long))).each k (λ p. not (omega (arith, p.0, p.1)))) (number_or_not k 100))
  where
    at : (k : ℕ) → k ≡ 100 → get_or (overwritten 100 (0 ∷ []) x) k 0 ≡ get_or x k 0
    at k e = ap (λ (m : ℕ). get_or (overwritten 100 (0 ∷ []) x) m 0) e ∙ overwritten_at 100 (0 ∷ []) x 0 (omega (arith, long)) (omega arith) ∙ sym (ap (λ (m : ℕ). get_or x m 0) e ∙ zero)

-- an image, cut to its own length, with no links over it
pub applied_none : (file : SlotHead) (x : List ℕ) → length x ≡ file.length → 112 ≤ file.length → get_or x 100 0 ≡ 0 → applied (record_of file []) x ≡ x
applied_none file x len long zero = ap (overwritten 100 (0 ∷ [])) (take_all file.length x (omega (arith, len))) ∙ zero_over x (omega (arith, len, long)) zero

module _ (all : Devices) (file : SlotHead) (least : 112 ≤ file.length) (ready : IsReady file all.image) (view : View) (keeps : KeepsNow view all)
    (reads_i : Left all.image.durable all.image.seen) (reads_j : Left all.journal.durable all.journal.seen) (void : slot_of all.journal.seen ≡ Void) where
  agrees : SameOutside (Covers view.holes) view.bytes all.image.seen
  agrees =
      let s : Stands view all.image.seen all.journal.seen = (keeps all.image.seen all.journal.seen all.said (record { image_is = reads_i; journal_is = reads_j; said_is = refl })).0 in
      let e : s.bytes ≡ all.image.seen = subst (λ (read : Reading). StandsFor read all.image.seen s.bytes) void s.recovered in
      subst (SameOutside (Covers view.holes) view.bytes) e s.agrees

  makes_itself : Makes (record_of file []) all.image.seen all.image.seen
  makes_itself = record { long = omega (arith, ready.long); guid = ready.guid; is = sym (applied_none file all.image.seen ready.long least ready.ready) }

  armed_stands : (journal : List ℕ) → IsVoidOr (record_of file []) journal → Stands view all.image.seen journal
  armed_stands j = ⊎_elim
      (λ v. record { bytes = all.image.seen; recovered = subst (λ (read : Reading). StandsFor read all.image.seen all.image.seen) (sym v) refl; agrees = agrees })
      (λ h. record { bytes = all.image.seen; recovered = subst (λ (read : Reading). StandsFor read all.image.seen all.image.seen) (sym h) makes_itself; agrees = agrees })

  pub while_armed : (image journal said : List ℕ) → Left all.image.durable image × IsVoidOr (record_of file []) journal × (said ≡ all.said) → KeepsStill view all.said image journal said
  while_armed i j o p = (
    (
      subst (λ (x : List ℕ). Stands view x j) (sym (left_settled all.image.seen i (subst (λ d. Left d i) (ap (λ (d : Disk). d.durable) ready.rest) p.0))) (armed_stands j p.1),
      (keeps i all.journal.seen o (record { image_is = p.0; journal_is = reads_j; said_is = p.2 })).1,
    ),
    p.2,
  )

pub is_ready : (file : SlotHead) (image : Disk) → IsAtRest image → length image.seen ≡ file.length → take 16 (drop 64 image.seen) ≡ file.guid → get_or image.seen 100 0 ≡ 0 → IsReady file image
is_ready file image rest long guid ready = record { rest = rest; long = long; guid = guid; ready = ready }

-- an image that is on the disk and has the view's bytes keeps it
pub begins_keeping : (all : Devices) (view : View) → IsAtRest all.image → StandsNow view all → HasBytes view all.image.seen → KeepsNow view all
begins_keeping all view rest stands has i j o l = (
  stands i j o l,
  inr (subst (HasBytes view) (sym (left_settled all.image.seen i (subst (λ d. Left d i) (ap (λ (d : Disk). d.durable) rest) l.image_is))) has),
)

-- read alone it has them, where its byte 100 is 0
pub has_alone : (view : View) (image : List ℕ) → Alone view image → get_or image 100 0 ≡ 0 → HasBytesBut100 view image
has_alone view image alone zero = ⊎_elim (λ pending. absurd (pending zero)) (λ has. record { long = has.long; each = λ k lt out not. has.each k lt out }) alone
