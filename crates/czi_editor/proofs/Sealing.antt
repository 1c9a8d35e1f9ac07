-- Sealing an engine, as a session takes it.
use Rattle.std.proofs.Common.{◌≡◌, inl, inr, ⊎_elim, ℕ, List, length, Some, refl, sym, subst, ◌∙◌, arith}
use Rattle.std.specs.Option.{ForSome}
use Rattle.std.proofs.lemmas.Bool.{cases_lt}
use Rattle.czi_rig.specs.declared.rig.Rig.{Ghosts}
use Rattle.czi_rig.specs.declared.file.File.TheVariants.{Journal}
use Rattle.czi_rig.specs.Disk.{Everywhere, Left}
use Rattle.czi_rig.specs.State.{LeavesOther, known}
use Rattle.czi_rig.specs.Passes.{GoesOn}
use Rattle.czi_rig.specs.Moments.{Devices, devices, CountsNow, LeavesNow, OnlyNow, Throughout, with_file}
use Rattle.czi_rig.specs.Spans.{EachTwo}
use Rattle.czi_rig.proofs.Known.{is_honest, known_file, leaves_now, may_leave, still_known}
use Rattle.czi_rig.proofs.Runs.{weaker}
use Rattle.czi_rig.proofs.Spans.{during, each_two}
use Rattle.czi_journal.specs.Journals.{Counts, SaysAsBeforeOrVoid, slot_of}
use Rattle.czi_journal.proofs.Slots.{counted_sound, marked_or_not, slot_of_short, slot_of_void}
use Rattle.czi_links.proofs.Sound.{IsOfSlot}
use Rattle.czi_links.specs.Reading.{Void}
use Rattle.czi_opening.proofs.Standing.{closing_stands}
use Rattle.czi_session.specs.Course.{Sealed, Sealing, Stands}
use Rattle.czi_vault.specs.Recovered.{Recovered}
use Rattle.czi_engine.specs.Editing.{Alike}
use Rattle.czi_engine.specs.declared.engine.Engine.{Engine}
use Rattle.czi_engine.proofs.Keeping.{has_opens, one_alike}
use Rattle.czi_editor.specs.Laws.{rests_at}
use Rattle.czi_editor.specs.Machine.{AtState, Begun, HoldsAt, the_machine}

-- a journal counts that says what one says that counts
counts_too : (old journal : List ℕ) → slot_of journal ≡ slot_of old → Counts old → Counts journal
counts_too old journal same counts = ⊎_elim (λ short. absurd (none (slot_of_short journal short)))
    (λ long. ⊎_elim (λ mark. record { long = long; mark = mark }) (λ unmarked. absurd (none (slot_of_void journal unmarked))) (marked_or_not journal)) (cases_lt (length journal) 524352)
  where
    none : slot_of journal ≡ Void → ⊥
    none void = subst IsOfSlot (sym same ∙ void) (counted_sound old counts)

says_too : (b : Begun) (old journal : List ℕ) → slot_of journal ≡ slot_of old → HoldsAt b old → HoldsAt b journal
says_too b old journal same holds = record { unedited = λ none. same ∙ holds.unedited none; edited = λ some. counts_too old journal same (holds.edited some) }

module _ {D : Type 0} (rig : Ghosts D) (x : Engine) (old new : D) (said : List ℕ) (b : Begun) (h : Stands the_machine (AtState x) (rig.state old) said b) where
  -- what a crash leaves of a journal while it is sealed, beside the image that is left alone
  abbrev pub Closing : Type 0
  Closing = Throughout rig old new (λ image journal s. Left h.now.image.durable image × SaysAsBeforeOrVoid h.now.journal.durable journal × (s ≡ h.now.said))

  stands_still : (i j o : List ℕ) → Left h.now.image.durable i × SaysAsBeforeOrVoid h.now.journal.durable j × (o ≡ h.now.said) → Recovered i j h.now.image.seen × (o ≡ h.now.said)
  stands_still = closing_stands h.now h.stands.rest (λ i j o l. h.stands.itself i j l.image_is l.journal_is)

  pub sealing_opens : Closing → Throughout rig old new (Sealing the_machine b said)
  sealing_opens run = weaker rig (λ i j o l.
      let is = stands_still i j o l in
      let rests = rests_at b h.now.image h.now.journal h.stands.live h.stands.rest h.stands.itself h.stands.has.stands h.stands.has.kept in (
        (has_opens b.start h.now.image.seen i j h.stands.live b.state h.stands.has.stands h.stands.has.kept is.0, rests.alone i l.0, is.1 ∙ h.said_is),
        ⊎_elim (λ same. inl (says_too b l.1.old j same (h.stands.holds.left l.1.old l.1.was))) (λ void. inr void) l.1.same,
      )) run

  pub sealing_alike : OnlyNow rig → Closing → EachTwo rig old new Alike
  sealing_alike only run = each_two rig Alike (λ i j o i' j' o' one two. one_alike h.now.image.seen i j i' j' one two)
      (during rig h.now only h.known (weaker rig (λ i j o l. (stands_still i j o l).0) run) (λ i j o l. h.stands.itself i j l.image_is l.journal_is))

  -- what a crash may leave at the end stands for the image still
  at_end : CountsNow rig → OnlyNow rig → (now : Devices) → devices (rig.state new) ≡ Some now → Closing → (i j o : List ℕ) → LeavesNow now i j o → Recovered i j h.now.image.seen
  at_end counts only now is run i j o left =
      let t : ℕ = (rig.state old).moment in
      ⊎_elim
      (λ was. let m = may_leave (rig.state old) h.now h.known i j o (only old i j o (is_honest (rig.state old) h.now h.known) was) in h.stands.itself i j m.image_is m.journal_is)
      (λ l. (stands_still i j o l).0)
      (run.each t i j o (omega arith) (counts new t i j o run.later (leaves_now (rig.state new) now is i j o left)))

  pub sealed_stands : CountsNow rig → OnlyNow rig → LeavesOther Journal (rig.state old) (rig.state new) → GoesOn (rig.state old) (rig.state new) → Closing
      → ForSome (known (rig.state new) Journal) (Everywhere (λ bytes. slot_of bytes ≡ Void)) → Stands the_machine (Sealed the_machine) (rig.state new) said b
  sealed_stands counts only other goes run closed =
      let still = still_known (rig.state old) (rig.state new) Journal h.now h.known other goes in
      let now : Devices = with_file h.now Journal still.disk in
      record {
        now = now;
        known = still.known;
        said_is = h.said_is;
        stands = record {
          rests = rests_at b h.now.image still.disk h.stands.live h.stands.rest (λ i j li lj. at_end counts only now still.known run i j now.said (record { image_is = li; journal_is = lj; said_is = refl })) h.stands.has.stands h.stands.has.kept;
          void = closed still.disk (known_file (rig.state new) Journal now still.known);
        };
      }
