-- A pair that is refused.
use Rattle.std.proofs.Common.{◌≡◌, ◌⊎◌, ℕ, List, Some, ap, refl, sym, subst, ◌∙◌, inl, inr, ⊎_elim}
use Rattle.std.proofs.lemmas.Option.{same_Some}
use Rattle.czi_rig.specs.declared.file.File.TheVariants as files
use Rattle.czi_rig.specs.State.{State, seen_of}
use Rattle.czi_rig.specs.Faults.{Faults}
use Rattle.czi_rig.specs.Moments.{Devices, devices}
use Rattle.czi_rig.proofs.Known.{known_said, known_seen}
use Rattle.czi_session.specs.declared.stop.EditorStop.{EditorStop}
use Rattle.czi_session.specs.declared.stop.EditorStop.TheVariants.{Image as ImageOf, Journal as JournalOf, Memory as MemoryOf}
use Rattle.czi_session.specs.declared.stop.Stop.TheVariants.{Script, Image, Journal, Output, Input, Memory, TooLong}
use Rattle.czi_session.specs.declared.stop.Ended.{Ended}
use Rattle.czi_session.specs.declared.stop.Ended.TheVariants.{Done, Refused, Stopped}
use Rattle.czi_session.specs.Stops.{EndsOpening, EndsUnopened, end_device, stop_of}
use Rattle.czi_session.specs.Course.{IsUnrefused, Model, Opening}
use Rattle.czi_session.specs.Ends.{Answers, IsUnsealed, SaysRefusal, OpeningSays, Quiet}

-- where no fault came, the refusal was told, or memory was wanting
told : (ended : Ended) (old new : State) (before now : ℕ) → EndsUnopened ended → Quiet old new before now → Faults (end_device ended) old new → Answers Refused ended
told Done old new before now ends q cause = absurd ends
told Refused old new before now ends q cause = inl refl
told (Stopped (Script number kind)) old new before now ends q cause = absurd ends
told (Stopped Image) old new before now ends q cause = absurd (q.image cause.image_count)
told (Stopped Journal) old new before now ends q cause = absurd (q.journal cause.journal_count)
told (Stopped Output) old new before now ends q cause = absurd (q.output cause.output_count)
told (Stopped Input) old new before now ends q cause = absurd ends
told (Stopped Memory) old new before now ends q cause = inr refl
told (Stopped TooLong) old new before now ends q cause = absurd ends

pub refused_answers : (m : Model) (ended : Ended) (old new : State) (before now : ℕ) (all : Devices) (text : List ℕ) → devices old ≡ Some all → m.refuses all.image.seen all.journal.seen text
    → IsUnrefused m old ⊎ EndsUnopened ended → Quiet old new before now → Faults (end_device ended) old new → Answers Refused ended
refused_answers m ended old new before now all text is refuses either q cause = ⊎_elim (λ un. absurd (un all text is refuses)) (λ ends. told ended old new before now ends q cause) either

-- an opening that stopped has said nothing, and left the journal as it was
pub opening_says : (m : Model) (stop : EditorStop) (old new : State) (said : List ℕ) (s : m.Document) → (h : Opening m old said s) → new.said ≡ old.said → seen_of new files.Journal ≡ seen_of old files.Journal
    → m.holds s h.now.journal.seen → OpeningSays m new s said (stop_of stop) × EndsOpening (Stopped (stop_of stop))
opening_says m stop old new said s h silent same holds = at stop
  where
    both : (new.said ≡ Some said) × IsUnsealed m new s
    both = (
      silent ∙ known_said old h.now h.known ∙ ap (λ (x : List ℕ). Some x) h.said_is,
      λ journal is. subst (λ (j : List ℕ). m.holds s j) (same_Some h.now.journal.seen journal (sym (same ∙ known_seen old files.Journal h.now h.known) ∙ is)) holds,
    )

    at : (stop : EditorStop) → OpeningSays m new s said (stop_of stop) × EndsOpening (Stopped (stop_of stop))
    at ImageOf = (both, tt)
    at JournalOf = (both, tt)
    at MemoryOf = (both, tt)

pub opening_refused : (stop : EditorStop) (state : State) (said text : List ℕ) → state.said ≡ Some said → SaysRefusal state.said said text (Stopped (stop_of stop))
opening_refused ImageOf state said text is = is
opening_refused JournalOf state said text is = is
opening_refused MemoryOf state said text is = is
