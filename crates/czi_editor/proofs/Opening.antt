-- Opening an engine, as a session takes it.
use Rattle.std.proofs.Common.{◌≡◌, ◌⊎◌, ℕ, List, Option, None, Some, Err, refl, sym, ap, ◌∙◌, subst, inl, inr, ⊎_elim}
use Rattle.std.specs.Option.{ForSome}
use Rattle.std.specs.Prelude.{option_map}
use Rattle.czi_image.specs.Holds.{IsSettled}
use Rattle.czi_image.proofs.Settled.{whole_settled}
use Rattle.czi_opening.specs.Answers.{AreRecovered, AreSynced, Leaves, Tells as TellsOf, cause_of}
use Rattle.czi_opening.specs.Course.{OpensFrom, Stays}
use Rattle.czi_opening.specs.Devices.{open_device}
use Rattle.czi_opening.specs.Opens.{Cause, IsRefusedBy, Opens, bad_at, of_another, of_version, too_short, unread}
use Rattle.czi_opening.specs.declared.error.OpenError.{OpenError}
use Rattle.czi_opening.specs.declared.error.OpenError.TheVariants.{JournalVersion, BadJournal, ImageShort, ForeignJournal, Refused as RefusedOf, ImageDevice, JournalDevice, Memory as MemoryOf}
use Rattle.czi_opening.proofs.Verdict.{not_both}
use Rattle.czi_rig.specs.declared.rig.Rig.{Ghosts}
use Rattle.czi_rig.specs.declared.file.File.TheVariants.{Image, Journal}
use Rattle.czi_rig.specs.Disk.{Disk, at_rest}
use Rattle.czi_rig.specs.State.{Instant, State, known, seen_of}
use Rattle.czi_rig.specs.Faults.{Device}
use Rattle.czi_rig.specs.Moments.{Devices, devices, all_of, FromSomeMoment, LeavesNothingNew}
use Rattle.czi_rig.proofs.Known.{known_said, known_seen}
use Rattle.czi_rig.proofs.Files.{everywhere_at_rest}
use Rattle.czi_rig.proofs.Runs.{weaker}
use Rattle.czi_rig.proofs.Spans.{each_two, one_span}
use Rattle.czi_vault.specs.Recovered.{Recovered}
use Rattle.czi_session.specs.Course.{AlikeFrom, IsUnrefused, KeepsFiles, OnceAlike, OnceDurable, OnlyRecovered, Open, Opening, Stands}
use Rattle.czi_session.specs.Ends.{IsNoRefusal, RefusesPair}
use Rattle.czi_session.specs.Stops.{IsFile}
use Rattle.czi_session.specs.declared.stop.OpenStop.{OpenStop}
use Rattle.czi_session.specs.declared.stop.OpenStop.TheVariants.{Refused, Stopped}
use Rattle.czi_engine.specs.Editing.{Alike, OpensIn}
use Rattle.czi_engine.specs.Standing.{HasState, IsFresh, IsOpened, Origin, StandsOnRig}
use Rattle.czi_engine.specs.declared.engine.Engine.{Engine}
use Rattle.czi_engine.proofs.Fresh.{fresh_opens}
use Rattle.czi_engine.proofs.Keeping.{has_opens, one_alike, one_recovered}
use Rattle.czi_editor.specs.Answers.{Tells}
use Rattle.czi_editor.proofs.Editing.{if_some}
use Rattle.czi_editor.specs.Laws.{begins_unsealed_of}
use Rattle.czi_editor.specs.Machine.{AtState, Begins, Begun, HoldsAt, the_machine}

settled_of : (image journal : List ℕ) (b : Begun) → Begins image journal b → IsSettled b.start.bytes
settled_of image journal b is = whole_settled b.start.bytes is.numbers is.whole

-- what stands for the bytes at the start opens to the state at the start
stays_open : (all : Devices) (b : Begun) (said : List ℕ) → Begins all.image.seen all.journal.seen b → all.said ≡ said → (image journal o : List ℕ) → Stays all image journal o → Open the_machine b said image journal o
stays_open all b said is same image journal o stays = (
  subst (λ (s : Origin). OpensIn s image journal b.state) (sym is.all) (fresh_opens b.start.bytes image journal 0 b.state (settled_of all.image.seen all.journal.seen b is) is.fresh (stays.0.same b.start.bytes is.recovered)),
  stays.1 ∙ same,
)

-- only where a file failed the files may not have become durable
once : {D : Type 0} (rig : Ghosts D) (old new : D) (P : Instant) (error : OpenError) → OpensFrom rig old new P (Err error) → (LeavesNothingNew rig old new × IsFile (open_device error)) ⊎ FromSomeMoment rig old new P
once rig old new P (JournalVersion version) from = inr from
once rig old new P (BadJournal place) from = inr from
once rig old new P (ImageShort have need) from = inr from
once rig old new P (ForeignJournal journal image) from = inr from
once rig old new P (RefusedOf refusal) from = inr from
once rig old new P ImageDevice from = ⊎_elim (λ none. inl (none, tt)) (λ some. inr some) from
once rig old new P JournalDevice from = ⊎_elim (λ none. inl (none, tt)) (λ some. inr some) from
once rig old new P MemoryOf from = inr from

module _ {D : Type 0} (rig : Ghosts D) (old new : D) (said : List ℕ) (b : Begun) (h : Opening the_machine (rig.state old) said b) where
  from_open : FromSomeMoment rig old new (Stays h.now) → FromSomeMoment rig old new (Open the_machine b said)
  from_open from = record {
    then = from.then;
    before = from.before;
    after = weaker rig (stays_open h.now b said h.begins h.said_is) from.after;
    always = λ i j o left. stays_open h.now b said h.begins h.said_is i j o (from.always i j o left);
  }

  pub opens_from : ForSome (devices (rig.state old)) (λ all. FromSomeMoment rig old new (Stays all)) → FromSomeMoment rig old new (Open the_machine b said)
  opens_from moments = from_open (moments h.now h.known)

  pub meanwhile : (error : OpenError) (at : Option Device) → at ≡ open_device error → ForSome (devices (rig.state old)) (λ all. OpensFrom rig old new (Stays all) (Err error)) → OnceDurable rig old new (Open the_machine b said) at
  meanwhile error at is moments = subst (OnceDurable rig old new (Open the_machine b said)) (sym is) (⊎_elim (λ none. inl none) (λ from. inr (from_open from)) (once rig old new (Stays h.now) error (moments h.now h.known)))

  -- any two pairs stand for the bytes at the start
  alike_from : FromSomeMoment rig old new (Stays h.now) → AlikeFrom rig old new the_machine
  alike_from from = record {
    then = from.then;
    before = from.before;
    spans = one_span rig Alike from.then new (each_two rig Alike (λ i j o i' j' o' one two. one_alike b.start.bytes i j i' j' (one.0.same b.start.bytes h.begins.recovered) (two.0.same b.start.bytes h.begins.recovered))
        (record { throughout = from.after; always = from.always }));
  }

  pub opens_alike : ForSome (devices (rig.state old)) (λ all. FromSomeMoment rig old new (Stays all)) → OnceAlike rig old new the_machine None
  opens_alike moments = inr (alike_from (moments h.now h.known))

  pub meanwhile_alike : (error : OpenError) (at : Option Device) → at ≡ open_device error → ForSome (devices (rig.state old)) (λ all. OpensFrom rig old new (Stays all) (Err error)) → OnceAlike rig old new the_machine at
  meanwhile_alike error at is moments = subst (OnceAlike rig old new the_machine) (sym is) (⊎_elim (λ none. inl none) (λ from. inr (alike_from from)) (once rig old new (Stays h.now) error (moments h.now h.known)))

-- files that open aren't refused
opened : (image journal : List ℕ) (b : Begun) → Begins image journal b → Opens image journal b.state.document
opened image journal b is = record { bytes = b.start.bytes; recovered = is.recovered; shows = (is.fresh.live, is.fresh.reaches, is.fresh.document); idle = is.whole }

pub opens_so : (error : OpenError) (stop : OpenStop) (state : State) (image journal : List ℕ) (b : Begun) → Tells error stop → TellsOf image journal state error → Begins image journal b → IsNoRefusal stop
opens_so error (Refused text) state image journal b tells cause is =
    not_both image journal b.state.document tells.0 (opened image journal b is) (if_some (cause_of error) tells.0 (λ (c : Cause). IsRefusedBy image journal c × Leaves image journal state c) tells.1 cause).0
opens_so error (Stopped stop) state image journal b tells cause is = tt

-- a refusal is that of the pair, and it leaves both files as they were, or the recovered image
synced_only : (all : Devices) (bytes : List ℕ) (state : State) → AreSynced bytes all.journal.seen state → (bytes ≡ all.image.seen) ⊎ Recovered all.image.seen all.journal.seen bytes → OnlyRecovered the_machine all state
synced_only all bytes state synced same = record { journal = ap (option_map (λ (d : Disk). d.seen)) synced.journal_is; bytes = bytes; image = ap (option_map (λ (d : Disk). d.seen)) synced.image_is; same = same }

only_recovered : (all : Devices) (state : State) (cause : Cause) → Leaves all.image.seen all.journal.seen state cause → OnlyRecovered the_machine all state
only_recovered all state (of_version version) synced = synced_only all all.image.seen state synced (inl refl)
only_recovered all state (bad_at place) synced = synced_only all all.image.seen state synced (inl refl)
only_recovered all state (too_short have need) synced = synced_only all all.image.seen state synced (inl refl)
only_recovered all state (of_another record_guid image_guid) synced = synced_only all all.image.seen state synced (inl refl)
only_recovered all state (unread refusal) r = synced_only all r.bytes state r.synced (inr r.recovered)

pub refuses : (error : OpenError) (stop : OpenStop) (state : State) (all : Devices) → Tells error stop → TellsOf all.image.seen all.journal.seen state error → RefusesPair the_machine all state stop
refuses error (Refused text) state all tells cause =
    let both = if_some (cause_of error) tells.0 (λ (c : Cause). IsRefusedBy all.image.seen all.journal.seen c × Leaves all.image.seen all.journal.seen state c) tells.1 cause in
    (record { cause = tells.0; refused = both.0; text_is = tells.2 }, only_recovered all state tells.0 both.1)
refuses error (Stopped stop) state all tells cause = tt

-- the engine stands at the state at the start
pub opened_stands : (x : Engine) (old new : State) (said : List ℕ) (b : Begun) → Opening the_machine old said b
    → ForSome (seen_of old Image) (λ image. ForSome (seen_of old Journal) (λ journal. AreRecovered image journal new)) → IsOpened new x.state → x.state.number ≡ 0 → StandsOnRig new x.state → new.said ≡ old.said
    → Stands the_machine (AtState x) new said b
opened_stands x old new said b h recovered fresh none on same =
    let r = recovered h.now.image.seen (known_seen old Image h.now h.known) h.now.journal.seen (known_seen old Journal h.now h.known) in
    let bytes : r.bytes ≡ b.start.bytes = one_recovered h.now.image.seen h.now.journal.seen r.bytes b.start.bytes r.recovered h.begins.recovered in
    let image : known new Image ≡ Some (at_rest b.start.bytes) = r.synced.image_is ∙ ap (λ (z : List ℕ). Some (at_rest z)) bytes in
    let now : Devices = record { image = at_rest b.start.bytes; journal = at_rest h.now.journal.seen; said = h.now.said } in
    let is : devices new ≡ Some now = λ k. all_of (image k) (r.synced.journal_is k) ((same ∙ known_said old h.now h.known) k) in
    let has = fresh b.start.bytes (known_seen new Image now is) b.state (subst (λ (n : ℕ). IsFresh b.start.bytes n b.state) (sym none) h.begins.fresh) in
    record {
      now = now;
      known = is;
      said_is = h.said_is;
      stands = record { rest = refl; itself = on.itself now is; holds = everywhere_at_rest (HoldsAt b) h.now.journal.seen (begins_unsealed_of h.now.image.seen h.now.journal.seen b h.begins); live = has.0; has = subst (λ (s : Origin). HasState s b.start.bytes has.0 b.state x.state) (sym h.begins.all) has.1 };
    }

-- what was opened isn't refused
pub unrefused : (x : Engine) (old new : State) → ForSome (seen_of old Image) (λ image. ForSome (seen_of old Journal) (λ journal. AreRecovered image journal new)) → StandsOnRig new x.state → IsUnrefused the_machine old
unrefused x old new recovered on all text is refused =
    let image = all.image.seen in
    let journal = all.journal.seen in
    let r = recovered image (known_seen old Image all is) journal (known_seen old Journal all is) in
    let some = on.state r.bytes (ap (option_map (λ (d : Disk). d.seen)) r.synced.image_is) in
    let o = (has_opens some.start r.bytes image journal some.live some.state some.has.stands some.has.kept r.recovered).opens in
    not_both image journal some.state.document refused.cause (record { bytes = o.bytes; recovered = o.recovered; shows = o.shows; idle = o.whole }) refused.refused

module _ {D : Type 0} (rig : Ghosts D) (old new : D) (all : Devices) where
  from_kept : FromSomeMoment rig old new (Stays all) → FromSomeMoment rig old new (KeepsFiles the_machine all)
  from_kept from = record {
    then = from.then;
    before = from.before;
    after = weaker rig (λ i j o stays. (stays.0, stays.1)) from.after;
    always = λ i j o left. let stays = from.always i j o left in (stays.0, stays.1);
  }

  -- an opening that answers an error keeps the files
  pub kept : (error : OpenError) (at : Option Device) → at ≡ open_device error → OpensFrom rig old new (Stays all) (Err error) → OnceDurable rig old new (KeepsFiles the_machine all) at
  kept error at is from = subst (OnceDurable rig old new (KeepsFiles the_machine all)) (sym is) (⊎_elim (λ none. inl none) (λ some. inr (from_kept some)) (once rig old new (Stays all) error from))
