-- A text that is said while a document stands.
use Rattle.std.proofs.Common.{◌≡◌, ◌⊎◌, inl, inr, ⊎_elim, ℕ, ◌≤◌, None, Some, Result, Ok, Err, List, [], length, take, ◌++◌, ◌∙◌, ap, arith, refl, sym, subst}
use Rattle.std.specs.Option.{ForSome}
use Rattle.std.specs.Prelude.{IfErr, option_map}
use Rattle.std.proofs.lemmas.Option.{same_Some}
use Rattle.czi_script.specs.Script.{Command}
use Rattle.czi_session.specs.Course.{Model, OnlySays, Resting, RestsNow, Sealing, Stands, EitherSide, Unsealed, WhileSaid, WithinStep}
use Rattle.czi_rig.specs.declared.rig.Rig.{Ghosts}
use Rattle.czi_rig.specs.declared.file.File.{File}
use Rattle.czi_rig.specs.declared.file.File.TheVariants.{Image as ImageFile, Journal}
use Rattle.czi_rig.specs.Disk.{Disk, Left}
use Rattle.czi_rig.specs.State.{State, SameFiles, MayLeaveSaying, known}
use Rattle.czi_rig.specs.Passes.{GoesOn, Passes}
use Rattle.czi_rig.specs.Moments.{CountsNow, OnlyNow, Throughout, LeavesNow, LeavesSaying}
use Rattle.czi_rig.specs.Spans.{EachTwo, InSpans}
use Rattle.czi_rig.proofs.Known.{is_honest, known_file, known_seen, leaves_now, may_leave, said_known, known_said}
use Rattle.czi_rig.proofs.Runs.{joined, run_begins, run_says, started, weaker}
use Rattle.czi_rig.proofs.Spans.{during, each_two, one_span, spans_then}
use Rattle.czi_session.specs.declared.stop.EditorStop.{EditorStop}
use Rattle.czi_session.specs.declared.stop.EditorStop.TheVariants.{Image as ImageOf, Journal as JournalOf, Memory as MemoryOf}
use Rattle.czi_rig.specs.Faults.{fault_at, image as the_image, journal as the_journal}
use Rattle.czi_session.specs.Stops.{IsFile, editor_device, stop_device, stop_of}
use Rattle.czi_session.specs.declared.stop.Stop.{Stop}
use Rattle.czi_session.specs.declared.stop.Stop.TheVariants.{Image}
use Rattle.czi_session.specs.Ends.{MayBeSealed, ReplyStops, SaidFront, StepStops}
use Rattle.czi_session.proofs.Told.{still_told}

pub while_said : (m : Model) (on : Disk → Disk → m.Document → Type 0) → RestsNow m on → (state : State) (before bytes text : List ℕ) (s : m.Document) (h : Stands m on state before s) → bytes ≡ text
    → (image journal said : List ℕ) → LeavesSaying h.now bytes image journal said → WhileSaid m s before text image journal said
while_said m on rests_now state before bytes text s h is i j o l = (
  l.0,
  rw (← is) l.1,
  l.2.said_is ∙ ap (λ (x : List ℕ). x ++ take l.0 bytes) h.said_is ∙ ap (λ (x : List ℕ). before ++ take l.0 x) is,
  (rests_now h.now.image h.now.journal s h.stands).rests.opens i j l.2.image_is l.2.journal_is,
  (rests_now h.now.image h.now.journal s h.stands).rests.alone i l.2.image_is,
)

-- and so it is between two texts
pub resting_now : (m : Model) (on : Disk → Disk → m.Document → Type 0) → RestsNow m on → (state : State) (before : List ℕ) (s : m.Document) (h : Stands m on state before s)
    → (image journal said : List ℕ) → LeavesNow h.now image journal said → Resting m s before image journal said
resting_now m on rests_now state before s h i j o l =
    let rests = (rests_now h.now.image h.now.journal s h.stands).rests in
    (rests.opens i j l.image_is l.journal_is, rests.alone i l.image_is, l.said_is ∙ h.said_is)

-- what something stands on rests, and isn't sealed
pub stands_rest : (m : Model) (on : Disk → Disk → m.Document → Type 0) → RestsNow m on → (state : State) (said : List ℕ) (s : m.Document) → Stands m on state said s → Stands m (Unsealed m) state said s
stands_rest m on rests_now state said s h = record { now = h.now; known = h.known; said_is = h.said_is; stands = rests_now h.now.image h.now.journal s h.stands }

-- what was said of it
pub said_known_of : (m : Model) (on : Disk → Disk → m.Document → Type 0) (state : State) (said : List ℕ) (s : m.Document) → Stands m on state said s → state.said ≡ Some said
said_known_of m on state said s h = known_said state h.now h.known ∙ ap (λ (x : List ℕ). Some x) h.said_is

-- a text was said whole
pub said_stands : (m : Model) (on : Disk → Disk → m.Document → Type 0) (old new : State) (before bytes text : List ℕ) (s : m.Document) → Stands m on old before s → bytes ≡ text → SameFiles old new
    → new.said ≡ option_map (λ (x : List ℕ). x ++ bytes) old.said → Stands m on new (before ++ text) s
said_stands m on old new before bytes text s h is same said = record {
  now = record h.now { said = h.now.said ++ bytes };
  known = said_known old new h.now _ h.known same (said ∙ ap (option_map (λ (x : List ℕ). x ++ bytes)) (known_said old h.now h.known));
  said_is = ap (λ (x : List ℕ). x ++ bytes) h.said_is ∙ ap (λ (x : List ℕ). before ++ x) is;
  stands = h.stands;
}

module _ {D : Type 0} (rig : Ghosts D) where
  -- after a command, while its reply is said
  pub step_says : {first old new : D} (m : Model) (on : Disk → Disk → m.Document → Type 0) → RestsNow m on → (s : m.Document) (c : Command) (before text : List ℕ) → Throughout rig first old (EitherSide m s c before)
      → Stands m on (rig.state old) before (m.after s c) → m.reply s c ≡ text → OnlySays rig old new text → Throughout rig first new (WithinStep m s c before)
  step_says {old = old} m on rests_now s c before text part h is only = joined rig (weaker rig (λ i j o p. inl p) part)
      (weaker rig (λ i j o l. inr (while_said m on rests_now (rig.state old) before text (m.reply s c) (m.after s c) h (sym is) i j o l)) (only.moments h.now h.known))

  -- while a text is said
  pub text_says : {old new : D} (m : Model) (on : Disk → Disk → m.Document → Type 0) → RestsNow m on → (s : m.Document) (bytes before text : List ℕ) → Stands m on (rig.state old) before s → bytes ≡ text
      → Passes (rig.state old) (rig.state new) (rig.left_since old) (rig.left_since new) (MayLeaveSaying (rig.state old) bytes) → Throughout rig old new (WhileSaid m s before text)
  text_says {old = old} m on rests_now s bytes before text h is time =
      run_says rig bytes (run_begins rig old h.now _ h.known) time (λ i j o l. while_said m on rests_now (rig.state old) before bytes text s h is i j o l)

-- a command was done, and its reply stopped
pub reply_stops : (m : Model) (state : State) (s : m.Document) (c : Command) (before text : List ℕ) (left : ℕ) (stop : Stop) → m.reply s c ≡ text → (left ≡ 0) ⊎ m.looks s c
    → ReplyStops m (Unsealed m) state (m.after s c) before text left stop → StepStops m (Unsealed m) state s c before stop
reply_stops m state s c before text left stop is one (why, n, le, stands) =
    let front : SaidFront m (Unsealed m) state s c before = subst (λ (z : List ℕ). (k : ℕ) × (k ≤ length z) × Stands m (Unsealed m) state (before ++ take k z) (m.after s c)) (sym is) (n, le, stands) in
    ⊎_elim
    (λ output. subst (λ (z : Stop). StepStops m (Unsealed m) state s c before z) (sym output) front)
    (λ image. subst (λ (z : Stop). StepStops m (Unsealed m) state s c before z) (sym image.0) (inr (⊎_elim (λ none. absurd (image.1 none)) (λ looks. looks) one, front))) why

-- of the files the image alone, in a command that looks into it
pub reply_file : (m : Model) (on : Disk → Disk → m.Document → Type 0) (state : State) (s t : m.Document) (c : Command) (before text : List ℕ) (left : ℕ) (result : Result (Unit {0}) Stop) → (left ≡ 0) ⊎ m.looks s c
    → IfErr result (λ stop. ReplyStops m on state t before text left stop) → IsFile (fault_at stop_device result) → (result ≡ Err Image) × m.looks s c
reply_file m on state s t c before text left (Ok done) one stops file = absurd file
reply_file m on state s t c before text left (Err stop) one (why, n, le, stands) file = ⊎_elim
    (λ output. absurd (subst (λ (z : Stop). IsFile (stop_device z)) output file))
    (λ image. (ap (λ (z : Stop). let r : Result (Unit {0}) Stop = Err z in r) image.0, ⊎_elim (λ none. absurd (image.1 none)) (λ looks. looks) one)) why

-- a command that did nothing stopped
pub perform_stops : (m : Model) (on : Disk → Disk → m.Document → Type 0) → RestsNow m on → (old new : State) (said : List ℕ) (s : m.Document) (c : Command) (stop : EditorStop) → Stands m on old said s → new.said ≡ old.said
    → (m.still s c → editor_device stop ≡ None) → (stop ≡ MemoryOf → new ≡ old) → StepStops m (Unsealed m) new s c said (stop_of stop)
perform_stops m on rests_now old new said s c ImageOf h same quiet starved = inl (same ∙ said_known_of m on old said s h, λ still. let none : Some the_image ≡ None = quiet still in cc)
perform_stops m on rests_now old new said s c JournalOf h same quiet starved = (same ∙ said_known_of m on old said s h, λ still. let none : Some the_journal ≡ None = quiet still in cc)
perform_stops m on rests_now old new said s c MemoryOf h same quiet starved =
    subst (λ (state : State). Stands m (Unsealed m) state said s) (sym (starved refl)) (stands_rest m on rests_now old said s h)

module _ {D : Type 0} (rig : Ghosts D) where
  -- no call was made
  pub nothing_said : (old new : D) (text : List ℕ) → new ≡ old → OnlySays rig old new text
  nothing_said old new text is = subst (λ (r : D). OnlySays rig old r text) (sym is) (record {
    files = record { image = refl; journal = refl };
    moments = λ all known. started rig old (LeavesSaying all text);
  })

  -- no call was made, and then a text was said
  pub text_said : (old mid new : D) (said text : List ℕ) → mid ≡ old → text ≡ said → OnlySays rig mid new said → OnlySays rig old new text
  text_said old mid new said text is same only = subst (λ (r : D). OnlySays rig r new text) is (subst (λ (x : List ℕ). OnlySays rig mid new x) (sym same) only)

-- files that rest
pub rests_as_said : (m : Model) → RestsNow m (Unsealed m)
rests_as_said m image journal s h = h

module _ {D : Type 0} (rig : Ghosts D) (only : OnlyNow rig) (m : Model) (on : Disk → Disk → m.Document → Type 0) (rests_now : RestsNow m on) (s : m.Document) (before : List ℕ) where
  alike_during : {old new : D} → (h : Stands m on (rig.state old) before s) → Throughout rig old new (λ image journal said. Left h.now.image.durable image × Left h.now.journal.durable journal) → EachTwo rig old new m.alike
  alike_during h run = each_two rig m.alike (λ i j o i' j' o' one two. (rests_now h.now.image h.now.journal s h.stands).rests.alike i j i' j' one.0 one.1 two.0 two.1)
      (during rig h.now only h.known run (λ i j o l. (l.image_is, l.journal_is)))

  -- any two pairs that a crash leaves while nothing is done, or a text is said
  pub resting_alike : (r : D) → Stands m on (rig.state r) before s → EachTwo rig r r m.alike
  resting_alike r h = alike_during h (started rig r _)

  pub saying_alike : {old new : D} (bytes : List ℕ) → Stands m on (rig.state old) before s → Passes (rig.state old) (rig.state new) (rig.left_since old) (rig.left_since new) (MayLeaveSaying (rig.state old) bytes)
      → EachTwo rig old new m.alike
  saying_alike {old = old} bytes h time = alike_during h (run_says rig bytes (run_begins rig old h.now _ h.known) time (λ i j o l. (l.2.image_is, l.2.journal_is)))

  -- after something that was done
  pub done_alike : (old mid new : D) (text : List ℕ) → EachTwo rig old mid m.alike → Stands m on (rig.state mid) before s → OnlySays rig mid new text → InSpans rig old new m.alike
  done_alike old mid new text done h only = spans_then rig m.alike old mid new (one_span rig m.alike old mid done)
      (one_span rig m.alike mid new (alike_during h (weaker rig (λ i j o l. (l.2.image_is, l.2.journal_is)) (only.moments h.now h.known))))

  -- a journal after its sealing, also where that failed
  pub may_be_sealed : {old new : D} → CountsNow rig → ((r : D) (f : File) → ForSome (known (rig.state r) f) (λ disk. Left disk.durable disk.seen)) → Stands m on (rig.state old) before s
      → GoesOn (rig.state old) (rig.state new) → (rig.state new).said ≡ (rig.state old).said → Throughout rig old new (Sealing m s before) → MayBeSealed m (rig.state new) s
  may_be_sealed {old = old} {new = new} counts reads h goes same run = λ journal is.
      let still = still_told (rig.state old) (rig.state new) h.now h.known goes same in
      let now = still.now in
      let t : ℕ = (rig.state old).moment in
      let left : LeavesNow now now.image.seen now.journal.seen now.said = record {
        image_is = reads new ImageFile now.image (known_file (rig.state new) ImageFile now still.known);
        journal_is = reads new Journal now.journal (known_file (rig.state new) Journal now still.known);
        said_is = refl;
      } in
      subst (λ (j : List ℕ). m.holds s j ⊎ m.void j) (same_Some now.journal.seen journal (sym (known_seen (rig.state new) Journal now still.known) ∙ is)) (⊎_elim
      (λ was. inl ((rests_now h.now.image h.now.journal s h.stands).holds.left _ (may_leave (rig.state old) h.now h.known _ _ _ (only old _ _ _ (is_honest (rig.state old) h.now h.known) was)).journal_is))
      (λ p. p.1)
      (run.each t _ _ _ (omega arith) (counts new t _ _ _ run.later (leaves_now (rig.state new) now still.known _ _ _ left))))
