-- How a run ends, after its commands.
use Rattle.std.proofs.Common.{◌≡◌, inl, inr, ⊎_elim, ℕ, ◌<◌, ◌≤◌, List, [], ◌∷◌, ◌++◌, length, Option, None, Some, Result, Ok, Err, sym, ap, refl, ◌∙◌, arith, subst}
use Rattle.std.specs.Prelude.{MatchResult, IfErr, OnOk, ◌^◌}
use Rattle.std.specs.List.{concat}
use Rattle.std.proofs.lemmas.List.{append-nil}
use Rattle.czi_rig.specs.declared.rig.Rig.{Ghosts}
use Rattle.czi_rig.specs.Disk.{Disk}
use Rattle.czi_rig.specs.State.{State, Instant}
use Rattle.czi_rig.specs.Faults.{Device, Faults, FaultsWith}
use Rattle.czi_rig.specs.Moments.{OnlyNow, Throughout, FromSomeMoment}
use Rattle.czi_rig.specs.Spans.{InSpans}
use Rattle.czi_rig.proofs.Runs.{joined, weaker}
use Rattle.czi_rig.proofs.Spans.{during, spans_then}
use Rattle.czi_script.specs.declared.kind.Kind.{Kind}
use Rattle.czi_script.specs.declared.error.ScriptError.TheVariants.{Fault as FaultError}
use Rattle.czi_script.specs.Script.{Command, End, Done as DoneOf, Fault}
use Rattle.czi_script.specs.Course.{StopsSo}
use Rattle.czi_session.specs.declared.stop.Stop.{Stop}
use Rattle.czi_session.specs.declared.stop.Stop.TheVariants.{Script, Image, Journal, Output, Input, Memory, TooLong}
use Rattle.czi_session.specs.declared.stop.Ended.{Ended}
use Rattle.czi_session.specs.declared.stop.Ended.TheVariants.{Done, Refused, Stopped}
use Rattle.czi_session.specs.Text.{fault_line, last_text}
use Rattle.czi_session.specs.Course.{AlikeFrom, AtEveryMoment, Model, OnceAlike, OnceDurable, Stands, Open, WhileSaid, WithinStep, OpensToPrefix, ReadsToPrefix, RestsNow, Runs, Sealed, Sealing, Unsealed, Begins, Starts, state_after, replies}
use Rattle.czi_session.specs.Stops.{EndsAlone, IsFile, end_device}
use Rattle.czi_session.specs.Ends.{MayBeSealed, Whole, StopsAt, RunStops, TextStops, OneStops, OneEnds, OpeningEnds, EndsOpened, Quiet, Answers}
use Rattle.czi_session.proofs.Course.{prefix_first, reads_between, reads_step, reads_last}
use Rattle.czi_session.proofs.Spoken.{resting_now, said_known_of, stands_rest}

module _ (m : Model) (something : (s : m.Document) (c : Command) → 0 < length (m.reply s c)) (start : m.Document) (cs : List Command) (end : End) (before : List ℕ) where
  -- while the journal is sealed
  pub reads_sealed : (image journal said : List ℕ) → Sealing m (state_after m start cs) (before ++ concat (replies m start cs)) image journal said → ReadsToPrefix m start cs (last_text end) before image journal said
  reads_sealed image journal said p = subst (λ ds. ReadsToPrefix m start ds (last_text end) before image journal said) (append-nil cs)
      (reads_between m something start (last_text end) before cs [] image journal said p.0.0 p.0.1 p.0.2)

  -- while the fault's text is said
  pub reads_fault : (n : ℕ) (kind : Kind) → end ≡ Fault n kind → (image journal said : List ℕ) → WhileSaid m (state_after m start cs) (before ++ concat (replies m start cs)) (fault_line n kind) image journal said
      → ReadsToPrefix m start cs (last_text end) before image journal said
  reads_fault n kind is image journal said p = reads_last m something start (last_text end) before cs image journal said
      (subst (λ (x : List ℕ). WhileSaid m (state_after m start cs) (before ++ concat (replies m start cs)) x image journal said) (sym (ap (λ e. last_text e) is)) p)

module _ {D : Type 0} (rig : Ghosts D) where
  pub from_weaker : {old new : D} {P Q : Instant} → ((image journal said : List ℕ) → P image journal said → Q image journal said) → FromSomeMoment rig old new P → FromSomeMoment rig old new Q
  from_weaker h f = record { then = f.then; before = f.before; after = weaker rig h f.after; always = λ i j o left. h i j o (f.always i j o left) }

  pub from_more : {old mid new : D} {P : Instant} → FromSomeMoment rig old mid P → Throughout rig mid new P → FromSomeMoment rig old new P
  from_more f more = record {
    then = f.then;
    before = f.before;
    after = joined rig f.after more;
    always = λ i j o left. ⊎_elim (λ was. f.always i j o was) (λ p. p) (more.each (rig.state f.then).moment i j o (omega (arith, f.after.later)) left);
  }

module _ {D : Type 0} (rig : Ghosts D) (m : Model) where
  -- a run over files that were opened
  pub runs : {old opened new : D} (only : OnlyNow rig) (something : (s : m.Document) (c : Command) → 0 < length (m.reply s c)) (on : Disk → Disk → m.Document → Type 0) → RestsNow m on
      → (s : m.Document) (cs : List Command) (last said : List ℕ) → FromSomeMoment rig old opened (Open m s said) → Stands m on (rig.state opened) said s → Throughout rig opened new (ReadsToPrefix m s cs last said)
      → Runs rig old new m s cs last said
  runs {opened = opened} only something on rests_now s cs last said opening h run = record {
    opened = opened;
    opening = opening;
    rested = stands_rest m on rests_now (rig.state opened) said s h;
    running = during rig h.now only h.known run (λ i j o l.
        let r = resting_now m on rests_now (rig.state opened) said s h i j o l in
        reads_between m something s last said [] cs i j o r.0 r.1 (r.2 ∙ sym (append-nil said)));
  }

  -- in particular, each pair opens to a prefix
  pub once_durable : {old new : D} (something : (s : m.Document) (c : Command) → 0 < length (m.reply s c)) (s : m.Document) (cs : List Command) (last said : List ℕ) (at : Option Device) (unopened : Type 0)
      → AtEveryMoment rig old new m s cs last said (IsFile at) unopened → OnceDurable rig old new (OpensToPrefix m s cs last said) at
  once_durable something s cs last said at unopened every =
      let first : (i j o : List ℕ) → Open m s said i j o → OpensToPrefix m s cs last said i j o = λ i j o p. prefix_first m something s last said cs i j o p.0 p.1 in
      elim every [
        | inl nothing ↦ inl nothing
        | inr (inl from) ↦ inr (from_weaker rig first from.0)
        | inr (inr run) ↦ inr (from_more rig (from_weaker rig first run.opening) (weaker rig (λ i j o p. p.prefix) run.running.throughout))
      ]

  -- any two pairs, once the files are opened
  pub alike_more : (old mid new : D) → OnceAlike rig old mid m None → InSpans rig mid new m.alike → AlikeFrom rig old new m
  alike_more old mid new once more = ⊎_elim (λ nothing. absurd nothing.1) (λ from. record { then = from.then; before = from.before; spans = spans_then rig m.alike from.then mid new from.spans more }) once

module _ (m : Model) (state : State) (left : Option (List ℕ)) (start : m.Document) (cs : List Command) (end : End) (before all : List ℕ) where
  -- a stop that isn't the script's fault
  pub stopped : (stop : Stop) → ((n : ℕ) (kind : Kind) → stop ≡ Script n kind → ⊥) → StopsAt m (Unsealed m) state left start cs end before all stop → RunStops m (Unsealed m) state left start cs end before all stop
  stopped (Script n kind) other s = absurd (other n kind refl)
  stopped Input other s = s
  stopped TooLong other s = s
  stopped Image other s = s
  stopped Journal other s = inl s
  stopped Output other s = inl s
  stopped Memory other s = s

  -- after the fault's text
  pub fault_said : (n : ℕ) (kind : Kind) (stop : Stop) → StopsSo all cs end (FaultError n kind) → TextStops m (Unsealed m) state (state_after m start cs) n kind (before ++ concat (replies m start cs)) stop
      → RunStops m (Unsealed m) state left start cs end before all stop
  fault_said n kind (Script k l) so t = rw (t.0, t.1) (so, t.2)
  fault_said n kind Output so t = inr (n, kind, t.0, so.0, t.1, t.2)
  fault_said n kind Memory so t = inr (record { done = cs; rest = []; whole = sym (append-nil cs); stands = t })
  fault_said n kind Input so t = absurd t
  fault_said n kind TooLong so t = absurd t
  fault_said n kind Image so t = absurd t
  fault_said n kind Journal so t = absurd t

  pub sealed : (result : Result (Unit {0}) Stop) (old : State) (last_left : Option (List ℕ)) (on_old : Disk → Disk → m.Document → Type 0) → (w : Whole m on_old old last_left start cs end before all) → left ≡ last_left → state.said ≡ old.said
      → OnOk result ((said : List ℕ) (s : m.Document) → Stands m on_old old said s → Stands m (Sealed m) state said s) → ((said : List ℕ) (s : m.Document) → Stands m on_old old said s → MayBeSealed m state s) → IfErr result (λ stop. stop ≡ Journal)
      → MatchResult result (λ _. Whole m (Sealed m) state left start cs end before all) (λ stop. RunStops m (Unsealed m) state left start cs end before all stop)
  sealed (Ok u) old last_left on_old w same said ok may s = record { ends = w.ends; short = w.short; taken = same ∙ w.taken; stands = ok _ _ w.stands }
  sealed (Err stop) old last_left on_old w same said ok may s = subst (λ x. RunStops m (Unsealed m) state left start cs end before all x) (sym s) (inr (w.ends, said ∙ said_known_of m on_old old _ _ w.stands, may _ _ w.stands))

  -- a run whose files didn't open
  pub unopened : (ended : Ended) → OpeningEnds m state start before ended → left ≡ Some all → EndsOpened m state left start cs end before all ended
  unopened Done e same = absurd e
  unopened Refused e same = absurd e
  unopened (Stopped stop) e same = inl (e, same)

abbrev pub starts : (m : Model) (on : Disk → Disk → m.Document → Type 0) (left : Option (List ℕ)) (old new : State) (cs : List Command) (end : End) (said : List ℕ) (s : m.Document)
    → Begins m left old cs end said s → Stands m on new said s → Starts m on left new cs end said s
starts m on left old new cs end said s b h = record { input = b.input; told = b.told; reads = b.reads; stands = h }

-- one command
module _ (m : Model) (something : (s : m.Document) (c : Command) → 0 < length (m.reply s c)) (s : m.Document) (c : Command) (before : List ℕ) where
  pub one_within : (image journal said : List ℕ) → WithinStep m s c before image journal said → ReadsToPrefix m s (c ∷ []) [] before image journal said
  one_within i j o w = reads_step m something s [] before [] c [] i j o (subst (λ (x : List ℕ). WithinStep m s c x i j o) (sym (append-nil before)) w)

  pub one_sealed : (image journal said : List ℕ) → Sealing m (m.after s c) (before ++ m.reply s c) image journal said → ReadsToPrefix m s (c ∷ []) [] before image journal said
  one_sealed i j o p = reads_sealed m something s (c ∷ []) DoneOf before i j o ((p.0.0, p.0.1, p.0.2 ∙ ap (λ (x : List ℕ). before ++ x) (sym (append-nil (m.reply s c)))), p.1)

module _ (m : Model) (state : State) (s : m.Document) (c : Command) (before : List ℕ) where
  pub one_ends : (result : Result (Unit {0}) Stop) (old : State) (on_old : Disk → Disk → m.Document → Type 0) → Stands m on_old old (before ++ m.reply s c) (m.after s c) → state.said ≡ old.said
      → OnOk result ((said : List ℕ) (s : m.Document) → Stands m on_old old said s → Stands m (Sealed m) state said s) → ((said : List ℕ) (s : m.Document) → Stands m on_old old said s → MayBeSealed m state s) → IfErr result (λ stop. stop ≡ Journal)
      → MatchResult result (λ _. Stands m (Sealed m) state (before ++ m.reply s c) (m.after s c)) (λ stop. OneStops m state s c before stop)
  one_ends (Ok u) old on_old w said ok may e = ok _ _ w
  one_ends (Err stop) old on_old w said ok may e = inr (e, said ∙ said_known_of m on_old old _ _ w, may _ _ w)

  pub one_unopened : (ended : Ended) → OpeningEnds m state s before ended → OneEnds m state s c before ended
  one_unopened Done e = absurd e
  one_unopened Refused e = absurd e
  one_unopened (Stopped stop) e = inl e

not_fault : (n : ℕ) (kind : Kind) → DoneOf ≡ Fault n kind → ⊥
not_fault n kind e = cc

module _ (m : Model) (left : Option (List ℕ)) (start : m.Document) (cs : List Command) (before all : List ℕ) (old new : State) (faults_before faults_now : ℕ) (q : Quiet old new faults_before faults_now) where
  -- where no fault came
  pub answers : length all ≤ 2 ^ 40 → (ended : Ended) → EndsOpened m new left start cs DoneOf before all ended → FaultsWith (end_device ended) old new faults_before faults_now → Answers Done ended
  answers few Done e cause = inl refl
  answers few Refused e cause = absurd e
  answers few (Stopped Image) e cause = absurd (q.image cause.rig.image_count)
  answers few (Stopped Journal) e cause = absurd (q.journal cause.rig.journal_count)
  answers few (Stopped Output) e cause = absurd (q.output cause.rig.output_count)
  answers few (Stopped Input) e cause = absurd (q.input cause.input_count)
  answers few (Stopped Memory) e cause = inr refl
  answers few (Stopped TooLong) (inl e) cause = absurd e.0
  answers few (Stopped TooLong) (inr e) cause = absurd (omega (arith, few, e.longer))
  answers few (Stopped (Script n kind)) (inl e) cause = absurd e.0
  answers few (Stopped (Script n kind)) (inr e) cause = absurd (not_fault n kind e.0.0)

pub one_answers : (m : Model) (s : m.Document) (c : Command) (before : List ℕ) (old new : State) → Quiet old new 0 0 → (ended : Ended) → EndsAlone ended → OneEnds m new s c before ended → Faults (end_device ended) old new → Answers Done ended
one_answers m s c before old new q Done alone e cause = inl refl
one_answers m s c before old new q Refused alone e cause = absurd e
one_answers m s c before old new q (Stopped Image) alone e cause = absurd (q.image cause.image_count)
one_answers m s c before old new q (Stopped Journal) alone e cause = absurd (q.journal cause.journal_count)
one_answers m s c before old new q (Stopped Output) alone e cause = absurd (q.output cause.output_count)
one_answers m s c before old new q (Stopped Input) alone e cause = absurd alone
one_answers m s c before old new q (Stopped Memory) alone e cause = inr refl
one_answers m s c before old new q (Stopped TooLong) alone e cause = absurd alone
one_answers m s c before old new q (Stopped (Script n kind)) alone e cause = absurd alone
