-- A run goes on.
use Rattle.std.proofs.Common.{◌≡◌, inl, inr, ℕ, ◌+◌, ◌-◌, ◌<◌, ◌≤◌, List, [], ◌∷◌, ◌++◌, length, take, drop, Option, Some, None, Result, Ok, Err, zero-le, sym, ap, refl, ◌∙◌, arith, subst, append_assoc, length-append}
use Rattle.std.specs.List.{concat}
use Rattle.std.specs.Option.{ForSome}
use Rattle.std.specs.Prelude.{◌^◌, option_map}
use Rattle.std.proofs.lemmas.List.{append-nil, drop-drop, take-append-drop, length-drop}
use Rattle.std.proofs.lemmas.Option.{same_Some}
use Rattle.std.proofs.Math.Seq.{drop-append-add}
use Rattle.czi_rig.specs.declared.rig.Rig.{Ghosts}
use Rattle.czi_rig.specs.Disk.{Disk}
use Rattle.czi_rig.specs.State.{State}
use Rattle.czi_rig.specs.Moments.{Throughout}
use Rattle.czi_rig.specs.Spans.{InSpans}
use Rattle.czi_rig.proofs.Runs.{joined, weaker}
use Rattle.czi_rig.proofs.Spans.{spans_then}
use Rattle.czi_script.specs.declared.command.Command.{Command as CodeCommand}
use Rattle.czi_script.specs.declared.kind.Kind.{Kind}
use Rattle.czi_script.specs.declared.error.ScriptError.{ScriptError}
use Rattle.czi_script.specs.declared.error.ScriptError.TheVariants.{Fault as FaultError, Input as InputError, TooLong as TooLongError, Memory as MemoryError}
use Rattle.czi_script.specs.Script.{Command, End, Reads, Spells, SpellAll, IsUnfinished}
use Rattle.czi_script.specs.Reader.{Reader, IsReader, ahead, unused, room, FindsError, FindsSome, LeavesSome, LeavesError, CountsError, TakesCounted, lost_by}
use Rattle.czi_script.specs.View.{command_of}
use Rattle.czi_script.specs.Course.{StopsSo, Midway as InScript}
use Rattle.czi_script.proofs.Course.{over, stops}
use Rattle.czi_script.proofs.Faults.{shown_fault}
use Rattle.czi_script.proofs.Reading.{After, reads_next, reads_empty, reads_fault}
use Rattle.czi_session.specs.declared.stop.Stop.{Stop}
use Rattle.czi_session.specs.declared.stop.Stop.TheVariants.{Script, Image, Journal, Output, Input, Memory, TooLong}
use Rattle.czi_session.specs.Stops.{stop_by}
use Rattle.czi_session.specs.Course.{Model, Stands, Starts, ReadsToPrefix, RestsNow, Unsealed, WithinStep, state_after, replies}
use Rattle.czi_session.specs.Ends.{AllDone, Between, EachTaken, Failing, Beyond, Inside, Whole, StepStops, StopsAt, TakesAtMost, most_by, most_taken}
use Rattle.czi_session.proofs.Course.{state_more, spoken_more, reads_step}
use Rattle.czi_session.proofs.Spoken.{stands_rest}

-- A run has come so far: it has read these commands, and something stands on both files at the state after them, with
-- their replies said.
pub record Midway (m : Model) (on : Disk → Disk → m.Document → Type 0) (reader : Reader) (left : Option (List ℕ)) (state : State) (start : m.Document) (cs : List Command) (end : End) (before all : List ℕ) : Type 0 where
  pub script : InScript reader left all cs end
  pub stands : Stands m on state (before ++ concat (replies m start script.done)) (state_after m start script.done)

pub midway_begins : (m : Model) (on : Disk → Disk → m.Document → Type 0) (reader : Reader) (left : Option (List ℕ)) (state : State) (start : m.Document) (cs : List Command) (end : End) (before : List ℕ)
    → reader ≡ unused → (s : Starts m on left state cs end before start) → Midway m on reader left state start cs end before s.input
midway_begins m on reader left state start cs end before is s = subst (λ r. Midway m on r left state start cs end before s.input) (sym is) (record {
  script = record {
    done = [];
    rest = cs;
    whole = refl;
    front = [];
    spelled = refl;
    input = s.input;
    told = ap (ahead unused) s.told;
    taken = refl;
    reads = s.reads;
    uses = refl;
    counted = refl;
  };
  stands = subst (λ (x : List ℕ). Stands m on state x start) (sym (append-nil before)) s.stands;
})

spell_more : (done : List Command) (front spelled : List ℕ) (c : Command) → SpellAll done front → Spells c spelled → SpellAll (done ++ c ∷ []) (front ++ spelled)
spell_more [] front spelled c all s = (spelled, [], ap (λ (l : List ℕ). l ++ spelled) all ∙ sym (append-nil spelled), s, refl)
spell_more (d ∷ done) front spelled c all s = (all.0, all.1 ++ spelled, ap (λ (l : List ℕ). l ++ spelled) all.2 ∙ append_assoc all.0 all.1 spelled, all.3, spell_more done all.1 spelled c all.4 s)

-- what is left, where this is ahead
record IsAhead (held input : List ℕ) (left : Option (List ℕ)) : Type 0 where
  more : List ℕ
  left_is : left ≡ Some more
  whole : input ≡ held ++ more

is_ahead : (held input : List ℕ) (left : Option (List ℕ)) → option_map (λ (bytes : List ℕ). held ++ bytes) left ≡ Some input → IsAhead held input left
is_ahead held input None e = cc
is_ahead held input (Some more) e = record { more = more; left_is = refl; whole = sym (same_Some (held ++ more) input e) }

behind_nothing : (held more : List ℕ) → [] ≡ held ++ more → more ≡ []
behind_nothing [] more e = sym e
behind_nothing (b ∷ held) more e = cc

module _ (m : Model) (on : Disk → Disk → m.Document → Type 0) (reader : Reader) (left : Option (List ℕ)) (state : State) (start : m.Document) (cs : List Command) (end : End) (before all : List ℕ)
    (mid : Midway m on reader left state start cs end before all) where
  module _ (c : CodeCommand) (now : Reader) (now_left : Option (List ℕ)) (leaves : (bytes : List ℕ) → ahead reader left ≡ Some bytes → LeavesSome reader now bytes (ahead now now_left) (Some c)) where
    abbrev pub after : After (length mid.script.done + 1) (command_of c) (leaves mid.script.input mid.script.told).1 mid.script.rest end
    after = let l = leaves mid.script.input mid.script.told in reads_next (length mid.script.done + 1) (command_of c) l.0 l.1 mid.script.input mid.script.rest end l.2 l.3 mid.script.reads

    next_whole : cs ≡ mid.script.done ++ command_of c ∷ after.rest
    next_whole = mid.script.whole ∙ ap (λ (x : List Command). mid.script.done ++ x) after.whole

    pub midway_next : (now_on : Disk → Disk → m.Document → Type 0) (now_state : State) → now.commands ≡ reader.commands + 1
        → ((said : List ℕ) (s : m.Document) → Stands m on state said s → Stands m now_on now_state (said ++ m.reply s (command_of c)) (m.after s (command_of c))) → Midway m now_on now now_left now_state start cs end before all
    midway_next now_on now_state one stood =
        let l = leaves mid.script.input mid.script.told in
        let done = mid.script.done in
        let n : length (done ++ command_of c ∷ []) ≡ length done + 1 = length-append done (command_of c ∷ []) in
        record {
          script = record {
            done = done ++ command_of c ∷ [];
            rest = after.rest;
            whole = next_whole ∙ sym (append_assoc done (command_of c ∷ []) after.rest);
            front = mid.script.front ++ l.0;
            spelled = spell_more done mid.script.front l.0 (command_of c) mid.script.spelled l.3;
            input = l.1;
            told = l.4;
            taken = mid.script.taken ∙ ap (λ (x : List ℕ). mid.script.front ++ x) l.2 ∙ sym (append_assoc mid.script.front l.0 l.1);
            reads = subst (λ (k : ℕ). Reads (k + 1) l.1 after.rest end) (sym n) after.reads;
            uses = l.5 ∙ ap (λ (k : ℕ). k + length l.0) mid.script.uses ∙ sym (length-append mid.script.front l.0);
            counted = one ∙ ap (λ (k : ℕ). k + 1) mid.script.counted ∙ sym n;
          };
          stands = rw (spoken_more m start done (command_of c), state_more m start done (command_of c), ← append_assoc before (concat (replies m start done)) (m.reply (state_after m start done) (command_of c)))
              (stood (before ++ concat (replies m start done)) (state_after m start done) mid.stands);
        }

    pub moments_next : (something : (s : m.Document) (d : Command) → 0 < length (m.reply s d)) {D : Type 0} (rig : Ghosts D) (first old new : D) (last : List ℕ) → Throughout rig first old (ReadsToPrefix m start cs last before)
        → ((said : List ℕ) (s : m.Document) → Stands m on state said s → Throughout rig old new (WithinStep m s (command_of c) said)) → Throughout rig first new (ReadsToPrefix m start cs last before)
    moments_next something rig first old new last so_far step = joined rig so_far (weaker rig
        (λ i j o w. subst (λ ds. ReadsToPrefix m start ds last before i j o) (sym next_whole) (reads_step m something start last before mid.script.done (command_of c) after.rest i j o w))
        (step (before ++ concat (replies m start mid.script.done)) (state_after m start mid.script.done) mid.stands))

    pub alike_next : {D : Type 0} (rig : Ghosts D) (first old new : D) → InSpans rig first old m.alike → ((said : List ℕ) (s : m.Document) → Stands m on state said s → InSpans rig old new m.alike) → InSpans rig first new m.alike
    alike_next rig first old new so_far step = spans_then rig m.alike first old new so_far (step (before ++ concat (replies m start mid.script.done)) (state_after m start mid.script.done) mid.stands)

    -- the command stopped
    inside : (now_state : State) (stop : Stop) → ((said : List ℕ) (s : m.Document) → Stands m on state said s → StepStops m (Unsealed m) now_state s (command_of c) said stop) → Inside m (Unsealed m) now_state start cs before stop
    inside now_state stop stops = record {
      done = mid.script.done;
      command = command_of c;
      rest = after.rest;
      whole = next_whole;
      stops = stops (before ++ concat (replies m start mid.script.done)) (state_after m start mid.script.done) mid.stands;
    }

    pub step_stops : (now_state : State) (last_left : Option (List ℕ)) (stop : Stop) → ((said : List ℕ) (s : m.Document) → Stands m on state said s → StepStops m (Unsealed m) now_state s (command_of c) said stop)
        → StopsAt m (Unsealed m) now_state last_left start cs end before all stop
    step_stops now_state last_left Image stops = inside now_state Image stops
    step_stops now_state last_left Journal stops = inside now_state Journal stops
    step_stops now_state last_left Output stops = inside now_state Output stops
    step_stops now_state last_left Memory stops = inl (inside now_state Memory stops)
    step_stops now_state last_left (Script n kind) stops = absurd (stops (before ++ concat (replies m start mid.script.done)) (state_after m start mid.script.done) mid.stands)
    step_stops now_state last_left Input stops = absurd (stops (before ++ concat (replies m start mid.script.done)) (state_after m start mid.script.done) mid.stands)
    step_stops now_state last_left TooLong stops = absurd (stops (before ++ concat (replies m start mid.script.done)) (state_after m start mid.script.done) mid.stands)

  all_done : mid.script.rest ≡ [] → AllDone m on state start cs before
  all_done none = subst (λ ds. AllDone m on state start ds before) (sym (mid.script.whole ∙ ap (λ (x : List Command). mid.script.done ++ x) none ∙ append-nil mid.script.done)) mid.stands

  -- the input ended
  pub whole : IsReader reader → (now : Reader) (now_left : Option (List ℕ)) → ((bytes : List ℕ) → ahead reader left ≡ Some bytes → FindsSome reader bytes None)
      → ((bytes : List ℕ) → ahead reader left ≡ Some bytes → LeavesSome reader now bytes (ahead now now_left) None) → Whole m on state now_left start cs end before all
  whole sound now now_left none leaves =
      let input = mid.script.input in
      let empty : input ≡ [] = none input mid.script.told in
      let ends = over reader left all cs end sound mid.script none in
      let a : IsAhead now.held input now_left = is_ahead now.held input now_left (leaves input mid.script.told).0 in
      let nothing = reads_empty (length mid.script.done + 1) mid.script.rest end (subst (λ b. Reads (length mid.script.done + 1) b mid.script.rest end) empty mid.script.reads) in
      record {
        ends = ends.0;
        short = ends.2;
        taken = a.left_is ∙ ap (λ (x : List ℕ). Some x) (behind_nothing now.held a.more (sym empty ∙ a.whole));
        stands = all_done nothing.0;
      }

  module _ (rests : RestsNow m on) (sound : IsReader reader) (now : Reader) (now_left : Option (List ℕ)) (same : now.commands ≡ reader.commands) where
    each_taken : (held more : List ℕ) → mid.script.input ≡ held ++ more → IsUnfinished held → EachTaken m (Unsealed m) state start cs before all more
    each_taken held more is unfinished = record {
      done = mid.script.done;
      rest = mid.script.rest;
      whole = mid.script.whole;
      front = mid.script.front;
      spelled = mid.script.spelled;
      held = held;
      taken = mid.script.taken ∙ ap (λ (x : List ℕ). mid.script.front ++ x) is;
      unfinished = unfinished;
      stands = stands_rest m on rests state _ _ mid.stands;
    }

    -- the input failed
    failing : LeavesError reader now left now_left InputError → Failing m (Unsealed m) state now_left start cs before all
    failing leaves =
        let r = leaves.1.rest mid.script.input mid.script.told in
        let a : IsAhead now.held r.0 now_left = is_ahead now.held r.0 now_left r.2 in
        record {
          more = a.more;
          left_is = a.left_is;
          each = each_taken (leaves.0 ++ now.held) a.more (r.1 ∙ ap (λ (x : List ℕ). leaves.0 ++ x) a.whole ∙ sym (append_assoc leaves.0 now.held a.more)) leaves.2;
        }

    -- the input goes on
    beyond : ((bytes : List ℕ) → ahead reader left ≡ Some bytes → FindsError reader bytes TooLongError) → Beyond m (Unsealed m) state start cs before all
    beyond finds =
        let input = mid.script.input in
        let front = mid.script.front in
        let f = finds input mid.script.told in
        let few : length front ≤ 2 ^ 40 = omega (arith, mid.script.uses, sound.few) in
        let n : room reader + length front ≡ 2 ^ 40 = omega (arith, mid.script.uses, sound.few) in
        let turned : length front + room reader ≡ 2 ^ 40 = omega (arith, n) in
        let behind : drop (2 ^ 40) all ≡ drop (room reader) input = ap (λ (x : List ℕ). drop (2 ^ 40) x) mid.script.taken ∙ ap (λ (k : ℕ). drop k (front ++ input)) (sym turned) ∙ drop-append-add front input (room reader) in
        record {
          longer = omega (arith, ap (λ (x : List ℕ). length x) mid.script.taken, length-append front input, f.0, n);
          each = subst (λ x. EachTaken m (Unsealed m) state start cs before all x) (sym behind)
              (each_taken (take (room reader) input) (drop (room reader) input) (sym (take-append-drop (room reader) input)) f.1);
        }

    -- what comes is no command
    fault : (n : ℕ) (kind : Kind) → ((bytes : List ℕ) → ahead reader left ≡ Some bytes → FindsError reader bytes (FaultError n kind)) → CountsError now (FaultError n kind)
        → StopsSo all cs end (FaultError n kind) × AllDone m (Unsealed m) state start cs before
    fault n kind finds counts =
        let over = reads_fault (length mid.script.done + 1) mid.script.input kind mid.script.rest end (shown_fault (room reader) kind mid.script.input (finds mid.script.input mid.script.told)) mid.script.reads in
        (stops reader now left all cs end (FaultError n kind) sound mid.script same finds counts, stands_rest m on rests state _ _ (all_done over.0))

    between : Between m (Unsealed m) state start cs before
    between = record { done = mid.script.done; rest = mid.script.rest; whole = mid.script.whole; stands = stands_rest m on rests state _ _ mid.stands }

    pub reader_stops : (error : ScriptError) → ((bytes : List ℕ) → ahead reader left ≡ Some bytes → FindsError reader bytes error) → LeavesError reader now left now_left error
        → CountsError now error → StopsAt m (Unsealed m) state now_left start cs end before all (stop_by error)
    reader_stops (FaultError n kind) finds leaves counts = fault n kind finds counts
    reader_stops InputError finds leaves counts = failing leaves
    reader_stops TooLongError finds leaves counts = beyond finds
    reader_stops MemoryError finds leaves counts = inr between

-- these bytes were taken so far
abbrev pub TakenSoFar : Option (List ℕ) → Option (List ℕ) → ℕ → Type 0
TakenSoFar before now n = ForSome before (λ bytes. (n ≤ length bytes) × (now ≡ Some (drop n bytes)))

pub taken_more : (first before after : Option (List ℕ)) (old new : Reader) (more : ℕ) → TakenSoFar first before old.taken → TakesCounted old new before after more → TakenSoFar first after (new.taken + more)
taken_more first before after old new more so_far t = λ all is.
    let was = so_far all is in
    let n : ℕ = (new.taken - old.taken) + more in
    let k : old.taken + ((new.taken - old.taken) + more) ≡ new.taken + more = omega (arith, t.later) in (
      omega (arith, was.0, t.later, t.inside (drop old.taken all) was.1, length-drop old.taken all),
      t.rest (drop old.taken all) was.1 ∙ ap (λ (x : List ℕ). Some x) (drop-drop ((new.taken - old.taken) + more) old.taken all ∙ ap (λ (x : ℕ). drop x all) k),
    )

pub taken_on : (first before after : Option (List ℕ)) (old new : Reader) → TakenSoFar first before old.taken → TakesCounted old new before after 0 → TakenSoFar first after new.taken
taken_on first before after old new so_far t = subst (λ k. TakenSoFar first after k) (none new.taken) (taken_more first before after old new 0 so_far t)
  where
    none : (n : ℕ) → n + 0 ≡ n
    none n = omega arith

pub taken_first : (left : Option (List ℕ)) (reader : Reader) → reader ≡ unused → TakenSoFar left left reader.taken
taken_first left reader is = subst (λ r. TakenSoFar left left r.taken) (sym is) (λ all e. (zero-le, e))

pub sound_first : (reader : Reader) → reader ≡ unused → IsReader reader
sound_first reader is = subst (λ r. IsReader r) (sym is) (record { counted = zero-le; few = zero-le })

pub most_any : (result : Result (Unit {0}) Stop) → 2 ^ 40 ≤ most_taken result
most_any (Ok u) = omega arith
most_any (Err (Script n kind)) = omega arith
most_any (Err Image) = omega arith
most_any (Err Journal) = omega arith
most_any (Err Output) = omega arith
most_any (Err Input) = omega arith
most_any (Err Memory) = omega arith
most_any (Err TooLong) = omega arith

pub takes_more : (before after : Option (List ℕ)) (most more : ℕ) → most ≤ more → TakesAtMost before after most → TakesAtMost before after more
takes_more before after most more le t = record { count = t.count; few = omega (arith, le, t.few); inside = t.inside; rest = t.rest }

taken_by : (before now : Option (List ℕ)) (n most : ℕ) → n ≤ most → TakenSoFar before now n → TakesAtMost before now most
taken_by before now n most le t = record { count = n; few = le; inside = λ all is. (t all is).0; rest = λ all is. (t all is).1 }

pub takes_any : (before after : Option (List ℕ)) (reader : Reader) → IsReader reader → TakenSoFar before after reader.taken → (result : Result (Unit {0}) Stop) → TakesAtMost before after (most_taken result)
takes_any before after reader sound t result = takes_more before after (2 ^ 40) (most_taken result) (most_any result) (taken_by before after reader.taken (2 ^ 40) sound.few t)

pub takes_stopped : (first before after : Option (List ℕ)) (old new : Reader) (error : ScriptError) → IsReader new → TakenSoFar first before old.taken → TakesCounted old new before after (lost_by error) → TakesAtMost first after (most_by (stop_by error))
takes_stopped first before after old new (FaultError n kind) sound so_far t = takes_any first after new sound (taken_on first before after old new so_far t) (Err (Script n kind))
takes_stopped first before after old new InputError sound so_far t = takes_any first after new sound (taken_on first before after old new so_far t) (Err Input)
takes_stopped first before after old new MemoryError sound so_far t = takes_any first after new sound (taken_on first before after old new so_far t) (Err Memory)
takes_stopped first before after old new TooLongError sound so_far t = taken_by first after (new.taken + 1) (2 ^ 40 + 1) (omega (arith, sound.few)) (taken_more first before after old new 1 so_far t)
