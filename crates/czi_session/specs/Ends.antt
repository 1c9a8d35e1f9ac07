-- How a run ends.
use Rattle.std.specs.Prelude.{◌≡◌, ◌≢◌, ◌⊎◌, ℕ, ◌+◌, ◌<◌, ◌≤◌, ◌^◌, List, [], ◌∷◌, ◌++◌, length, take, drop, Option, Some, Result, Ok, Err}
use Rattle.std.specs.Option.{ForSome}
use Rattle.std.specs.List.{concat}
use Rattle.czi_rig.specs.Disk.{Disk}
use Rattle.czi_rig.specs.declared.file.File.TheVariants as files
use Rattle.czi_rig.specs.State.{State, seen_of}
use Rattle.czi_rig.specs.Moments.{Devices, devices}
use Rattle.czi_rig.specs.Passes.{Rose}
use Rattle.czi_script.specs.declared.kind.Kind.{Kind}
use Rattle.czi_script.specs.Script.{Command, End, Done as DoneOf, Fault, SpellAll, IsUnfinished}
use Rattle.czi_script.specs.Course.{StopsSo}
use Rattle.czi_script.specs.declared.error.ScriptError.TheVariants.{Fault as FaultError}
use Rattle.czi_session.specs.declared.stop.OpenStop.{OpenStop}
use Rattle.czi_session.specs.declared.stop.OpenStop.TheVariants.{Refused as RefusedOf, Stopped as StoppedOf}
use Rattle.czi_session.specs.declared.stop.Stop.{Stop}
use Rattle.czi_session.specs.declared.stop.Stop.TheVariants.{Script, Image, Journal, Output, Input, Memory, TooLong}
use Rattle.czi_session.specs.declared.stop.Ended.{Ended}
use Rattle.czi_session.specs.declared.stop.Ended.TheVariants.{Done, Refused, Stopped}
use Rattle.czi_session.specs.Text.{fault_line}
use Rattle.czi_session.specs.Course.{Model, OnlyRecovered, Sealed, Stands, Unsealed, state_after, replies}

-- a pair that opens isn't refused
abbrev pub IsNoRefusal : OpenStop → Type 0
IsNoRefusal (RefusedOf text) = ⊥
IsNoRefusal (StoppedOf stop) = Unit {0}

-- A refusal is that of the pair, and both files are as they were, but for a recovery.
abbrev pub RefusesPair : Model → Devices → State → OpenStop → Type 0
RefusesPair m all state (RefusedOf text) = m.refuses all.image.seen all.journal.seen text.items × OnlyRecovered m all state
RefusesPair m all state (StoppedOf stop) = Unit {0}

-- Where a reply stops that has so many pieces behind the first, for a fault of the output or, between two pieces, of the image, a
-- front of it was said.
abbrev pub ReplyStops : (m : Model) → (Disk → Disk → m.Document → Type 0) → State → m.Document → (before text : List ℕ) → ℕ → Stop → Type 0
ReplyStops m on state s before text left stop = ((stop ≡ Output) ⊎ ((stop ≡ Image) × (left ≢ 0))) × (n : ℕ) × (n ≤ length text) × Stands m on state (before ++ take n text) s

-- The journal as read isn't sealed, at a state. Or it may be: it says what it said, or is void.
abbrev pub IsUnsealed : (m : Model) → State → m.Document → Type 0
IsUnsealed m state s = ForSome (seen_of state files.Journal) (m.holds s)

abbrev pub MayBeSealed : (m : Model) → State → m.Document → Type 0
MayBeSealed m state s = ForSome (seen_of state files.Journal) (λ journal. m.holds s journal ⊎ m.void journal)

module _ (m : Model) (on : Disk → Disk → m.Document → Type 0) (state : State) where
  -- a front of a reply was said, and the state after its command stands
  abbrev pub SaidFront : m.Document → Command → List ℕ → Type 0
  SaidFront s c before = (n : ℕ) × (n ≤ length (m.reply s c)) × Stands m on state (before ++ take n (m.reply s c)) (m.after s c)

  -- Where one command and its reply stop, this was said. A file fails in a command that changes something, and the image also in the
  -- reply of one that looks into it. At a fault within a reply the state after its command stands, and where memory is wanting the
  -- one before it.
  abbrev pub StepStops : m.Document → Command → List ℕ → Stop → Type 0
  StepStops s c before Output = SaidFront s c before
  StepStops s c before Image = ((state.said ≡ Some before) × (m.still s c → ⊥)) ⊎ (m.looks s c × SaidFront s c before)
  StepStops s c before Journal = (state.said ≡ Some before) × (m.still s c → ⊥)
  StepStops s c before Memory = Stands m on state before s
  StepStops s c before Input = ⊥
  StepStops s c before (Script number kind) = ⊥
  StepStops s c before TooLong = ⊥

  -- all commands were done and their replies said
  abbrev pub AllDone : m.Document → List Command → List ℕ → Type 0
  AllDone start cs before = Stands m on state (before ++ concat (replies m start cs)) (state_after m start cs)

  -- between two commands: some were done and their replies said
  pub record Between (start : m.Document) (cs : List Command) (before : List ℕ) : Type 0 where
    pub done : List Command
    pub rest : List Command
    pub whole : cs ≡ done ++ rest
    pub stands : AllDone start done before

  -- Each command was done whose bytes were taken, and its reply said: the other bytes that were taken are an unfinished
  -- command.
  pub record EachTaken (start : m.Document) (cs : List Command) (before all more : List ℕ) : Type 0 where
    pub done : List Command
    pub rest : List Command
    pub whole : cs ≡ done ++ rest
    pub front : List ℕ
    pub spelled : SpellAll done front
    pub held : List ℕ
    pub taken : all ≡ front ++ (held ++ more)
    pub unfinished : IsUnfinished held
    pub stands : AllDone start done before

  -- inside a command, where the replies before it were said
  pub record Inside (start : m.Document) (cs : List Command) (before : List ℕ) (stop : Stop) : Type 0 where
    pub done : List Command
    pub command : Command
    pub rest : List Command
    pub whole : cs ≡ done ++ command ∷ rest
    pub stops : StepStops (state_after m start done) command (before ++ concat (replies m start done)) stop

  -- a script ended, and all of the input was taken
  pub record Whole (left : Option (List ℕ)) (start : m.Document) (cs : List Command) (end : End) (before all : List ℕ) : Type 0 where
    pub ends : end ≡ DoneOf
    pub short : length all ≤ 2 ^ 40
    pub taken : left ≡ Some []
    pub stands : AllDone start cs before

  -- the input failed
  pub record Failing (left : Option (List ℕ)) (start : m.Document) (cs : List Command) (before all : List ℕ) : Type 0 where
    pub more : List ℕ
    pub left_is : left ≡ Some more
    pub each : EachTaken start cs before all more

  -- the first 2^40 bytes don't suffice, and the input goes on
  pub record Beyond (start : m.Document) (cs : List Command) (before all : List ℕ) : Type 0 where
    pub longer : 2 ^ 40 < length all
    pub each : EachTaken start cs before all (drop (2 ^ 40) all)

  -- a script stopped so, before the last text
  abbrev pub StopsAt : Option (List ℕ) → m.Document → List Command → End → List ℕ → List ℕ → Stop → Type 0
  StopsAt left start cs end before all (Script number kind) = StopsSo all cs end (FaultError number kind) × AllDone start cs before
  StopsAt left start cs end before all Input = Failing left start cs before all
  StopsAt left start cs end before all TooLong = Beyond start cs before all
  StopsAt left start cs end before all Image = Inside start cs before Image
  StopsAt left start cs end before all Journal = Inside start cs before Journal
  StopsAt left start cs end before all Output = Inside start cs before Output
  StopsAt left start cs end before all Memory = Inside start cs before Memory ⊎ Between start cs before

  -- A script stopped so. At its end the journal may not be sealed, and at a fault its text may not be said.
  abbrev pub RunStops : Option (List ℕ) → m.Document → List Command → End → List ℕ → List ℕ → Stop → Type 0
  RunStops left start cs end before all (Script number kind) = StopsSo all cs end (FaultError number kind)
      × Stands m on state (before ++ concat (replies m start cs) ++ fault_line number kind) (state_after m start cs)
  RunStops left start cs end before all Input = Failing left start cs before all
  RunStops left start cs end before all TooLong = Beyond start cs before all
  RunStops left start cs end before all Image = Inside start cs before Image
  RunStops left start cs end before all Journal = Inside start cs before Journal
      ⊎ ((end ≡ DoneOf) × (state.said ≡ Some (before ++ concat (replies m start cs))) × MayBeSealed m state (state_after m start cs))
  RunStops left start cs end before all Output = Inside start cs before Output
      ⊎ ((number : ℕ) × (kind : Kind) × (n : ℕ) × (end ≡ Fault number kind) × (n ≤ length (fault_line number kind)) × Stands m on state (before ++ concat (replies m start cs) ++ take n (fault_line number kind)) (state_after m start cs))
  RunStops left start cs end before all Memory = Inside start cs before Memory ⊎ Between start cs before

  -- a fault's text was said, or a front of it
  abbrev pub TextStops : m.Document → ℕ → Kind → List ℕ → Stop → Type 0
  TextStops s number kind before (Script n k) = (n ≡ number) × (k ≡ kind) × Stands m on state (before ++ fault_line number kind) s
  TextStops s number kind before Output = (n : ℕ) × (n ≤ length (fault_line number kind)) × Stands m on state (before ++ take n (fault_line number kind)) s
  TextStops s number kind before Memory = Stands m on state before s
  TextStops s number kind before Image = ⊥
  TextStops s number kind before Journal = ⊥
  TextStops s number kind before Input = ⊥
  TextStops s number kind before TooLong = ⊥

-- an opening of files that open stops so: nothing was said, and the journal isn't sealed
abbrev pub OpeningSays : (m : Model) → State → m.Document → List ℕ → Stop → Type 0
OpeningSays m state s said Image = (state.said ≡ Some said) × IsUnsealed m state s
OpeningSays m state s said Journal = (state.said ≡ Some said) × IsUnsealed m state s
OpeningSays m state s said Memory = (state.said ≡ Some said) × IsUnsealed m state s
OpeningSays m state s said Output = ⊥
OpeningSays m state s said Input = ⊥
OpeningSays m state s said (Script number kind) = ⊥
OpeningSays m state s said TooLong = ⊥

abbrev pub OpeningEnds : (m : Model) → State → m.Document → List ℕ → Ended → Type 0
OpeningEnds m state s said Done = ⊥
OpeningEnds m state s said Refused = ⊥
OpeningEnds m state s said (Stopped stop) = OpeningSays m state s said stop

-- Where all is known, the pair is one that is refused, what was said is its text, and both files are as they were, but for a
-- recovery.
abbrev pub EndsRefused : Model → State → State → Type 0
EndsRefused m old new = (all : Devices) → devices old ≡ Some all → (text : List ℕ) × m.refuses all.image.seen all.journal.seen text × (new.said ≡ Some (all.said ++ text)) × OnlyRecovered m all new

-- How a run over a pair ends that is refused with this text: it was said whole; a front of it, where the output failed; and
-- nothing, where a file failed or memory was wanting.
abbrev pub SaysRefusal : Option (List ℕ) → List ℕ → List ℕ → Ended → Type 0
SaysRefusal said before text Done = ⊥
SaysRefusal said before text Refused = said ≡ Some (before ++ text)
SaysRefusal said before text (Stopped Image) = said ≡ Some before
SaysRefusal said before text (Stopped Journal) = said ≡ Some before
SaysRefusal said before text (Stopped Output) = (n : ℕ) × (n ≤ length text) × (said ≡ Some (before ++ take n text))
SaysRefusal said before text (Stopped Memory) = said ≡ Some before
SaysRefusal said before text (Stopped Input) = ⊥
SaysRefusal said before text (Stopped (Script number kind)) = ⊥
SaysRefusal said before text (Stopped TooLong) = ⊥

-- the same of each text with which the pair is refused
abbrev pub RefusedEnds : Model → State → State → Ended → Type 0
RefusedEnds m old new ended = (all : Devices) (text : List ℕ) → devices old ≡ Some all → m.refuses all.image.seen all.journal.seen text → SaysRefusal new.said all.said text ended

-- the same, with nothing taken
abbrev pub OpeningStops : (m : Model) → State → Option (List ℕ) → m.Document → List ℕ → List ℕ → Stop → Type 0
OpeningStops m state left s said all stop = OpeningSays m state s said stop × (left ≡ Some all)

-- A run that could open ends so. At its end the journal is sealed; where it stops before, for no fault of a file, it isn't.
abbrev pub EndsOpened : (m : Model) → State → Option (List ℕ) → m.Document → List Command → End → List ℕ → List ℕ → Ended → Type 0
EndsOpened m state left start cs end before all Done = Whole m (Sealed m) state left start cs end before all
EndsOpened m state left start cs end before all Refused = ⊥
EndsOpened m state left start cs end before all (Stopped stop) = OpeningStops m state left start before all stop ⊎ RunStops m (Unsealed m) state left start cs end before all stop

-- no fault came
pub record Quiet (old new : State) (before now : ℕ) : Type 0 where
  pub image : Rose old.image_faults new.image_faults → ⊥
  pub journal : Rose old.journal_faults new.journal_faults → ⊥
  pub output : Rose old.output_faults new.output_faults → ⊥
  pub input : Rose before now → ⊥

-- a run ends so, or finds no memory
abbrev pub Answers : Ended → Ended → Type 0
Answers wanted ended = (ended ≡ wanted) ⊎ (ended ≡ Stopped Memory)

-- How many bytes of an input are taken: at most 2^40, and one more where that shows that it goes on.
abbrev pub most_by : Stop → ℕ
most_by (Script number kind) = 2 ^ 40
most_by Image = 2 ^ 40
most_by Journal = 2 ^ 40
most_by Output = 2 ^ 40
most_by Input = 2 ^ 40
most_by Memory = 2 ^ 40
most_by TooLong = 2 ^ 40 + 1

abbrev pub most_taken : Result (Unit {0}) Stop → ℕ
most_taken (Ok done) = 2 ^ 40
most_taken (Err stop) = most_by stop

abbrev pub most_of : Ended → ℕ
most_of Done = 2 ^ 40
most_of Refused = 0
most_of (Stopped stop) = most_by stop

-- the first of the bytes that were left were taken, at most so many
pub record TakesAtMost (before after : Option (List ℕ)) (most : ℕ) : Type 0 where
  pub count : ℕ
  pub few : count ≤ most
  pub inside : ForSome before (λ bytes. count ≤ length bytes)
  pub rest : ForSome before (λ bytes. after ≡ Some (drop count bytes))

-- One command alone stops so: inside it, or at the sealing.
abbrev pub OneStops : (m : Model) → State → m.Document → Command → List ℕ → Stop → Type 0
OneStops m state s c before stop = StepStops m (Unsealed m) state s c before stop ⊎ ((stop ≡ Journal) × (state.said ≡ Some (before ++ m.reply s c)) × MayBeSealed m state (m.after s c))

-- a run of one command that could open ends so
abbrev pub OneEnds : (m : Model) → State → m.Document → Command → List ℕ → Ended → Type 0
OneEnds m state s c before Done = Stands m (Sealed m) state (before ++ m.reply s c) (m.after s c)
OneEnds m state s c before Refused = ⊥
OneEnds m state s c before (Stopped stop) = OpeningSays m state s before stop ⊎ OneStops m state s c before stop
