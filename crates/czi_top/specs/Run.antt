-- What a run of the program does.
use Rattle.std.specs.Prelude.{◌≡◌, ◌⊎◌, ◌==◌, ℕ, ◌^◌, ◌≤◌, List, [], ◌∷◌, ◌++◌, length, take, codes, Option, None, Some, option_map, if◌then◌else◌}
use Rattle.czi_rig.specs.State.{State}
use Rattle.czi_rig.specs.declared.rig.Rig.{Ghosts}
use Rattle.czi_rig.specs.Faults.{Device, image, journal, output, input}
use Rattle.czi_rig.specs.Moments.{Devices, devices}
use Rattle.czi_script.specs.Script.{Command as Step, End, Done as Finished, Reads}
use Rattle.czi_session.specs.Course.{OnlyReads, Opening}
use Rattle.czi_session.specs.Ends.{EndsOpened, OneEnds, OpeningEnds, TakesAtMost, most_of}
use Rattle.czi_session.specs.Stops.{EndsAlone}
use Rattle.czi_session.specs.declared.stop.Ended.{Ended}
use Rattle.czi_session.specs.declared.stop.Ended.TheVariants.{Done, Refused, Stopped}
use Rattle.czi_session.specs.declared.stop.Stop.TheVariants.{Script, Image, Journal, Output, Input, Memory, TooLong}
use Rattle.czi_editor.specs.Machine.{Begun, IsRefused, the_machine}
use Rattle.czi_top.specs.Words.{Action, AreWords, query, edit, Command, opening, create, step}

-- what is said where the words are no command
unfoldable pub usage : List ℕ
usage = codes "usage: czi_tool FILE COMMAND [name=value ...]" ++ 10 ∷ []

-- The words ask for a command, and this is so of it.
abbrev pub IfAsked : List (List ℕ) → (Command → Type 0) → Type 0
IfAsked words P = (command : Command) → AreWords words (Some command) → P command

-- they ask for an image to be opened, and this is so of what is done with it
abbrev pub IfOpens : List (List ℕ) → (Action → Type 0) → Type 0
IfOpens words P = (action : Action) → AreWords words (Some (opening action)) → P action

-- they ask for a document to be created, and this is so of its GUID
abbrev pub IfCreates : List (List ℕ) → (List ℕ → Type 0) → Type 0
IfCreates words P = (guid : List ℕ) → AreWords words (Some (create guid)) → P guid

-- Memory was wanting for the words themselves, and nothing was done.
abbrev pub Unread : {D I : Type 0} → (old new : D) → (before now : I) → ℕ → Type 0
Unread old new before now status = (status ≡ 8) × (new ≡ old) × (now ≡ before)

-- The commands of a run, and how they end: a query is the script of that one line; `edit` runs the script that the input
-- gives.
abbrev pub Asks : Action → Option (List ℕ) → List Step → End → Type 0
Asks (query q) left cs end = (cs ≡ step q ∷ []) × (end ≡ Finished)
Asks edit left cs end = (input : List ℕ) × (left ≡ Some input) × Reads 1 input cs end

-- the exit status
abbrev pub code_of : Ended → ℕ
code_of Done = 0
code_of Refused = 2
code_of (Stopped (Script number kind)) = 3
code_of (Stopped Image) = 4
code_of (Stopped Journal) = 5
code_of (Stopped Output) = 6
code_of (Stopped Input) = 7
code_of (Stopped Memory) = 8
code_of (Stopped TooLong) = 9

-- What stands and was said where a run ends that began at a state: `left` is what the input had left, `now` what it has left.
abbrev pub EndsAt : Action → State → (left now : Option (List ℕ)) → Begun → List ℕ → Ended → Type 0
EndsAt (query q) state left now b said ended = OneEnds the_machine state b (step q) said ended
EndsAt edit state left now b said ended = (cs : List Step) (end : End) (input : List ℕ) → left ≡ Some input → Reads 1 input cs end → EndsOpened the_machine state now b cs end said input ended

-- a query ends in no fault of a script or the input
abbrev pub IsAlone : Action → Ended → Type 0
IsAlone (query q) ended = EndsAlone ended
IsAlone edit ended = Unit {0}

-- it ended with this status
pub record EndsWith (action : Action) (old new : State) (left now : Option (List ℕ)) (status : ℕ) : Type 0 where
  pub ended : Ended
  pub status_is : status ≡ code_of ended
  pub alone : IsAlone action ended
  pub at : (said : List ℕ) (b : Begun) → Opening the_machine old said b → EndsAt action new left now b said ended

-- what is taken of the input: nothing but by `edit`
abbrev pub TakesByEnd : Action → (left now : Option (List ℕ)) → Ended → Type 0
TakesByEnd (query q) left now ended = now ≡ left
TakesByEnd edit left now ended = TakesAtMost left now (most_of ended)

-- the same, told by the status
abbrev pub TakesByStatus : Command → (left now : Option (List ℕ)) → ℕ → Type 0
TakesByStatus (opening (query q)) left now status = now ≡ left
TakesByStatus (opening edit) left now status = (ended : Ended) × (status ≡ code_of ended) × TakesAtMost left now (most_of ended)
TakesByStatus (create guid) left now status = now ≡ left

-- the script is one that ends well, and not too long
abbrev pub EndsWell : Action → Option (List ℕ) → Type 0
EndsWell (query q) left = Unit {0}
EndsWell edit left = (cs : List Step) × (input : List ℕ) × (left ≡ Some input) × Reads 1 input cs Finished × (length input ≤ 2 ^ 40)

-- both files are refused, and this is the line that says why
abbrev pub RefusedWith : State → List ℕ → Type 0
RefusedWith old text = (all : Devices) × (devices old ≡ Some all) × IsRefused all.image.seen all.journal.seen text

-- this was said, and nothing else
abbrev pub Says : List ℕ → State → State → Type 0
Says bytes old new = new.said ≡ option_map (λ (said : List ℕ). said ++ bytes) old.said

-- The usage line was said whole, or a fault of the output cut it short.
abbrev pub SaysUsage : State → State → ℕ → Type 0
SaysUsage old new status = ((status ≡ 1) × Says usage old new) ⊎ ((status ≡ 6) × (n : ℕ) × (n ≤ length usage) × Says (take n usage) old new)

-- The line was said whole, or a front of it where the output failed, or nothing where a file failed or memory was wanting.
abbrev pub SaysLine : List ℕ → State → State → ℕ → Type 0
SaysLine text old new status = ((status ≡ 2) × Says text old new) ⊎ ((status ≡ 6) × (n : ℕ) × (n ≤ length text) × Says (take n text) old new)
    ⊎ (((status ≡ 4) ⊎ (status ≡ 5) ⊎ (status ≡ 8)) × (new.said ≡ old.said))

-- the device that failed, by the status
abbrev pub status_device : ℕ → Option Device
status_device status =
    if status == 4 then Some image
    else if status == 5 then Some journal
    else if status == 6 then Some output
    else if status == 7 then Some input
    else None

-- the run may have ended so while it opened the files: at a fault of a file, or for want of memory
abbrev pub MayBeUnopened : ℕ → Type 0
MayBeUnopened status = (status ≡ 4) ⊎ (status ≡ 5) ⊎ (status ≡ 8)

-- A query opens the files, and then leaves them alone until the reply is said; or the files didn't open.
abbrev pub LooksOnly : {D : Type 0} → Ghosts D → D → D → Step → List ℕ → Begun → Ended → Type 0
LooksOnly rig old new c said b ended = OpeningEnds the_machine (rig.state new) b said ended
    ⊎ (OnlyReads rig old new the_machine said (the_machine.reply b c) b (the_machine.after b c) × (ended ≡ Stopped Image → the_machine.looks b c))

abbrev pub Looks : {D : Type 0} → Ghosts D → D → D → Action → List ℕ → Begun → Ended → Type 0
Looks rig old new (query q) said b ended = LooksOnly rig old new (step q) said b ended
Looks rig old new edit said b ended = Unit {0}

-- the same, told by the status
abbrev pub LooksWith : {D : Type 0} → Ghosts D → D → D → Action → List ℕ → Begun → ℕ → Type 0
LooksWith rig old new action said b status = (ended : Ended) × (status ≡ code_of ended) × Looks rig old new action said b ended
