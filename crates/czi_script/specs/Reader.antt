-- What a reader of scripts shows, and what reading a command does.
use Rattle.std.specs.Prelude.{◌≡◌, ℕ, ◌+◌, ◌-◌, ◌^◌, ◌<◌, ◌≤◌, List, [], ◌∷◌, ◌++◌, drop, length, Option, Some, None, option_map, Result, Ok, Err}
use Rattle.std.specs.Option.{ForSome}
use Rattle.czi_rig.specs.Faults.{Device, input}
use Rattle.czi_script.specs.declared.command.Command.{Command as CodeCommand}
use Rattle.czi_script.specs.declared.error.ScriptError.{ScriptError}
use Rattle.czi_script.specs.declared.error.ScriptError.TheVariants.{Fault, Input as InputFailed, TooLong, Memory}
use Rattle.czi_script.specs.declared.kind.Kind.{Kind}
use Rattle.czi_script.specs.declared.kind.Kind.TheVariants.{Cut, Long, Word, Later, Field, Value, Tail}
use Rattle.czi_script.specs.Script.{HasNo, IsUnfinished, Next, Ended, Wrong, Beyond, Finds, Spells}
use Rattle.czi_script.specs.View.{command_of}

-- the bytes that were taken and are not used yet, how many were taken in all, how many commands were read, and the error
-- that was answered, if one was
pub record Reader : Type 0 where
  pub held : List ℕ
  pub taken : ℕ
  pub commands : ℕ
  pub error : Option ScriptError

-- a reader that took nothing
abbrev pub unused : Reader
unused = record { held = []; taken = 0; commands = 0; error = None }

-- so many bytes are taken of an input at most
abbrev pub limit : ℕ
limit = 2 ^ 40

-- Each command had a byte, and no more bytes were taken than may be.
pub record IsReader (r : Reader) : Type 0 where
  pub counted : r.commands + length r.held ≤ r.taken
  pub few : r.taken ≤ limit

-- how many bytes the commands had that were read
abbrev pub used : Reader → ℕ
used r = r.taken - length r.held

-- how many bytes a reader holds or may take
abbrev pub room : Reader → ℕ
room r = limit - used r

-- what is ahead: the bytes that were taken and not used, and then what the input has left
abbrev pub ahead : Reader → Option (List ℕ) → Option (List ℕ)
ahead r left = option_map (λ (bytes : List ℕ). r.held ++ bytes) left

-- What an answer says of the bytes ahead. A failed input and want of memory say nothing.
abbrev pub FindsError : Reader → List ℕ → ScriptError → Type 0
FindsError r bytes (Fault number kind) = Finds (room r) bytes (Wrong kind)
FindsError r bytes InputFailed = Unit {0}
FindsError r bytes TooLong = Finds (room r) bytes Beyond
FindsError r bytes Memory = Unit {0}

abbrev pub FindsSome : Reader → List ℕ → Option CodeCommand → Type 0
FindsSome r bytes (Some c) = Finds (room r) bytes (Next (command_of c))
FindsSome r bytes None = Finds (room r) bytes Ended

abbrev pub FindsThere : Reader → List ℕ → Result (Option CodeCommand) ScriptError → Type 0
FindsThere r bytes (Ok found) = FindsSome r bytes found
FindsThere r bytes (Err error) = FindsError r bytes error

-- The reader used these bytes, which were the first ahead.
pub record Uses (old new : Reader) (before after : Option (List ℕ)) (bytes : List ℕ) : Type 0 where
  pub counted : used new ≡ used old + length bytes
  pub rest : ForSome (ahead old before) (λ all. (more : List ℕ) × (all ≡ bytes ++ more) × (ahead new after ≡ Some more))

-- one byte of the input was taken
abbrev pub GoesOn : Option (List ℕ) → Option (List ℕ) → Type 0
GoesOn before after = ForSome before (λ left. (b : ℕ) × (rest : List ℕ) × (left ≡ b ∷ rest) × (after ≡ Some rest))

-- A line that is wrong or too long isn't used. Of a command that is cut, or whose payload ends otherwise, the bytes in front of
-- that may be.
abbrev pub IsUsedBefore : Kind → List ℕ → Type 0
IsUsedBefore Cut gone = IsUnfinished gone
IsUsedBefore Long gone = gone ≡ []
IsUsedBefore Word gone = gone ≡ []
IsUsedBefore Later gone = gone ≡ []
IsUsedBefore Field gone = gone ≡ []
IsUsedBefore Value gone = gone ≡ []
IsUsedBefore Tail gone = IsUnfinished gone

-- What is ahead afterwards: what stands behind the spelling of the command that was read, and else all that was, but for bytes
-- of an unfinished command, which may be used. Where the input failed, or goes on behind the limit, each command was read whose
-- bytes were taken: those that were used, with those that are held, are an unfinished command. Behind the limit the byte that
-- shows that the input goes on is lost.
abbrev pub LeavesError : Reader → Reader → Option (List ℕ) → Option (List ℕ) → ScriptError → Type 0
LeavesError old new before after (Fault number kind) = (gone : List ℕ) × Uses old new before after gone × IsUsedBefore kind gone
LeavesError old new before after InputFailed = (gone : List ℕ) × Uses old new before after gone × IsUnfinished (gone ++ new.held)
LeavesError old new before after TooLong = (gone : List ℕ) × (middle : Option (List ℕ)) × Uses old new before middle gone × IsUnfinished (gone ++ new.held) × (new.taken ≡ limit) × GoesOn middle after
LeavesError old new before after Memory = (gone : List ℕ) × Uses old new before after gone × IsUnfinished gone

abbrev pub LeavesSome : Reader → Reader → List ℕ → Option (List ℕ) → Option CodeCommand → Type 0
LeavesSome old new bytes after (Some c) = (spelled more : List ℕ) × (bytes ≡ spelled ++ more) × Spells (command_of c) spelled × (after ≡ Some more) × (used new ≡ used old + length spelled)
LeavesSome old new bytes after None = (after ≡ Some bytes) × (used new ≡ used old)

abbrev pub Leaves : Reader → Reader → Option (List ℕ) → Option (List ℕ) → Result (Option CodeCommand) ScriptError → Type 0
Leaves old new before after (Ok found) = ForSome (ahead old before) (λ bytes. LeavesSome old new bytes (ahead new after) found)
Leaves old new before after (Err error) = LeavesError old new before after error

-- no whole line is among the bytes that are held
pub record HoldsNoLine (r : Reader) : Type 0 where
  pub short : length r.held < 4096
  pub free : HasNo 10 r.held

-- The numbers of commands: one more was read where one is answered, and the number of a fault is the next one.
abbrev pub CountsError : Reader → ScriptError → Type 0
CountsError r (Fault number kind) = number ≡ r.commands + 1
CountsError r InputFailed = Unit {0}
CountsError r TooLong = Unit {0}
CountsError r Memory = Unit {0}

abbrev pub CountsSome : Reader → Reader → Option CodeCommand → Type 0
CountsSome old new (Some c) = new.commands ≡ old.commands + 1
CountsSome old new None = new.commands ≡ old.commands

abbrev pub Counts : Reader → Reader → Result (Option CodeCommand) ScriptError → Type 0
Counts old new (Ok found) = CountsSome old new found
Counts old new (Err error) = (new.commands ≡ old.commands) × CountsError new error

-- the error that is kept
abbrev pub kept : Result (Option CodeCommand) ScriptError → Option ScriptError
kept (Ok found) = None
kept (Err error) = Some error

-- the device that an error tells: the input, where a call of it failed
abbrev pub script_device : ScriptError → Option Device
script_device (Fault number kind) = None
script_device InputFailed = Some input
script_device TooLong = None
script_device Memory = None

-- how many bytes are lost: the one behind the limit
abbrev pub lost_by : ScriptError → ℕ
lost_by (Fault number kind) = 0
lost_by InputFailed = 0
lost_by TooLong = 1
lost_by Memory = 0

abbrev pub lost : Result (Option CodeCommand) ScriptError → ℕ
lost (Ok found) = 0
lost (Err error) = lost_by error

-- The bytes that are taken are the first that the input has left. All of them are counted, but for one behind the limit.
pub record TakesCounted (old new : Reader) (before after : Option (List ℕ)) (more : ℕ) : Type 0 where
  pub later : old.taken ≤ new.taken
  pub inside : ForSome before (λ left. (new.taken - old.taken) + more ≤ length left)
  pub rest : ForSome before (λ left. after ≡ Some (drop ((new.taken - old.taken) + more) left))
