-- A run of commands, and what a crash leaves of it.
use Rattle.std.specs.Prelude.{◌≡◌, ◌⊎◌, ℕ, zero, suc, ◌+◌, ◌-◌, ◌≤◌, Bool, true, false, List, [], ◌∷◌, ◌++◌, length, take, Option, Some}
use Rattle.std.specs.List.{concat}
use Rattle.std.specs.Option.{ForSome}
use Rattle.czi_script.specs.Script.{Command, End, Reads}
use Rattle.czi_rig.specs.Disk.{Disk, Left, Everywhere}
use Rattle.czi_rig.specs.State.{State, Instant, SameFiles, seen_of}
use Rattle.czi_rig.specs.declared.rig.Rig.{Ghosts}
use Rattle.czi_rig.specs.declared.file.File.TheVariants.{Image, Journal}
use Rattle.czi_rig.specs.Faults.{Device}
use Rattle.czi_rig.specs.Moments.{Devices, LeavesSaying, devices, Throughout, FromSomeMoment, LeavesNothingNew}
use Rattle.czi_rig.specs.Spans.{During, InSpans}
use Rattle.czi_session.specs.Stops.{IsFile}

-- What an editor is about: its states; which of them an image and a journal that a crash leaves open to; which images, read
-- without a journal, wait for it or show a state's document; which image a pair stands for; which two pairs have the same bytes
-- in each item that both need; at which states a run over an image and a journal begins; which pairs are refused and with what
-- text; which pairs stand for what an earlier one stood for; what a journal that isn't sealed says at a state; which journals are
-- void; what a command makes of a state, and its reply there; which commands change nothing of a state, as queries and edits
-- that are refused; and which look into the image for their reply.
pub record Model : Type 1 where
  pub Document : Type 0
  pub opens : List ℕ → List ℕ → Document → Type 0
  pub alone : List ℕ → Document → Type 0
  pub recovers : (image journal bytes : List ℕ) → Type 0
  pub alike : (image journal other_image other_journal : List ℕ) → Type 0
  pub begins : List ℕ → List ℕ → Document → Type 0
  pub refuses : List ℕ → List ℕ → List ℕ → Type 0
  pub keeps : (image journal now_image now_journal : List ℕ) → Type 0
  pub holds : Document → List ℕ → Type 0
  pub void : List ℕ → Type 0
  pub after : Document → Command → Document
  pub reply : Document → Command → List ℕ
  pub still : Document → Command → Type 0
  pub looks : Document → Command → Type 0

-- the state after these commands
abbrev pub state_after : (m : Model) → m.Document → List Command → m.Document
state_after m s [] = s
state_after m s (c ∷ cs) = state_after m (m.after s c) cs

-- their replies
abbrev pub replies : (m : Model) → m.Document → List Command → List (List ℕ)
replies m s [] = []
replies m s (c ∷ cs) = m.reply s c ∷ replies m (m.after s c) cs

-- the bytes begin with these
abbrev pub BeginsWith : List ℕ → List ℕ → Type 0
BeginsWith start bytes = (rest : List ℕ) × (bytes ≡ start ++ rest)

-- k is the greatest number such that the first k replies one after another begin what was said
pub record Said (all : List (List ℕ)) (said : List ℕ) (k : ℕ) : Type 0 where
  pub among : k ≤ length all
  pub begins : BeginsWith (concat (take k all)) said
  pub greatest : (n : ℕ) → n ≤ length all → BeginsWith (concat (take n all)) said → n ≤ k

-- the text after the first k replies: the next one, or the last text
abbrev pub text_at : List (List ℕ) → List ℕ → ℕ → List ℕ
text_at [] last k = last
text_at (r ∷ rs) last zero = r
text_at (r ∷ rs) last (suc k) = text_at rs last k

-- What a crash left opens to the state after the first j commands, where the first k replies had been said, and a front of
-- the next text.
pub record OpensToPrefix (m : Model) (start : m.Document) (cs : List Command) (last before image journal said : List ℕ) : Type 0 where
  pub said_since : List ℕ
  pub said_is : said ≡ before ++ said_since
  pub k : ℕ
  pub counts : Said (replies m start cs) said_since k
  pub j : ℕ
  pub near : (j ≡ k) ⊎ (j ≡ k + 1)
  pub among : j ≤ length cs
  pub opens : m.opens image journal (state_after m start (take j cs))
  pub n : ℕ
  pub every_reply : said_since ≡ concat (take k (replies m start cs)) ++ take n (text_at (replies m start cs) last k)

-- Beside that, the image that was left, read without its journal, waits for it or shows the document of that state, or of the one
-- before the last of the j commands.
pub record ReadsToPrefix (m : Model) (start : m.Document) (cs : List Command) (last before image journal said : List ℕ) : Type 0 where
  pub prefix : OpensToPrefix m start cs last before image journal said
  pub alone : m.alone image (state_after m start (take prefix.j cs)) ⊎ m.alone image (state_after m start (take (prefix.j - 1) cs))

-- something stands on both files at this state, and this was said
pub record Stands (m : Model) (on : Disk → Disk → m.Document → Type 0) (state : State) (said : List ℕ) (s : m.Document) : Type 0 where
  pub now : Devices
  pub known : devices state ≡ Some now
  pub said_is : now.said ≡ said
  pub stands : on now.image now.journal s

-- A command's reply is said piece after piece: this piece now, and then a rest that is owed, in at most so many pieces. Only a
-- command that looks into the image has more than one.
pub record Replied (m : Model) (s : m.Document) (c : Command) (piece : List ℕ) (owes : List ℕ → Type 0) (left : ℕ) : Type 0 where
  pub rest : List ℕ
  pub whole : m.reply s c ≡ piece ++ rest
  pub owed : owes rest
  pub one : (left ≡ 0) ⊎ m.looks s c

-- Of a rest that was owed this piece comes next, and what is behind it is owed; or nothing was left of it.
abbrev pub NextPiece : Bool → (rest piece : List ℕ) → (List ℕ → Type 0) → Type 0
NextPiece true rest piece owes = (later : List ℕ) × (rest ≡ piece ++ later) × owes later
NextPiece false rest piece owes = rest ≡ []

-- while the files are opened
abbrev pub Open : (m : Model) → m.Document → List ℕ → Instant
Open m s before image journal said = m.opens image journal s × (said ≡ before)

-- between two texts
abbrev pub Resting : (m : Model) → m.Document → List ℕ → Instant
Resting m s before image journal said = m.opens image journal s × m.alone image s × (said ≡ before)

-- Inside one command, before its reply. Read without its journal, the image waits for it or shows the document of the state to
-- which the pair opens, or of the one before.
abbrev pub EitherSide : (m : Model) → m.Document → Command → List ℕ → Instant
EitherSide m s c before image journal said = ((m.opens image journal s × m.alone image s) ⊎ (m.opens image journal (m.after s c) × (m.alone image s ⊎ m.alone image (m.after s c)))) × (said ≡ before)

-- inside a text that is said at one state
abbrev pub WhileSaid : (m : Model) → m.Document → List ℕ → List ℕ → Instant
WhileSaid m s before text image journal said = (n : ℕ) × (n ≤ length text) × (said ≡ before ++ take n text) × m.opens image journal s × m.alone image s

-- inside one command and its reply
abbrev pub WithinStep : (m : Model) → m.Document → Command → List ℕ → Instant
WithinStep m s c before image journal said = EitherSide m s c before image journal said ⊎ WhileSaid m (m.after s c) before (m.reply s c) image journal said

-- while the journal is sealed it says what it said, or is void
abbrev pub Sealing : (m : Model) → m.Document → List ℕ → Instant
Sealing m s before image journal said = Resting m s before image journal said × (m.holds s journal ⊎ m.void journal)

-- what reads give are the image and the journal of a run that begins at this state
pub record Opening (m : Model) (state : State) (said : List ℕ) (s : m.Document) : Type 0 where
  pub now : Devices
  pub known : devices state ≡ Some now
  pub said_is : now.said ≡ said
  pub begins : m.begins now.image.seen now.journal.seen s

-- Both files rest at a state. Whatever a crash leaves of them opens to it and stands for the image as read; the image alone waits
-- for its journal or shows the document; and any two pairs have the same bytes in each item that both need.
pub record Rests (m : Model) (image journal : Disk) (s : m.Document) : Type 0 where
  pub opens : (i j : List ℕ) → Left image.durable i → Left journal.durable j → m.opens i j s
  pub alone : (i : List ℕ) → Left image.durable i → m.alone i s
  pub itself : (i j : List ℕ) → Left image.durable i → Left journal.durable j → m.recovers i j image.seen
  pub alike : (i j i' j' : List ℕ) → Left image.durable i → Left journal.durable j → Left image.durable i' → Left journal.durable j' → m.alike i j i' j'

-- and the journal, as read and as a crash leaves it, isn't sealed
pub record Unsealed (m : Model) (image journal : Disk) (s : m.Document) : Type 0 where
  pub rests : Rests m image journal s
  pub holds : Everywhere (m.holds s) journal

-- or it is void
pub record Sealed (m : Model) (image journal : Disk) (s : m.Document) : Type 0 where
  pub rests : Rests m image journal s
  pub void : Everywhere m.void journal

-- From the moment at which the files are durable what a crash leaves has P. Only where one of the two files fails that moment
-- may not have come, and then nothing new was left.
abbrev pub OnceDurable : {D : Type 0} → Ghosts D → D → D → Instant → Option Device → Type 0
OnceDurable rig old new P at = (LeavesNothingNew rig old new × IsFile at) ⊎ FromSomeMoment rig old new P

-- From the moment at which the files are durable the time falls into spans, in each of which any two pairs that a crash leaves
-- have the same bytes in each item that both need.
pub record AlikeFrom {D : Type 0} (rig : Ghosts D) (old new : D) (m : Model) : Type 0 where
  pub then : D
  pub before : LeavesNothingNew rig old then
  pub spans : InSpans rig then new m.alike

-- only where one of the two files fails that moment may not have come
abbrev pub OnceAlike : {D : Type 0} → Ghosts D → D → D → Model → Option Device → Type 0
OnceAlike rig old new m at = (LeavesNothingNew rig old new × IsFile at) ⊎ AlikeFrom rig old new m

-- The files were opened at a state: they rested at it, with nothing said. From then on whatever a crash leaves opens and reads to
-- a prefix of the commands.
pub record Runs {D : Type 0} (rig : Ghosts D) (old new : D) (m : Model) (start : m.Document) (cs : List Command) (last said : List ℕ) : Type 0 where
  pub opened : D
  pub opening : FromSomeMoment rig old opened (Open m start said)
  pub rested : Stands m (Unsealed m) (rig.state opened) said start
  pub running : During rig opened new (ReadsToPrefix m start cs last said)

-- At every moment of a run that begins at a state: the files were opened and the commands run; or the run ended while the files
-- were opened, and once they are durable what a crash leaves opens to that state, with nothing said; or it ended so early that
-- nothing new was left.
abbrev pub AtEveryMoment : {D : Type 0} → Ghosts D → D → D → (m : Model) → m.Document → List Command → (last said : List ℕ) → (early unopened : Type 0) → Type 0
AtEveryMoment rig old new m start cs last said early unopened = (LeavesNothingNew rig old new × early) ⊎ (FromSomeMoment rig old new (Open m start said) × unopened) ⊎ Runs rig old new m start cs last said

-- Both files were left alone while this text was said: a crash leaves what it could leave of them before.
pub record OnlySays {D : Type 0} (rig : Ghosts D) (old new : D) (text : List ℕ) : Type 0 where
  pub files : SameFiles (rig.state old) (rig.state new)
  pub moments : ForSome (devices (rig.state old)) (λ all. Throughout rig old new (LeavesSaying all text))

-- Both files were left alone while this reply was said; and then the journal was sealed at most, at a state.
pub record RepliesOnly {D : Type 0} (rig : Ghosts D) (old new : D) (m : Model) (said reply : List ℕ) (s : m.Document) : Type 0 where
  pub replied : D
  pub replying : OnlySays rig old replied reply
  pub sealing : Throughout rig replied new (Sealing m s (said ++ reply))

-- The files were opened at a state, then left alone while this reply was said, and then the journal was sealed at most.
pub record OnlyReads {D : Type 0} (rig : Ghosts D) (old new : D) (m : Model) (said reply : List ℕ) (first last : m.Document) : Type 0 where
  pub opened : D
  pub opening : FromSomeMoment rig old opened (Open m first said)
  pub replying : RepliesOnly rig opened new m said reply last

-- a run begins at a state, over an input that is told
pub record Starts (m : Model) (on : Disk → Disk → m.Document → Type 0) (left : Option (List ℕ)) (state : State) (cs : List Command) (end : End) (said : List ℕ) (s : m.Document) : Type 0 where
  pub input : List ℕ
  pub told : left ≡ Some input
  pub reads : Reads 1 input cs end
  pub stands : Stands m on state said s

-- the same, before its files are opened
pub record Begins (m : Model) (left : Option (List ℕ)) (state : State) (cs : List Command) (end : End) (said : List ℕ) (s : m.Document) : Type 0 where
  pub input : List ℕ
  pub told : left ≡ Some input
  pub reads : Reads 1 input cs end
  pub opening : Opening m state said s

-- the law of an editor: the files that it stands on rest at its state, and the journal isn't sealed
abbrev pub RestsNow : (m : Model) → (Disk → Disk → m.Document → Type 0) → Type 0
RestsNow m on = (image journal : Disk) (s : m.Document) → on image journal s → Unsealed m image journal s

-- The journal as read is what it was, and so is the image, or it is what both files stood for.
pub record OnlyRecovered (m : Model) (all : Devices) (state : State) : Type 0 where
  pub journal : seen_of state Journal ≡ Some all.journal.seen
  pub bytes : List ℕ
  pub image : seen_of state Image ≡ Some bytes
  pub same : (bytes ≡ all.image.seen) ⊎ m.recovers all.image.seen all.journal.seen bytes

-- what reads give isn't refused
abbrev pub IsUnrefused : Model → State → Type 0
IsUnrefused m state = (all : Devices) (text : List ℕ) → devices state ≡ Some all → m.refuses all.image.seen all.journal.seen text → ⊥

-- what a crash leaves stands for what these files stood for, and nothing was said
abbrev pub KeepsFiles : Model → Devices → Instant
KeepsFiles m all image journal said = m.keeps all.image.seen all.journal.seen image journal × (said ≡ all.said)

-- the same while this text is said
abbrev pub KeepsSaying : Model → Devices → List ℕ → Instant
KeepsSaying m all text image journal said = (n : ℕ) × (n ≤ length text) × (said ≡ all.said ++ take n text) × m.keeps all.image.seen all.journal.seen image journal

-- Files that are refused are kept, and nothing is said but a front of the text that says why: until they are durable nothing
-- new is left, and from then on what stands for the same.
abbrev pub KeepsRefused : {D : Type 0} → Ghosts D → D → D → Model → Option Device → Type 0
KeepsRefused rig old new m at = (all : Devices) (text : List ℕ) → devices (rig.state old) ≡ Some all → m.refuses all.image.seen all.journal.seen text
    → OnceDurable rig old new (KeepsSaying m all text) at
