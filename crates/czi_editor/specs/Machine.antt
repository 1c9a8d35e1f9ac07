-- The machine of edits over the files of an image, as a session runs it.
use Rattle.std.specs.Prelude.{◌≡◌, ◌⊎◌, ℕ, ◌≤◌, pos, List, IsFalse}
use Rattle.czi_format.specs.Bytes.{IsBytes}
use Rattle.czi_format.specs.Document.{Document}
use Rattle.czi_format.specs.Live.{Live, update_pending}
use Rattle.czi_journal.specs.Journals.{Counts, slot_of}
use Rattle.czi_links.specs.Reading.{Void}
use Rattle.czi_machine.specs.State.{State as MachineState}
use Rattle.czi_opening.specs.Course.{StandsForTheSame}
use Rattle.czi_opening.specs.Opens.{Cause, IsRefusedBy, Opens}
use Rattle.czi_rig.specs.Disk.{Disk, Everywhere, IsAtRest}
use Rattle.czi_rig.specs.State.{State}
use Rattle.czi_session.specs.Course.{Model}
use Rattle.czi_vault.specs.Recovered.{Recovered}
use Rattle.czi_engine.specs.Editing.{Alike, OpensIn, ShowsAlone}
use Rattle.czi_engine.specs.Standing.{HasState, IsFresh, IsItself, Origin, StandsOnRig, origin_of}
use Rattle.czi_engine.specs.declared.engine.Engine.{Engine}
use Rattle.czi_report.specs.Refusals.{cause_text}
use Rattle.czi_editor.specs.Replies.{after, looks, origin_then, reply, still}

-- a state of a run, the bytes and the journal at its start, and the items that have been there since
pub record Begun : Type 0 where
  pub start : Origin
  pub journal : List ℕ
  pub state : MachineState

-- A run begins at this state: image and journal stand for bytes (numbers below 256) with no update pending, which show the state's document in its
-- layout; there are no formers, and no command was accepted yet.
pub record Begins (image journal : List ℕ) (b : Begun) : Type 0 where
  pub recovered : Recovered image journal b.start.bytes
  pub numbers : IsBytes b.start.bytes
  pub whole : update_pending b.start.bytes ≡ pos 0
  pub fresh : IsFresh b.start.bytes 0 b.state
  pub own : journal ≡ b.journal
  pub all : b.start ≡ origin_of b.start.bytes b.state

-- A run begins over each pair of files that opens: that they stand for numbers below 256 is so of every file.
abbrev pub EachBegins : Type 0
EachBegins = (image journal : List ℕ) (d : Document) → (o : Opens image journal d) → IsBytes o.bytes → (b : Begun) × Begins image journal b × (b.state.document ≡ d)

-- they are refused for a cause, and this is its line
pub record IsRefused (image journal text : List ℕ) : Type 0 where
  pub cause : Cause
  pub refused : IsRefusedBy image journal cause
  pub text_is : text ≡ cause_text cause

-- and each pair opens, or is refused
abbrev pub OpensOrRefused : Type 0
OpensOrRefused = (image journal : List ℕ) → ((d : Document) × Opens image journal d) ⊎ ((text : List ℕ) × IsRefused image journal text)

abbrev pub opens_in : List ℕ → List ℕ → Begun → Type 0
opens_in image journal b = OpensIn b.start image journal b.state

-- What a journal that isn't sealed says at a state: until an edit is accepted what it said at the start, and from then on it
-- counts.
pub record HoldsAt (b : Begun) (journal : List ℕ) : Type 0 where
  pub unedited : b.state.number ≡ 0 → slot_of journal ≡ slot_of b.journal
  pub edited : 1 ≤ b.state.number → Counts journal

-- The states, which pairs of files a run begins at and opens to, which images show a state's document alone, which image a pair
-- stands for, which two pairs are alike in their items, which pairs are refused and with what line, which stand for what an earlier
-- pair stood for, which journals aren't sealed and which are void, what a command makes of a state, its reply, which commands
-- change nothing, and which look into the image.
abbrev pub the_machine : Model
the_machine = record {
  Document = Begun;
  begins = Begins;
  opens = opens_in;
  alone = λ image b. ShowsAlone image b.state.document;
  recovers = Recovered;
  alike = Alike;
  refuses = IsRefused;
  keeps = StandsForTheSame;
  holds = HoldsAt;
  void = λ journal. slot_of journal ≡ Void;
  after = λ b c. record { start = origin_then b.start b.state c; journal = b.journal; state = after b.state c };
  reply = λ b c. reply b.state c;
  still = λ b c. still b.state c;
  looks = λ b c. looks b.state c;
}

-- an engine stands on an image and a journal at a state
pub record AtState (x : Engine) (image journal : Disk) (b : Begun) : Type 0 where
  pub rest : IsAtRest image
  pub itself : IsItself image journal
  pub holds : Everywhere (HoldsAt b) journal
  pub live : Live
  pub has : HasState b.start image.seen live b.state x.state

-- an engine may be used on a device
pub record IsReady (x : Engine) (s : State) : Type 0 where
  pub stands : StandsOnRig s x.state
  pub up : IsFalse x.state.down
