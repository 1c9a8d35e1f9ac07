-- The laws of what an image and a journal open as, as statements.
use Rattle.std.specs.List.{AllByRecursion}
use Rattle.std.specs.Prelude.{◌≡◌, ◌+◌, ◌-◌, ◌⊎◌, ℕ, List, [], length, slice_index, Ok}
use Rattle.czi_commit.specs.Filled.{AreFree, filled}
use Rattle.czi_commit.specs.Made.{Step}
use Rattle.czi_format.specs.Bytes.{bytes_at}
use Rattle.czi_format.specs.Layout.{HasLayout}
use Rattle.czi_format.specs.Live.{Live, document}
use Rattle.czi_format.specs.Shows.{Reaches}
use Rattle.czi_format.specs.Space.{place_for}
use Rattle.czi_format.specs.Span.{Span}
use Rattle.czi_image.specs.Holds.{IsSettled}
use Rattle.czi_links.specs.Record.{Bytes}
use Rattle.czi_machine.specs.Places.{space_of}
use Rattle.czi_machine.specs.State.{State, held}
use Rattle.czi_machine.specs.LiveChange.{LiveChange, changed_live}
use Rattle.czi_machine.specs.Written.{Wrote}
use Rattle.czi_rig.specs.Disk.{Covers, SameOutside, IsAtRest}
use Rattle.czi_rig.specs.Moments.{Devices}
use Rattle.czi_vault.specs.Alone.{Alone, IsPending, HasBytesBut100}
use Rattle.czi_vault.specs.Puts.{ranges}
use Rattle.czi_vault.specs.Recovered.{Recovered, Stands, StandsNow, StandsOr, IsFree}
use Rattle.czi_engine.specs.Commit.{written, made_of, pieces_in, IsStep, IsPlanned}
use Rattle.czi_engine.specs.Free.{LiesFree, HoldsUsable}
use Rattle.czi_engine.specs.Holes.{holes_of, AreHigh, view_of}
use Rattle.czi_engine.specs.Moment.{AlikeInItems}
use Rattle.czi_plan.specs.Apart.{BringsApart}
use Rattle.czi_engine.specs.Rests.{RestsOn}
use Rattle.czi_engine.specs.Stands.{Opens, OpensAs, ShowsWhole, EitherSide, StandsOn}
use Rattle.czi_format.specs.declared.numbers.TheConstants.{UPDATE_PENDING}

-- the holes of a state in bytes are high
abbrev pub HolesAreHigh : Type 0
HolesAreHigh = (start bytes : List ℕ) (live : Live) (s : State) → StandsOn start bytes live s → AreHigh s

-- what agrees with the bytes outside the holes has the state as well
abbrev pub StandsOutside : Type 0
StandsOutside = (start bytes other : List ℕ) (live : Live) (s : State) → StandsOn start bytes live s → SameOutside (Covers (holes_of s)) bytes other → StandsOn start other live s

-- what stands for the bytes of a state opens as it
abbrev pub RecoveredOpens : Type 0
RecoveredOpens = (start bytes image journal : List ℕ) (live : Live) (s : State) → StandsOn start bytes live s → Recovered image journal bytes → OpensAs start image journal s

-- and so does what stands for them outside the holes
abbrev pub ViewOpens : Type 0
ViewOpens = (start bytes image journal : List ℕ) (live : Live) (s : State) (high : AreHigh s) → StandsOn start bytes live s → Stands (view_of bytes s high) image journal → OpensAs start image journal s

-- a state's document is what is opened
abbrev pub DocumentOpens : Type 0
DocumentOpens = (start image journal : List ℕ) (s : State) → OpensAs start image journal s → Opens image journal s.document

-- files that rest on the bytes of a state stand for its view
abbrev pub RestsStands : Type 0
RestsStands = (all : Devices) (bytes : List ℕ) (s : State) (high : AreHigh s) → RestsOn all bytes → StandsNow (view_of bytes s high) all

-- files that were synced, of which the image is what both stand for, rest on it
abbrev pub ItselfRests : Type 0
ItselfRests = (all : Devices) → IsAtRest all.image → IsAtRest all.journal → Recovered all.image.seen all.journal.seen all.image.seen → RestsOn all all.image.seen

-- what agrees with the bytes outside the holes has the same bytes of held segments past their headers
abbrev pub HeldStays : Type 0
HeldStays = (start bytes other : List ℕ) (live : Live) (s : State) → StandsOn start bytes live s → SameOutside (Covers (holes_of s)) bytes other
    → AllByRecursion (λ (h : Span). bytes_at other (h.at + 32) (h.len - 32) ≡ bytes_at bytes (h.at + 32) (h.len - 32)) (held s)

-- an image that has the bytes outside the holes, read alone, shows the document of the state, or it says that it waits
abbrev pub AloneShows : Type 0
AloneShows = (start bytes image : List ℕ) (live : Live) (s : State) (high : AreHigh s) → StandsOn start bytes live s → Alone (view_of bytes s high) image → IsPending image ⊎ ShowsWhole image s.document

-- what is opened stands on the state of its layout, without formers
abbrev pub OpenedStands : Type 0
OpenedStands = (bytes : List ℕ) (live : Live) (s : State) → IsSettled bytes → Reaches bytes live → s.document ≡ document bytes live → HasLayout bytes s.layout → s.formers ≡ [] → StandsOn bytes bytes live s

-- the bytes of a commit are those of its pieces, and elsewhere what was there
abbrev pub MadeWrote : Type 0
MadeWrote = (bytes : List ℕ) (c : Step) → IsStep bytes c → Wrote bytes (made_of c bytes) (pieces_in c) × (length (made_of c bytes) ≡ c.commits.committed) × (slice_index (made_of c bytes) UPDATE_PENDING ≡ 0)

-- after a command was committed, the bytes have the state to which the command leads
abbrev pub CommitStands : Type 0
CommitStands = (start bytes : List ℕ) (live : Live) (s s' : State) (t : LiveChange) (c : Step) → StandsOn start bytes live s → IsPlanned bytes live s s' t c → IsStep bytes c
    → StandsOn start (made_of c bytes) (changed_live t live) s'

-- and while it is, everything that a crash may leave opens as the state before it or as the one after it
abbrev pub CommitOpens : Type 0
CommitOpens = (start bytes image journal : List ℕ) (live : Live) (s s' : State) (t : LiveChange) (c : Step) (high : AreHigh s) → StandsOn start bytes live s → IsPlanned bytes live s s' t c → IsStep bytes c
    → StandsOr (view_of bytes s high) (made_of c bytes) image journal → EitherSide start image journal s s'

-- writes into free space are free in the view of a state, whether all spans of formers are held or those that can be used again
abbrev pub FreeInView : Type 0
FreeInView = (start bytes : List ℕ) (live : Live) (s : State) (high : AreHigh s) (held' : List Span) (writes : List Bytes) → StandsOn start bytes live s → HoldsUsable s held'
    → AllByRecursion (λ (w : Bytes). LiesFree held' s.layout.deleted s.layout.length w.place (length w.bytes)) writes → AreFree (view_of bytes s high) writes

-- so they are with the zeros that fill the gaps behind the end
abbrev pub FilledInView : Type 0
FilledInView = (bytes : List ℕ) (s : State) (high : AreHigh s) (writes : List Bytes) → AreFree (view_of bytes s high) writes → AreFree (view_of bytes s high) (filled (length bytes) writes)

-- and the data of a new segment where its need fits first: all but its header
abbrev pub PlaceInView : Type 0
PlaceInView = (start bytes : List ℕ) (live : Live) (s : State) (high : AreHigh s) (need at : ℕ) → StandsOn start bytes live s → place_for (space_of s) need ≡ Ok at
    → IsFree (view_of bytes s high) (at + 32) (need - 32)

-- while a command is committed, no write touches an item that the document before it and the one after it both need
abbrev pub CommitTouches : Type 0
CommitTouches = (start bytes : List ℕ) (live : Live) (s s' : State) (t : LiveChange) (c : Step) (high : AreHigh s) → StandsOn start bytes live s → IsPlanned bytes live s s' t c → IsStep bytes c → BringsApart live t
    → AlikeInItems (view_of bytes s high) (made_of c bytes)

-- free writes leave the bytes of the view
abbrev pub WrittenHasBytes : Type 0
WrittenHasBytes = (bytes : List ℕ) (s : State) (high : AreHigh s) (c : Step) → AreFree (view_of bytes s high) (filled (length bytes) c.writes) → HasBytesBut100 (view_of bytes s high) (written c bytes)

-- no link of a planned command is written over the first byte of UpdatePending
abbrev pub CommitLeaves100 : Type 0
CommitLeaves100 = (start bytes : List ℕ) (live : Live) (s s' : State) (t : LiveChange) (c : Step) → StandsOn start bytes live s → IsPlanned bytes live s s' t c → Covers (ranges c.commits.links) UPDATE_PENDING → ⊥
