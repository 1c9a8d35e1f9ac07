-- What an engine stands on.
use Rattle.std.specs.Prelude.{◌≡◌, ℕ, ◌≤◌, List, [], ◌∷◌, map, filter, length, Bool, false, IsTrue, Option, None, Some, option_to_list}
use Rattle.std.specs.Option.{ForSome}
use Rattle.std.specs.List.{AllByRecursion, list_any}
use Rattle.czi_format.specs.Bytes.{bytes_at}
use Rattle.czi_format.specs.Layout.{Layout, HasLayout}
use Rattle.czi_format.specs.Live.{Live, document}
use Rattle.czi_format.specs.Shows.{Reaches}
use Rattle.czi_format.specs.Span.{Span, IsWhole}
use Rattle.czi_format.specs.Space.{same_span, with_held}
use Rattle.czi_machine.specs.Places.{can_be_used}
use Rattle.czi_machine.specs.State.{Items, Former, State as MachineState, items_of, item_places, item_spans, spans_of, not_among}
use Rattle.czi_num.specs.Span.{span_of}
use Rattle.czi_num.specs.declared.span.Span.{Span as CodeSpan}
use Rattle.czi_rig.specs.declared.file.File.TheVariants.{Image, Journal}
use Rattle.czi_rig.specs.Disk.{Disk, Left, Everywhere, IsAtRest}
use Rattle.czi_rig.specs.State.{State, known, seen_of}
use Rattle.czi_rig.specs.Moments.{devices}
use Rattle.czi_image.specs.Holds.{Holds, LiesAs}
use Rattle.czi_links.specs.declared.head.SlotHead.{SlotHead}
use Rattle.czi_opening.specs.declared.opening.Opened.{Opened}
use Rattle.czi_opening.specs.Answers.{IsJournal}
use Rattle.czi_space.specs.State.{Has}
use Rattle.czi_undo.specs.Holding.{holds_of}
use Rattle.czi_undo.specs.Laws.{LiesBefore}
use Rattle.czi_undo.specs.Stands.{AreSingle}
use Rattle.czi_undo.specs.Told.{Single}
use Rattle.czi_undo.specs.declared.inverse.Inverse.{Inverse}
use Rattle.czi_vault.specs.Recovered.{Recovered}
use Rattle.czi_engine.specs.Stands.{StandsOn}
use Rattle.czi_engine.specs.declared.engine.EngineState.{EngineState}

-- what each of an engine's inverses holds back, the newest first
abbrev pub spans_held : EngineState → List (Option CodeSpan)
spans_held x = map holds_of x.edits

-- the spans that edits hold back, in order of place
abbrev pub held_by : List (Option CodeSpan) → List Span
held_by [] = []
held_by (None ∷ edits) = held_by edits
held_by (Some s ∷ edits) = with_held (span_of s) (held_by edits)

-- each of them begins and ends at multiples of 32
abbrev pub AreWhole : List (Option CodeSpan) → Type 0
AreWhole edits = AllByRecursion (λ (e : Option CodeSpan). ForSome e (λ s. IsWhole (span_of s))) edits

-- the map has the extents and the length of the index, and holds back what the edits do
abbrev pub HasItsMap : EngineState → Type 0
HasItsMap x = Has x.map (map span_of x.index.extents.items) (held_by (spans_held x)) x.index.length

-- An edit holds back what the former document before it has and the next newer one hasn't, as far as that can be used again.
-- Each former takes one edit back. The newest edit, and the newest former, stand first.
abbrev pub HoldBack : Items → List Former → List (Option CodeSpan) → Type 0
HoldBack newer [] [] = Unit {0}
HoldBack newer [] (e ∷ edits) = ⊥
HoldBack newer (f ∷ formers) [] = ⊥
HoldBack newer (f ∷ formers) (e ∷ edits) = (map span_of (option_to_list e) ≡ spans_of (filter can_be_used (not_among (item_spans newer) (item_places f.items)))) × (f.edits ≡ 1) × HoldBack f.items formers edits

-- the bytes at the start, and the items that have been there since
pub record Origin : Type 0 where
  pub bytes : List ℕ
  pub items : List Span

-- all items, at the start
abbrev pub origin_of : List ℕ → MachineState → Origin
origin_of bytes s = record { bytes = bytes; items = item_spans (items_of s.layout) }

abbrev pub is_among : List Span → Span → Bool
is_among spans x = list_any (same_span x) spans

-- those that are items of a state too
abbrev pub origin_in : Origin → MachineState → Origin
origin_in o s = record { bytes = o.bytes; items = filter (is_among (item_spans (items_of s.layout))) o.items }

-- an item that has been there since the start: it has the bytes that it had then, header and padding included
pub record IsKept (o : Origin) (bytes : List ℕ) (l : Layout) (x : Span) : Type 0 where
  pub there : IsTrue (is_among (item_spans (items_of l)) x)
  pub same : bytes_at bytes x.at x.len ≡ bytes_at o.bytes x.at x.len

abbrev pub KeepsItems : Origin → (bytes : List ℕ) → Layout → Type 0
KeepsItems o bytes l = AllByRecursion (IsKept o bytes l) o.items

-- each takes one edit back
abbrev pub TakeOneBack : List Inverse → Type 0
TakeOneBack inverses = AllByRecursion (λ (i : Inverse). i.edits ≡ 1) inverses

-- Inverses that an engine keeps: at most 32, of single edits; what they hold back begins and ends at multiples of 32.
pub record FewKept (inverses : List Inverse) : Type 0 where
  pub whole : AreWhole (map holds_of inverses)
  pub ones : TakeOneBack inverses
  pub few : length inverses ≤ 32

-- Inverses bring a state's former documents back over these bytes, each as it is told for a single edit.
pub record BringBack (bytes : List ℕ) (live : Live) (s : MachineState) (inverses : List Inverse) : Type 0 where
  pub told : List Single
  pub single : AreSingle inverses told
  pub back : LiesBefore bytes live s told

-- An engine has a state that stands on these bytes: its index holds what is live and has the state's layout, and its inverses
-- hold back what undos may bring back, and bring the former documents back. No item was written into that has been there since
-- the start.
pub record HasState (o : Origin) (bytes : List ℕ) (live : Live) (s : MachineState) (x : EngineState) : Type 0 where
  pub stands : StandsOn o.bytes bytes live s
  pub holds : Holds live x.index
  pub lies : LiesAs s.layout x.index
  pub edits : HoldBack (items_of s.layout) s.formers (spans_held x)
  pub back : BringBack bytes live s x.edits
  pub number : x.number ≡ s.number
  pub kept : KeepsItems o bytes s.layout

-- A state of these bytes as it is when they are opened: their document in their layout, and no formers.
pub record IsFresh (bytes : List ℕ) (count : ℕ) (s : MachineState) : Type 0 where
  pub live : Live
  pub reaches : Reaches bytes live
  pub document : s.document ≡ document bytes live
  pub layout : HasLayout bytes s.layout
  pub formers : s.formers ≡ []
  pub number : s.number ≡ count

-- the engine has the state of the image, as it is when it is opened
abbrev pub IsOpened : State → EngineState → Type 0
IsOpened state x = ForSome (seen_of state Image) (λ bytes. (s : MachineState) → IsFresh bytes x.number s → (live : Live) × HasState (origin_of bytes s) bytes live s x)

-- some state
pub record HasSome (bytes : List ℕ) (x : EngineState) : Type 0 where
  pub start : Origin
  pub live : Live
  pub state : MachineState
  pub has : HasState start bytes live state x

-- with each pair that a crash may leave of both files the image stands for itself
abbrev pub IsItself : Disk → Disk → Type 0
IsItself image journal = (i j : List ℕ) → Left image.durable i → Left journal.durable j → Recovered i j image.seen

-- The image is on the disk, it is what both files stand for, and the engine has a state that stands on it. The journal counts
-- with the slot that the engine selects, or it is void and on the disk. What a device doesn't tell may be anything.
pub record StandsOnRig (s : State) (x : EngineState) : Type 0 where
  pub image : ForSome (known s Image) IsAtRest
  pub itself : ForSome (devices s) (λ all. IsItself all.image all.journal)
  pub state : ForSome (seen_of s Image) (λ bytes. HasSome bytes x)
  pub armed : ForSome (known s Journal) (Everywhere (IsJournal x.journal))
  pub idle : x.journal.armed ≡ false → ForSome (known s Journal) IsAtRest
  pub own_map : HasItsMap x
  pub few : FewKept x.edits

-- the engine has the index and the journal that an opening answered, and no edits
pub record IsOf (o : Opened) (x : EngineState) : Type 0 where
  pub journal : x.journal ≡ o.journal
  pub index : x.index ≡ o.index
  pub own_map : HasItsMap x
  pub edits : x.edits ≡ []

-- the image's GUID and its length
abbrev pub file_of : EngineState → SlotHead
file_of x = record { guid = bytes_at x.index.header.identity 32 16; length = x.index.length }
