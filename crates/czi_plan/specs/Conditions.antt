-- What a plan is made from.
use Rattle.std.specs.Prelude.{◌≡◌, ℕ, ◌≤◌, ◌<◌, List, [], map, IsFalse, IsTrue}
use Rattle.std.specs.List.{AllByRecursion}
use Rattle.czi_format.specs.Layout.{Place}
use Rattle.czi_format.specs.Live.{Live}
use Rattle.czi_format.specs.Span.{IsWhole, LiesInOne, Span, end_of, meets}
use Rattle.czi_image.specs.Change.{IsNone}
use Rattle.czi_image.specs.Holds.{Holds, LiesAs}
use Rattle.czi_image.specs.Spans.{live_spans}
use Rattle.czi_image.specs.declared.index.Index.{Index}
use Rattle.czi_machine.specs.Cover.{cover}
use Rattle.czi_machine.specs.Laws.{LiesInImage}
use Rattle.czi_machine.specs.Places.{can_be_used, space_of}
use Rattle.czi_machine.specs.State.{State}
use Rattle.czi_num.specs.Span.{span_of}
use Rattle.czi_space.specs.State.{MapState, MeetsNone, space_of as space_in}
use Rattle.czi_plan.specs.declared.plan.EditPlan.{EditPlan}

-- nothing is planned yet
pub record IsEmpty (p : EditPlan) : Type 0 where
  pub change : IsNone p.change
  pub writes : p.writes.items ≡ []
  pub links : p.links.links ≡ []
  pub used : p.used.items ≡ []
  pub freed : p.freed.items ≡ []
  pub held : p.held.items ≡ []
  pub marks : p.marks.items ≡ []
  pub dead : p.dead.items ≡ []

-- The map has the extents and the length of the index; what it holds back begins and ends at multiples of 32.
pub record IsMapOf (x : Index) (m : MapState) : Type 0 where
  pub extents : map span_of x.extents.items ≡ m.extents
  pub length : x.length ≡ m.length
  pub held : AllByRecursion IsWhole m.held

-- A state lies in an image, and in the index and the map of it.
pub record LiesIn (image : List ℕ) (live : Live) (s : State) (x : Index) (m : MapState) : Type 0 where
  pub loosely : LiesInImage image live s
  pub holds : Holds live x
  pub lies : LiesAs s.layout x
  pub space : space_in m ≡ space_of s

-- the extents of what is live
abbrev pub live_of : Index → List Span
live_of x = live_spans x.header x.directory x.tiles.items x.attdir x.attachments.items x.metadata

-- a span that can be used again lies in one DELETED extent, and all of it is held; another one meets none
abbrev pub IsAmong : Place → MapState → Type 0
IsAmong p m = (IsTrue (can_be_used p) → LiesInOne p.span m.extents × ((q : ℕ) → p.span.at ≤ q → q < end_of p.span → 1 ≤ cover m.held q)) × (IsFalse (can_be_used p) → MeetsNone p.span m.extents)

-- A segment that isn't live, and can be again: it ends at or below the length, meets no live extent, and lies in the map as it says.
pub record IsLeft (x : Index) (m : MapState) (p : Place) : Type 0 where
  pub inside : end_of p.span ≤ x.length
  pub apart : AllByRecursion (λ s. IsFalse (meets p.span s)) (live_of x)
  pub among : IsAmong p m
