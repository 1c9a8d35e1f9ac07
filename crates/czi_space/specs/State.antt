-- What a map of free space shows, and what is always so of it.
use Rattle.std.specs.Prelude.{◌≡◌, ◌⊎◌, ℕ, ◌≤◌, List, [], ◌∷◌, ◌++◌, Bool, not, IsTrue, IsFalse, Option, option_map, find, nat_le, nat_lt, Result, Ok, Err, if◌then◌else◌}
use Rattle.std.specs.List.{AllByRecursion}
use Rattle.czi_format.specs.Span.{Span, end_of, meets, span_le, IsWhole}
use Rattle.czi_format.specs.Space.{Space, Full, free_runs}
use Rattle.czi_space.specs.declared.place.Place.{Place}
use Rattle.czi_space.specs.declared.place.Place.TheVariants.{At, Full as Filled}

-- The DELETED extents and the held spans in order of place, the committed length, and how many more of each there is
-- spare memory for.
pub record MapState : Type 0 where
  pub extents : List Span
  pub held : List Span
  pub length : ℕ
  pub spare : ℕ

-- from a place up to another stand these extents: aligned, rising and disjoint
abbrev pub AreExtents : ℕ → ℕ → List Span → Type 0
AreExtents from to [] = from ≤ to
AreExtents from to (s ∷ rest) = (from ≤ s.at) × IsWhole s × AreExtents (end_of s) to rest

-- no later one stands before an earlier one
abbrev pub IsInOrder : List Span → Type 0
IsInOrder [] = Unit {0}
IsInOrder (s ∷ rest) = AllByRecursion (λ t. IsTrue (span_le s t)) rest × IsInOrder rest

pub record IsMap (es hs : List Span) (n : ℕ) : Type 0 where
  pub extents : AreExtents 0 n es
  pub held : IsInOrder hs

-- a map of these extents, these held spans and this length
pub record Has (m : MapState) (es hs : List Span) (n : ℕ) : Type 0 where
  pub extents : m.extents ≡ es
  pub held : m.held ≡ hs
  pub length : m.length ≡ n

-- where needs can go
abbrev pub space_of : MapState → Space
space_of m = record { runs = free_runs m.held m.extents; length = m.length }

abbrev pub MeetsNone : Span → List Span → Type 0
MeetsNone s spans = AllByRecursion (λ e. IsFalse (meets s e)) spans

abbrev pub IsHeld : Span → List Span → Type 0
IsHeld s [] = ⊥
IsHeld s (h ∷ held) = (s ≡ h) ⊎ IsHeld s held

-- the place that the code answers
abbrev pub place_of : Place → Result ℕ Full
place_of (At at) = Ok at
place_of (Filled need length) = Err (record { need = need; length = length })

-- where the lowest run lies that is at least as long as a need
abbrev pub lowest_of : ℕ → List Span → Option ℕ
lowest_of need runs = option_map (λ (s : Span). s.at) (find (λ (s : Span). nat_le need s.len) runs)

-- the span, unless it is empty
abbrev pub some_of : Span → List Span
some_of s = if nat_lt 0 s.len then s ∷ [] else []

-- the extent ends at or below a place
abbrev pub ends_by : ℕ → Span → Bool
ends_by place e = nat_le (end_of e) place

-- the other span comes before s
abbrev pub comes_before : Span → Span → Bool
comes_before s other = not (span_le s other)

-- the rest of the held spans, of which those before end at or below a place
pub record SkipsTo (place : ℕ) (hs rest : List Span) : Type 0 where
  pub front : List Span
  pub whole : hs ≡ front ++ rest
  pub passed : AllByRecursion (λ (h : Span). end_of h ≤ place) front
