-- Two images that agree where the first is read.
use Rattle.std.specs.Prelude.{◌≡◌, ℕ, ◌+◌, ◌-◌, List, [], ◌∷◌, None}
use Rattle.std.specs.List.{AllByRecursion}
use Rattle.czi_format.specs.Bytes.{bytes_at}
use Rattle.czi_format.specs.Span.{end_of, round32}
use Rattle.czi_format.specs.Segment.{Segment, extent}
use Rattle.czi_format.specs.Live.{Live, reached}
use Rattle.czi_format.specs.Walk.{stands_at}
use Rattle.czi_format.specs.declared.numbers.TheConstants.{UPDATE_PENDING, ATTDIR_POSITION}

-- the same bytes in a segment's whole extent
abbrev pub SameExtent : List ℕ → List ℕ → Segment → Type 0
SameExtent image other s = bytes_at image s.at (32 + s.allocated) ≡ bytes_at other s.at (32 + s.allocated)

-- the same file header but for UpdatePending, at 100 to 103, and the same live segments
pub record SameLive (image other : List ℕ) (live : Live) : Type 0 where
  pub header : bytes_at image 0 UPDATE_PENDING ≡ bytes_at other 0 UPDATE_PENDING
  pub behind : bytes_at image ATTDIR_POSITION (32 + live.header.segment.allocated - ATTDIR_POSITION) ≡ bytes_at other ATTDIR_POSITION (32 + live.header.segment.allocated - ATTDIR_POSITION)
  pub reached : AllByRecursion (SameExtent image other) (reached live)

-- the same header at a place, and where none stands there, at the next multiple of 32
pub record SameStep (image other : List ℕ) (place : ℕ) : Type 0 where
  pub here : bytes_at image place 32 ≡ bytes_at other place 32
  pub next : stands_at image place ≡ None → bytes_at image (round32 place) 32 ≡ bytes_at other (round32 place) 32

-- the same headers wherever a walk from a place reads one
abbrev pub SameWalk : List ℕ → List ℕ → ℕ → List Segment → Type 0
SameWalk image other place [] = SameStep image other place
SameWalk image other place (s ∷ rest) = SameStep image other place × SameWalk image other (end_of (extent s)) rest
