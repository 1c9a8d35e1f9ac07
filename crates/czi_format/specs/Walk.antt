-- The walk: the segments that stand one behind another from place 0 on.
use Rattle.std.specs.Prelude.{◌≡◌, ℕ, List, [], ◌∷◌, Bool, false, ◌&&◌, ◌||◌, ◌==◌, nat_le, Option, Some, None}
use Rattle.std.specs.List.{list_all}
use Rattle.std.specs.Option.{option_or}
use Rattle.czi_format.specs.Partial.{◌>>=◌, given}
use Rattle.czi_format.specs.Span.{end_of, round32}
use Rattle.czi_format.specs.Segment.{Segment, segment_at, extent}

-- one or more bytes from 0x20 to 0x7E, and then zero bytes only
abbrev pub is_name : List ℕ → Bool
is_name [] = false
is_name (b ∷ rest) = nat_le 0x20 b && nat_le b 0x7E && (list_all (λ c. c == 0) rest || is_name rest)

-- the segment whose header stands at a place: its id is a name
unfoldable pub stands_at : List ℕ → ℕ → Option Segment
stands_at image at = do
  segment ← segment_at image at
  given (is_name segment.id) segment

-- the segment with which the walk goes on from a place: there, or else at the next multiple of 32
abbrev pub next_from : List ℕ → ℕ → Option Segment
next_from image place = option_or (stands_at image place) (stands_at image (round32 place))

-- from a place on the walk stands on these segments, and no others
abbrev pub WalksFrom : List ℕ → ℕ → List Segment → Type 0
WalksFrom image place [] = next_from image place ≡ None
WalksFrom image place (s ∷ rest) = (next_from image place ≡ Some s) × WalksFrom image (end_of (extent s)) rest

-- where the walk ends
abbrev pub walk_end : ℕ → List Segment → ℕ
walk_end place [] = place
walk_end place (s ∷ rest) = walk_end (end_of (extent s)) rest

-- Behind the length of an image the walk goes on only where its end and the length are one place, each rounded up to 32.
abbrev pub goes_on : (walk_end length : ℕ) → Bool
goes_on walk_end length = round32 walk_end == round32 length

-- the image's walk
abbrev pub IsWalk : List ℕ → List Segment → Type 0
IsWalk image walk = WalksFrom image 0 walk
