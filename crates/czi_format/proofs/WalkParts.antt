-- A walk in parts: what stays, and what an edit puts in the place of a segment.
use Rattle.std.proofs.Common.{◌≡◌, ℕ, List, [], ◌∷◌, ◌++◌, Some}
use Rattle.std.specs.Bool.{⊤}
use Rattle.czi_format.specs.Segment.{Segment, extent}
use Rattle.czi_format.specs.Span.{end_of}
use Rattle.czi_format.specs.Walk.{next_from, WalksFrom, walk_end, IsWalk}

-- from a place on the walk stands first on these segments
abbrev pub Steps : List ℕ → ℕ → List Segment → Type 0
Steps image place [] = ⊤
Steps image place (s ∷ rest) = (next_from image place ≡ Some s) × Steps image (end_of (extent s)) rest

pub joined : (image : List ℕ) (place : ℕ) (xs ys : List Segment) → Steps image place xs → WalksFrom image (walk_end place xs) ys → WalksFrom image place (xs ++ ys)
joined image place [] ys steps walks = walks
joined image place (x ∷ xs) ys steps walks = (steps.0, joined image (end_of (extent x)) xs ys steps.1 walks)

pub parted : (image : List ℕ) (place : ℕ) (xs ys : List Segment) → WalksFrom image place (xs ++ ys) → Steps image place xs × WalksFrom image (walk_end place xs) ys
parted image place [] ys walks = (tt, walks)
parted image place (x ∷ xs) ys walks =
    let rest = parted image (end_of (extent x)) xs ys walks.1 in
    ((walks.0, rest.0), rest.1)

-- The walk of an image in which new segments take the place of old ones, from where they begin to where they end.
pub replaced : (other : List ℕ) (before new after : List Segment) → Steps other 0 before → Steps other (walk_end 0 before) new
    → WalksFrom other (walk_end (walk_end 0 before) new) after → IsWalk other (before ++ (new ++ after))
replaced other before new after first middle last =
    joined other 0 before (new ++ after) first (joined other (walk_end 0 before) new after middle last)
