-- Spans that are used and freed among the extents of a map.
use Rattle.std.specs.Prelude.{◌⊎◌, ℕ, ◌+◌, ◌^◌, ◌≤◌, ◌*◌, ◌≡◌, List, [], ◌∷◌, ◌++◌, length, ⊤, Bool, ◌&&◌, nat_le}
use Rattle.std.specs.List.{AllByRecursion, list_any}
use Rattle.czi_format.specs.Space.{without, with_freed, deleted_after}
use Rattle.czi_format.specs.Span.{Span, end_of, span_le, sorted, IsWhole, LiesInOne}
use Rattle.czi_machine.specs.Cover.{cover}
use Rattle.czi_space.specs.State.{AreExtents, MeetsNone}
use Rattle.czi_format.specs.declared.numbers.TheConstants.{HEADER_FRONT}

-- each in turn lies in one extent, of what the earlier ones left, or at or past the length
abbrev pub AreUsed : ℕ → List Span → List Span → Type 0
AreUsed n [] extents = ⊤
AreUsed n (s ∷ used) extents = IsWhole s × (LiesInOne s extents ⊎ (n ≤ s.at)) × AreUsed n used (without (s ∷ []) extents)

-- each in turn meets no extent, and ends at or below the length
abbrev pub AreFreed : ℕ → List Span → List Span → Type 0
AreFreed n [] extents = ⊤
AreFreed n (s ∷ freed) extents = IsWhole s × MeetsNone s extents × (end_of s ≤ n) × AreFreed n freed (with_freed s extents)

-- two spans have a place in common, or one begins where the other ends
abbrev pub touches : Span → Span → Bool
touches s t = nat_le t.at (end_of s) && nat_le s.at (end_of t)

-- one of the spans that are used or freed touches it
abbrev pub is_touched : (used freed : List Span) → Span → Bool
is_touched used freed s = list_any (touches s) (used ++ freed)

-- a span behind the front of the file header, with room for a header, that ends at or below a place
pub record IsLong (top : ℕ) (s : Span) : Type 0 where
  pub far : HEADER_FRONT ≤ s.at
  pub long : 32 ≤ s.len
  pub ends : end_of s ≤ top

-- Extents below a length of which a few spans are used and others freed, in order of place, beside spans that can't be used
-- again and directories that are changed in place; all end at or below a place.
pub record AreParts (n top : ℕ) (used freed dead kept extents : List Span) : Type 0 where
  pub small : top ≤ 2 ^ 62
  pub few : 2 * length used + length freed + length dead ≤ 6
  pub rise : AreExtents 0 n extents
  pub takes : AreUsed n used extents
  pub in_order : sorted span_le freed ≡ freed
  pub frees : AreFreed n freed (without used extents)
  pub used_long : AllByRecursion (IsLong top) used
  pub kept_long : AllByRecursion (IsLong top) kept
  pub dead_long : AllByRecursion (IsLong top) dead
  pub after_long : AllByRecursion (IsLong top) (deleted_after used freed extents)
  pub once : (p : ℕ) → cover used p + (cover (deleted_after used freed extents) p + (cover dead p + cover kept p)) ≤ 1
