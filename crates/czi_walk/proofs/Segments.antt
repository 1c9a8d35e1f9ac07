-- The segment at a place, from its header.
use Rattle.std.proofs.Common.{◌≡◌, ℕ, ◌+◌, ◌<◌, ◌≤◌, List, length, Some, None, true, false, nat_le, refl}
use Rattle.std.proofs.lemmas.Bool.{le-leb, lt-leb}
use Rattle.czi_format.specs.Segment.{Segment, header_at, segment_at}

pub no_header : (image : List ℕ) (at : ℕ) → None ≡ header_at image at → None ≡ segment_at image at
unfolding segment_at
no_header image at none = rw (← none) refl

pub too_long : (image : List ℕ) (at : ℕ) (s : Segment) → Some s ≡ header_at image at → length image < at + 32 + s.allocated → None ≡ segment_at image at
unfolding segment_at
too_long image at s is long = let test : nat_le (at + 32 + s.allocated) (length image) ≡ false = lt-leb _ _ long in rw (← is, test) refl

pub fits : (image : List ℕ) (at : ℕ) (s : Segment) → Some s ≡ header_at image at → at + 32 + s.allocated ≤ length image → Some s ≡ segment_at image at
unfolding segment_at
fits image at s is inside = let test : nat_le (at + 32 + s.allocated) (length image) ≡ true = le-leb _ _ inside in rw (← is, test) refl
