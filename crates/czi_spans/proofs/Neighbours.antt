-- Where no neighbours are left to meet.
use Rattle.std.proofs.Common.{◌≡◌, ℕ, zero, suc, ◌≤◌, List, [], ◌∷◌, map, length, drop, None, refl, arith}
use Rattle.czi_format.specs.Span.{Span}
use Rattle.czi_format.specs.Refusals.{first_meeting}

-- one span alone has no neighbour
pub meeting_none : {X : Type 0} (f : X → Span) (xs : List X) (j : ℕ) → length xs ≤ suc j → first_meeting (map f (drop j xs)) ≡ None
meeting_none f [] zero h = refl
meeting_none f [] (suc j) h = refl
meeting_none f (x ∷ []) zero h = refl
meeting_none f (x ∷ y ∷ xs) zero h = absurd (omega arith)
meeting_none f (x ∷ xs) (suc j) h = meeting_none f xs j (omega arith)
