-- How many inverses an undo list keeps.
use Rattle.std.specs.Prelude.{◌≡◌, ℕ, ◌-◌, ◌≤◌, List, [], ◌∷◌, map, take, length, sum, Bool, ◌||◌, nat_lt, Option, Some, None}
use Rattle.czi_machine.specs.Machine.{within_bounds}
use Rattle.czi_machine.specs.State.{Former}
use Rattle.czi_undo.specs.declared.inverse.Inverse.{Inverse}

-- more than 32 of these take back edits, or they take back more than 128 edits
abbrev pub passes : List ℕ → Bool
passes counts = nat_lt 32 (length counts) || nat_lt 128 (sum counts)

abbrev pub counts_of : List Inverse → List ℕ
counts_of inverses = map (λ (i : Inverse). i.edits) inverses

-- the first of a list, which is the newest
abbrev pub first_of : {X : Type 0} → List X → Option X
first_of [] = None
first_of (x ∷ xs) = Some x

-- Of the former documents behind a new one as many are kept as pass no bound with it.
abbrev pub KeptAreWithin : Type 0
KeptAreWithin = (n k : ℕ) (fs : List Former) → n ≤ 128 → k ≤ length fs → passes (n ∷ map (λ (f : Former). f.edits) (take k fs)) ≡ nat_lt (within_bounds 31 (128 - n) fs) k
