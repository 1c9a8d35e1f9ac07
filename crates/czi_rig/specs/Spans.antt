-- What the pairs of files that a crash may leave within a span of time have in common.
use Rattle.std.specs.Prelude.{ℕ, List, [], ◌∷◌}
use Rattle.czi_rig.specs.declared.rig.Rig.{Ghosts}
use Rattle.czi_rig.specs.State.{Instant}
use Rattle.czi_rig.specs.Moments.{Throughout, Always}

-- Whatever a crash at a moment from old to new leaves has P, the first moment included.
pub record During {D : Type 0} (rig : Ghosts D) (old new : D) (P : Instant) : Type 0 where
  pub throughout : Throughout rig old new P
  pub always : Always rig old new P

-- any two pairs that a crash leaves from old to new, at one moment or at two, the first one included, are Q to each other
abbrev pub EachTwo : {D : Type 0} → Ghosts D → D → D → (List ℕ → List ℕ → List ℕ → List ℕ → Type 0) → Type 0
EachTwo rig old new Q = During rig old new (λ image journal said. During rig old new (λ image' journal' said'. Q image journal image' journal'))

-- so are any two of the same span, where these moments divide the time from old to new into spans
abbrev pub InSpansAt : {D : Type 0} → Ghosts D → D → List D → D → (List ℕ → List ℕ → List ℕ → List ℕ → Type 0) → Type 0
InSpansAt rig old [] new Q = EachTwo rig old new Q
InSpansAt rig old (mid ∷ rest) new Q = EachTwo rig old mid Q × InSpansAt rig mid rest new Q

-- The time from old to new falls into spans, each from between two calls to between two later ones, in each of which any two pairs
-- that a crash leaves are Q to each other.
abbrev pub InSpans : {D : Type 0} → Ghosts D → D → D → (List ℕ → List ℕ → List ℕ → List ℕ → Type 0) → Type 0
InSpans {D} rig old new Q = (between : List D) × InSpansAt rig old between new Q
