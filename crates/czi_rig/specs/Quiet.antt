-- Calls that leave everything as it was.
use Rattle.std.specs.Prelude.{ℕ, ◌≤◌, List, IsTrue}
use Rattle.czi_rig.specs.declared.rig.Rig.{Ghosts}
use Rattle.czi_rig.specs.State.{SameAll}
use Rattle.czi_rig.specs.Passes.{GoesOn}

-- No moment from old to new adds anything to what a crash may have left.
abbrev pub AddsNothing : {D : Type 0} → Ghosts D → D → D → Type 0
AddsNothing rig old new = IsTrue (rig.state old).honest → (t : ℕ) (image journal said : List ℕ) → t ≤ (rig.state old).moment
    → rig.left_since new t image journal said → rig.left_since old t image journal said

-- Both files, what was said, and what a crash may leave of the files at any moment are as they were.
pub record Untouched {D : Type 0} (rig : Ghosts D) (old new : D) : Type 0 where
  pub same : SameAll (rig.state old) (rig.state new)
  pub goes_on : GoesOn (rig.state old) (rig.state new)
  pub moments : AddsNothing rig old new
