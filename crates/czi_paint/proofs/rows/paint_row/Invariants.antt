use Rattle.std.proofs.Common.{◌≡◌, ℕ, ◌+◌, ◌<◌, ◌≤◌, length, take, get_or, None}
use Rattle.std.specs.Option.{ForSome}
use Rattle.czi_rig.specs.State.{seen_of}
use Rattle.czi_rig.specs.Quiet.{Untouched}
use Rattle.czi_rig.specs.Faults.{Faults}
use Rattle.czi_rig.specs.declared.file.File.TheVariants.{Image}
use Rattle.czi_paint.specs.Patches.{patched_row}
use Rattle.czi_paint.proofs.rows.paint_row.Given as goal

-- those before the next place were laid over, and all places that were passed are before it
abbrev pub invariant-loop-place : goal.invariant-loop-place
invariant-loop-place g l = record {
  row : ForSome (seen_of (g.R.Rig.state l.initial.rig) Image) (λ image. l.out ≡ patched_row l.size l.w image (take l.next l.patches) l.j);
  no_fault : Faults None (g.R.Rig.state l.initial.rig) (g.R.Rig.state l.rig);
  untouched : Untouched g.R.Rig l.initial.rig l.rig;
  inside : l.next ≤ length l.patches;
  passed : (k : ℕ) → k < l.place-index → get_or l.active k 0 < l.next;
  last : (k : ℕ) → l.place-index ≤ k → k < length l.active → l.next ≤ get_or l.active k 0 + 1;
}
