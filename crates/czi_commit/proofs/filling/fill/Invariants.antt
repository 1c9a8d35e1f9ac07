use Rattle.std.proofs.Common.{◌≡◌, ◌≤◌, ◌^◌, None, length, drop}
use Rattle.std.specs.Prelude.{option_map}
use Rattle.std.specs.List.{AllByRecursion}
use Rattle.std.specs.Option.{ForSome}
use Rattle.czi_rig.specs.declared.file.File.TheVariants.{Image}
use Rattle.czi_rig.specs.State.{seen_of, LeavesOther}
use Rattle.czi_rig.specs.Passes.{GoesOn}
use Rattle.czi_rig.specs.Faults.{Faults}
use Rattle.czi_rig.specs.Moments.{devices, Throughout}
use Rattle.czi_region.specs.Pieces.{IsPiece}
use Rattle.czi_vault.specs.Alone.{KeepsNow}
use Rattle.czi_vault.specs.Recovered.{with_links, View}
use Rattle.czi_commit.specs.Filled.{AreFree, filled}
use Rattle.czi_plan.specs.Pieces.{AreNear, last_end, bytes_in}
use Rattle.czi_commit.proofs.Standing.{KeepsStill}
use Rattle.czi_commit.specs.Ready.{JournalCounts}
use Rattle.czi_commit.proofs.filling.fill.Given as goal

-- in terms of what is still to be written
abbrev pub invariant-loop-i : goal.invariant-loop-i
invariant-loop-i g l = record {
  written : option_map (with_links (filled l.end (bytes_in l.region (drop l.i l.writes)))) (seen_of (g.R.Rig.state l.rig) Image)
      ≡ option_map (with_links (filled l.image_len (bytes_in l.region l.writes))) (seen_of (g.R.Rig.state l.initial.rig) Image);
  whole : ForSome (seen_of (g.R.Rig.state l.rig) Image) (λ seen. length seen ≡ l.end);
  pieces : AllByRecursion (λ w. IsPiece l.region w.1) (drop l.i l.writes);
  near : AreNear l.end (bytes_in l.region (drop l.i l.writes));
  small : last_end l.end (bytes_in l.region (drop l.i l.writes)) ≤ 2 ^ 62;
  other : LeavesOther Image (g.R.Rig.state l.initial.rig) (g.R.Rig.state l.rig);
  goes_on : GoesOn (g.R.Rig.state l.initial.rig) (g.R.Rig.state l.rig);
  cause : Faults None (g.R.Rig.state l.initial.rig) (g.R.Rig.state l.rig);
  moments : ForSome (devices (g.R.Rig.state l.initial.rig)) (λ all. (view : View) → KeepsNow view all → JournalCounts all → AreFree view (filled l.image_len (bytes_in l.region l.writes))
      → AreFree view (filled l.end (bytes_in l.region (drop l.i l.writes))) × Throughout g.R.Rig l.initial.rig l.rig (KeepsStill view all.said));
}
