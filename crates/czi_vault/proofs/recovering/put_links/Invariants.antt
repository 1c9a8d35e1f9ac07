use Rattle.std.proofs.Common.{◌≡◌, None, take}
use Rattle.std.specs.Prelude.{option_map}
use Rattle.std.specs.Option.{ForSome}
use Rattle.czi_rig.specs.declared.file.File.TheVariants.{Image}
use Rattle.czi_rig.specs.State.{known, LeavesOther}
use Rattle.czi_rig.specs.Passes.{GoesOn}
use Rattle.czi_rig.specs.Faults.{Faults}
use Rattle.czi_rig.specs.Moments.{devices, Throughout, LeavesWith}
use Rattle.czi_vault.specs.Puts.{begun_each, wrote_each}
use Rattle.czi_vault.proofs.recovering.put_links.Given as goal

abbrev pub invariant-loop-i : goal.invariant-loop-i
invariant-loop-i g l = record {
  written : known (g.R.Rig.state l.rig) Image ≡ option_map (wrote_each (take l.i l.links.links)) (known (g.R.Rig.state l.initial.rig) Image);
  other : LeavesOther Image (g.R.Rig.state l.initial.rig) (g.R.Rig.state l.rig);
  goes_on : GoesOn (g.R.Rig.state l.initial.rig) (g.R.Rig.state l.rig);
  cause : Faults None (g.R.Rig.state l.initial.rig) (g.R.Rig.state l.rig);
  moments : ForSome (devices (g.R.Rig.state l.initial.rig)) (λ all. Throughout g.R.Rig l.initial.rig l.rig (LeavesWith all Image (begun_each l.links.links all.image.durable)));
}
