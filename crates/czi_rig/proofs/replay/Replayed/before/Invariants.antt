use Rattle.std.proofs.Common.{◌≡◌, take}
use Rattle.czi_rig.specs.Disk.{at_rest}
use Rattle.czi_rig.specs.Replay.{replay}
use Rattle.czi_rig.specs.Crash.{disk_in}
use Rattle.czi_rig.proofs.replay.Replayed.before.Given as goal

abbrev pub invariant-loop-i : goal.invariant-loop-i
invariant-loop-i l = disk_in l.disk ≡ replay l.f (at_rest l.bytes) (take l.i l.calls)
