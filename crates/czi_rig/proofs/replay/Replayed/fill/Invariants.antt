use Rattle.std.proofs.Common.{reverse, take}
use Rattle.czi_rig.specs.Crash.{IsFill, disk_in}
use Rattle.czi_rig.proofs.replay.Replayed.fill.Given as goal

abbrev pub invariant-loop-at : goal.invariant-loop-at
invariant-loop-at l = IsFill l.byte (disk_in l.self).durable (reverse (take l.at-index l.self.written.items)) l.len l.left.items
