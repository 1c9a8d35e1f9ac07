use Rattle.std.proofs.Common.{sym, subst}
use Rattle.czi_rig.specs.Disk.{Disk}
use Rattle.czi_rig.specs.Replay.{IsSoundDisk}
use Rattle.czi_rig.specs.Crash.{disk_in}
use Rattle.czi_rig.proofs.Crashes.{inside_sound}
use Rattle.czi_rig.proofs.replay.Replayed.crash.Goals as goal

pub enter-requires : goal.enter-requires
enter-requires c = (inside_sound c.args.f c.args.bytes.now c.args.calls.now c.args.number c.index-calls-number.result (disk_in c.in_ok-disk.disk) c.requires.in_calls c.index-calls-number.is c.requires.sound c.in_ok-disk.ensures).small

pub pick-requires : goal.pick-requires
pick-requires c = subst (λ (d : Disk). IsSoundDisk d) (sym c.in_ok-enter.ensures)
    (inside_sound c.args.f c.args.bytes.now c.args.calls.now c.args.number c.index-calls-number.result (disk_in c.in_ok-disk.disk) c.requires.in_calls c.index-calls-number.is c.requires.sound c.in_ok-disk.ensures)
