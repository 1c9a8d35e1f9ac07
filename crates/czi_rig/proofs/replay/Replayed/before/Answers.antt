use Rattle.std.proofs.Common.{sym, ◌∙◌, ap, arith}
use Rattle.czi_rig.specs.Disk.{Disk}
use Rattle.czi_rig.specs.Crash.{disk_in}
use Rattle.czi_rig.specs.Replay.{after_event}
use Rattle.czi_rig.proofs.Crashes.{inside_sound, replay_at}
use Rattle.czi_rig.proofs.replay.Replayed.before.Goals as goal

pub pass-requires : goal.pass-requires
pass-requires c = (inside_sound c.args.f c.args.bytes.now c.args.calls.now c.loop-i.i c.index-calls-i.result (disk_in c.loop-i.disk) (omega arith) c.index-calls-i.is c.requires.sound c.loop-i.invariant).small

pub loop-i-preserved : goal.loop-i-preserved
loop-i-preserved c = c.in_ok-pass.ensures ∙ ap (λ (d : Disk). after_event c.args.f c.index-calls-i.result d) c.loop-i.invariant ∙ sym (replay_at c.args.f _ c.args.calls.now c.loop-i.i c.index-calls-i.result (omega arith) c.index-calls-i.is)
