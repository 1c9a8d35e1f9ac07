use Rattle.std.proofs.Common.{length, ◌<◌, subst, ℕ}
use Rattle.std.proofs.lemmas.List.{length-map}
use Rattle.czi_rig.specs.declared.log.Event.{Event}
use Rattle.czi_rig.specs.MemRig.{history_of}
use Rattle.czi_rig.proofs.Crashes.{crash_is}
use Rattle.czi_rig.proofs.memory_rig.MemRig.crash.Goals as goal

pub returns : goal.returns
returns c =
    let r = c.args.self.now in
    let lt : c.args.number < length r.log.calls.items = subst (λ (n : ℕ). c.args.number < n) (length-map r.log.calls.items (λ (e : Event). e.call)) c.requires in
    crash_is (history_of r) c.args.number c.args.pick c.in_ok-image.image.items c.in_ok-journal.journal.items c.deref.result.now c.deref-2.result.now c.as_slice-calls.result.now lt
    c.deref.ensures.value c.deref-2.ensures.value c.as_slice-calls.ensures.value c.in_ok-image.ensures.left c.in_ok-journal.ensures.left c.in_ok-image.ensures.picked c.in_ok-journal.ensures.picked
