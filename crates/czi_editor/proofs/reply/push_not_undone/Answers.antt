use Rattle.std.proofs.Common.{ap, sym, ◌∙◌}
use Rattle.czi_machine.specs.Edit.{full, nothing}
use Rattle.czi_engine.specs.Devices.{device_in, refusal_in, undo_fault}
use Rattle.czi_editor.proofs.reply.push_not_undone.Goals.{in-Nothing, in-Full}
use Rattle.czi_editor.proofs.reply.push_not_undone.Goals as goal

pub returns-in-Ok-clause-said : goal.returns-in-Ok-clause-said
returns-in-Ok-clause-said c = elim c.match-error.branch [
  | in-Nothing w ↦ (nothing, ap (λ e. refusal_in (undo_fault e)) w.in-Nothing.is, ap (λ v. v.items) w.reply-is ∙ (rw (sym w.pushed-is ∙ c.in-Ok.is) at w.push_no_nothing-pushed.ensures.ok))
  | in-Full w ↦ (full w.in-Full.need w.in-Full.length, ap (λ e. refusal_in (undo_fault e)) w.in-Full.is, ap (λ v. v.items) w.reply-is ∙ (rw (sym w.pushed-is ∙ c.in-Ok.is) at w.push_no_full-pushed.ensures.ok))
]

pub returns-in-Ok-clause-device : goal.returns-in-Ok-clause-device
returns-in-Ok-clause-device c = elim c.match-error.branch [
  | in-Nothing w ↦ sym (ap (λ e. device_in (undo_fault e)) w.in-Nothing.is)
  | in-Full w ↦ sym (ap (λ e. device_in (undo_fault e)) w.in-Full.is)
]

pub returns-in-Err-clause-device : goal.returns-in-Err-clause-device
returns-in-Err-clause-device c = elim c.match-error.branch [
  | in-Nothing w ↦ sym (ap (λ e. device_in (undo_fault e)) w.in-Nothing.is)
  | in-Full w ↦ sym (ap (λ e. device_in (undo_fault e)) w.in-Full.is)
]
