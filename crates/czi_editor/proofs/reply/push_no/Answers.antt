use Rattle.std.proofs.Common.{ap, sym, ◌∙◌}
use Rattle.czi_machine.specs.Edit.{duplicate, full, no_key, too_long, too_many}
use Rattle.czi_engine.specs.Devices.{edit_device, refusal_of}
use Rattle.czi_editor.proofs.reply.push_no.Goals.{in-TooLong, in-NoKey, in-Duplicate, in-TooMany, in-Full}
use Rattle.czi_editor.proofs.reply.push_no.Goals as goal

pub returns-in-Ok-clause-said : goal.returns-in-Ok-clause-said
returns-in-Ok-clause-said c = elim c.match-error.branch [
  | in-TooLong w ↦ (too_long w.in-TooLong.len w.in-TooLong.limit, ap refusal_of w.in-TooLong.is, ap (λ v. v.items) w.reply-is ∙ (rw (sym w.pushed-is ∙ c.in-Ok.is) at w.push_no_long-pushed.ensures.ok))
  | in-NoKey w ↦ (no_key, ap refusal_of w.in-NoKey.is, ap (λ v. v.items) w.reply-is ∙ (rw (sym w.pushed-is ∙ c.in-Ok.is) at w.push_no_key-pushed.ensures.ok))
  | in-Duplicate w ↦ (duplicate w.in-Duplicate.place, ap refusal_of w.in-Duplicate.is, ap (λ v. v.items) w.reply-is ∙ (rw (sym w.pushed-is ∙ c.in-Ok.is) at w.push_no_duplicate-pushed.ensures.ok))
  | in-TooMany w ↦ (too_many w.in-TooMany.count, ap refusal_of w.in-TooMany.is, ap (λ v. v.items) w.reply-is ∙ (rw (sym w.pushed-is ∙ c.in-Ok.is) at w.push_no_many-pushed.ensures.ok))
  | in-Full w ↦ (full w.in-Full.need w.in-Full.length, ap refusal_of w.in-Full.is, ap (λ v. v.items) w.reply-is ∙ (rw (sym w.pushed-is ∙ c.in-Ok.is) at w.push_no_full-pushed.ensures.ok))
]

pub returns-in-Ok-clause-device : goal.returns-in-Ok-clause-device
returns-in-Ok-clause-device c = elim c.match-error.branch [
  | in-TooLong w ↦ sym (ap edit_device w.in-TooLong.is)
  | in-NoKey w ↦ sym (ap edit_device w.in-NoKey.is)
  | in-Duplicate w ↦ sym (ap edit_device w.in-Duplicate.is)
  | in-TooMany w ↦ sym (ap edit_device w.in-TooMany.is)
  | in-Full w ↦ sym (ap edit_device w.in-Full.is)
]

pub returns-in-Err-clause-device : goal.returns-in-Err-clause-device
returns-in-Err-clause-device c = elim c.match-error.branch [
  | in-TooLong w ↦ sym (ap edit_device w.in-TooLong.is)
  | in-NoKey w ↦ sym (ap edit_device w.in-NoKey.is)
  | in-Duplicate w ↦ sym (ap edit_device w.in-Duplicate.is)
  | in-TooMany w ↦ sym (ap edit_device w.in-TooMany.is)
  | in-Full w ↦ sym (ap edit_device w.in-Full.is)
]
