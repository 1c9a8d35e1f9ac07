use Rattle.std.proofs.Common.{ap, sym, ◌∙◌}
use Rattle.czi_format.specs.PaintRefusals.{compressed, kind, mixed, short_data, too_long}
use Rattle.czi_paint.specs.Refusing.{refusal_of}
use Rattle.czi_editor.proofs.painting.push_no_region.Goals.{in-TooLong, in-Compressed, in-Kind, in-Mixed, in-ShortData}
use Rattle.czi_editor.proofs.painting.push_no_region.Goals as goal

pub returns-in-Ok-clause-said : goal.returns-in-Ok-clause-said
returns-in-Ok-clause-said c = elim c.match-error.branch [
  | in-TooLong w ↦ (too_long w.in-TooLong.bytes w.in-TooLong.limit, ap refusal_of w.in-TooLong.is, ap (λ v. v.items) w.reply-is ∙ (rw (sym w.pushed-is ∙ c.in-Ok.is) at w.push_too_long-pushed.ensures))
  | in-Compressed w ↦ (compressed w.in-Compressed.place, ap refusal_of w.in-Compressed.is, ap (λ v. v.items) w.reply-is ∙ (rw (sym w.pushed-is ∙ c.in-Ok.is) at w.end_with_number-pushed.ensures.ok))
  | in-Kind w ↦ (kind w.in-Kind.place, ap refusal_of w.in-Kind.is, ap (λ v. v.items) w.reply-is ∙ (rw (sym w.pushed-is ∙ c.in-Ok.is) at w.end_with_number-pushed-in-Kind.ensures.ok))
  | in-Mixed w ↦ (mixed w.in-Mixed.place, ap refusal_of w.in-Mixed.is, ap (λ v. v.items) w.reply-is ∙ (rw (sym w.pushed-is ∙ c.in-Ok.is) at w.end_with_number-pushed-in-Mixed.ensures.ok))
  | in-ShortData w ↦ (short_data w.in-ShortData.place, ap refusal_of w.in-ShortData.is, ap (λ v. v.items) w.reply-is ∙ (rw (sym w.pushed-is ∙ c.in-Ok.is) at w.end_with_number-pushed-in-ShortData.ensures.ok))
]
