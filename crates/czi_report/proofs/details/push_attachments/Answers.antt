use Rattle.czi_image.specs.View.{att_item_of}
use Rattle.czi_report.specs.Text.{attachment_line}
use Rattle.czi_report.proofs.Pieces.{grows_after, on_err}
use Rattle.czi_report.proofs.Lines.{next_line, last_line}
use Rattle.czi_report.proofs.details.push_attachments.Goals as goal

pub returns-in_err-push_attachment-clause-err : goal.returns-in_err-push_attachment-clause-err
returns-in_err-push_attachment-clause-err c = on_err c.from_residual-in_err-push_attachment.result (grows_after _ _ _ _ c.loop-number.invariant c.in_err-push_attachment.ensures.err)

pub loop-number-preserved : goal.loop-number-preserved
loop-number-preserved c = next_line attachment_line att_item_of c.args.items.now c.loop-number.number c.index-items-number.result _ _ _ _ c.loop-number-test.true c.index-items-number.is c.loop-number.invariant c.in_ok-push_attachment.ensures.ok

pub returns-clause-ok : goal.returns-clause-ok
returns-clause-ok c = last_line _ attachment_line att_item_of c.args.items.now c.loop-number.number _ _ c.loop-number-test.false c.loop-number.invariant
