use Rattle.std.proofs.Common.{append_assoc}
use Rattle.czi_report.specs.Text.{attachment_line_of, text_line}
use Rattle.czi_report.proofs.Held.{as_extent}
use Rattle.czi_report.proofs.details.push_attachment.Goals as goal

pub returns-clause-ok : goal.returns-clause-ok
unfolding attachment_line_of text_line
returns-clause-ok c =
    let extent = as_extent c.args.item.now.span c.args.item.now.head c.args.item.now.extent in
    rw (c.in_ok-end_with_number.ensures.ok, c.in_ok-push_name-2.ensures.ok, c.in_ok-push_name.ensures.ok, c.in_ok-push_guid.ensures.ok, c.in_ok-push_span.ensures.ok, c.in_ok-push_number.ensures.ok) (simp append_assoc (rw extent))
