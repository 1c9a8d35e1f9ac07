use Rattle.std.proofs.Common.{append_assoc}
use Rattle.czi_report.specs.Text.{metadata_line_of, text_line}
use Rattle.czi_report.proofs.Held.{as_extent}
use Rattle.czi_report.proofs.details.push_metadata.Goals as goal

pub returns-in_ok-end_with_number-in-Some-clause-ok : goal.returns-in_ok-end_with_number-in-Some-clause-ok
unfolding metadata_line_of text_line
returns-in_ok-end_with_number-in-Some-clause-ok c =
    let extent = as_extent c.in-Some.metadata.span c.in-Some.metadata.head c.in-Some.metadata.extent in
    rw (c.in_ok-end_with_number-in-Some.ensures.ok, c.in_ok-push_number-in-Some.ensures.ok, c.in_ok-push_span-in-Some.ensures.ok, c.in-Some.is) (simp append_assoc (rw extent))
