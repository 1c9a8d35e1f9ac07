use Rattle.std.proofs.Common.{append_assoc}
use Rattle.czi_report.specs.Text.{guid_line}
use Rattle.czi_report.proofs.details.push_front.Goals as goal

pub returns-clause-ok : goal.returns-clause-ok
unfolding guid_line
returns-clause-ok c = λ live holds.
    rw (c.in_ok-push_directory.ensures.ok, c.in_ok-extend_from_slice.ensures.items, c.in_ok-push_guid.ensures.ok, c.in_ok-end_with_number.ensures.ok, c.guid.ensures, holds.header.identity, holds.directory) (simp append_assoc)
