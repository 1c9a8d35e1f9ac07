use Rattle.std.proofs.Common.{append_assoc}
use Rattle.czi_report.specs.Text.{tile_info_line_of, text_line}
use Rattle.czi_report.proofs.Held.{as_extent}
use Rattle.czi_report.proofs.details.push_tile.Goals as goal

pub returns-clause-ok : goal.returns-clause-ok
unfolding tile_info_line_of text_line
returns-clause-ok c =
    let extent = as_extent c.args.tile.now.span c.args.tile.now.head c.args.tile.now.extent in
    rw (c.in_ok-end_with_number.ensures.ok, c.in_ok-push_number-3.ensures.ok, c.in_ok-push_number-2.ensures.ok, c.in_ok-push_span.ensures.ok, c.in_ok-push_number.ensures.ok) (simp append_assoc (rw extent))
