use Rattle.std.proofs.Common.{rules, w32, SFits, append_assoc}
use Rattle.std.proofs.lemmas.Int.{to_z-of_z}
use Rattle.czi_report.specs.Text.{tile_line_of}
use Rattle.czi_report.proofs.Pieces.{grows_after, on_err}
use Rattle.czi_report.proofs.listing.push_tile.Goals as goal

pub returns-clause-ok : goal.returns-clause-ok
unfolding tile_line_of
returns-clause-ok c =
    let pixel : SFits w32 c.args.tile.now.info.pixel = search rules in
    let compression : SFits w32 c.args.tile.now.info.compression = search rules in
    rw (
      c.in_ok-end_with_dims.ensures.ok,
      c.in_ok-push_number-4.ensures.ok,
      c.in_ok-push_number-3.ensures.ok,
      c.in_ok-push_number-2.ensures.ok,
      c.in_ok-push_number.ensures.ok,
      to_z-of_z w32 c.args.tile.now.info.pixel pixel,
      to_z-of_z w32 c.args.tile.now.info.compression compression,
    ) (simp append_assoc)

pub returns-in_err-end_with_dims-clause-err : goal.returns-in_err-end_with_dims-clause-err
returns-in_err-end_with_dims-clause-err c = on_err c.from_residual-in_err-end_with_dims.result (grows_after _ _ _ _ c.in_ok-push_number.ensures.ok (grows_after _ _ _ _ c.in_ok-push_number-2.ensures.ok
    (grows_after _ _ _ _ c.in_ok-push_number-3.ensures.ok (grows_after _ _ _ _ c.in_ok-push_number-4.ensures.ok c.in_err-end_with_dims.ensures.err))))
