use Rattle.czi_image.specs.View.{tile_of}
use Rattle.czi_report.specs.Text.{tile_info_line}
use Rattle.czi_report.proofs.Pieces.{grows_after, on_err}
use Rattle.czi_report.proofs.Lines.{next_line, last_line}
use Rattle.czi_report.proofs.details.push_tiles.Goals as goal

pub returns-in_err-push_tile-clause-err : goal.returns-in_err-push_tile-clause-err
returns-in_err-push_tile-clause-err c = on_err c.from_residual-in_err-push_tile.result (grows_after _ _ _ _ c.loop-number.invariant c.in_err-push_tile.ensures.err)

pub loop-number-preserved : goal.loop-number-preserved
loop-number-preserved c = next_line tile_info_line tile_of c.args.tiles.now c.loop-number.number c.index-tiles-number.result _ _ _ _ c.loop-number-test.true c.index-tiles-number.is c.loop-number.invariant c.in_ok-push_tile.ensures.ok

pub returns-clause-ok : goal.returns-clause-ok
returns-clause-ok c = last_line _ tile_info_line tile_of c.args.tiles.now c.loop-number.number _ _ c.loop-number-test.false c.loop-number.invariant
