use Rattle.std.proofs.Common.{refl}
use Rattle.czi_format.specs.Segment.{subblock_id}
use Rattle.czi_plan.proofs.ItemsBack.{own_of, tile_is}
use Rattle.czi_plan.proofs.returning.tile_back.Goals as goal

-- src/returning.rt
pub returns : goal.returns
returns c = record {
  span = refl;
  walked = refl;
  says = c.info_in.ensures;
  own = own_of subblock_id c.args.held.now c.header_back.result c.args.held.now.span.at c.requires.sound c.header_back.ensures;
  item = λ y is kind position. tile_is c.args.info.now c.info_in.result c.args.held.now c.header_back.result y c.info_in.ensures c.requires.ends c.header_back.ensures is kind position;
}
