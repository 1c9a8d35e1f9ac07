use Rattle.std.proofs.Common.{refl}
use Rattle.czi_format.specs.Segment.{attachment_id}
use Rattle.czi_plan.proofs.ItemsBack.{attachment_is, own_of}
use Rattle.czi_plan.proofs.returning.attachment_back.Goals as goal

-- src/returning.rt
pub returns : goal.returns
returns c = record {
  span = refl;
  walked = refl;
  own = own_of attachment_id c.args.held.now c.header_back.result c.args.held.now.span.at c.requires.sound c.header_back.ensures;
  item = λ y is kind position. attachment_is c.args.info.now c.args.held.now c.header_back.result y c.requires.ends c.header_back.ensures is kind position;
}
