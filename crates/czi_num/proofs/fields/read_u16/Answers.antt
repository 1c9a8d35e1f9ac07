use Rattle.std.proofs.Common.{◌∙◌}
use Rattle.czi_num.proofs.Numbers.{number_2}
use Rattle.czi_num.proofs.fields.read_u16.Goals as goal

pub returns : goal.returns
returns c = c.read_u16.ensures ∙ number_2 c.args.bytes.now c.args.at c.requires
