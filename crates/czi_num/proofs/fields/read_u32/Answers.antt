use Rattle.std.proofs.Common.{◌∙◌}
use Rattle.czi_num.proofs.Numbers.{number_4}
use Rattle.czi_num.proofs.fields.read_u32.Goals as goal

pub returns : goal.returns
returns c = c.read_u32.ensures ∙ number_4 c.args.bytes.now c.args.at c.requires
