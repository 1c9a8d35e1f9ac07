use Rattle.std.proofs.Common.{◌∙◌}
use Rattle.czi_num.proofs.Numbers.{number_8}
use Rattle.czi_num.proofs.fields.read_u64.Goals as goal

pub returns : goal.returns
returns c = c.read_u64.ensures ∙ number_8 c.args.bytes.now c.args.at c.requires
