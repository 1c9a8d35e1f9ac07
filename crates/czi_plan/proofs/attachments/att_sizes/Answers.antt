use Rattle.czi_plan.proofs.Attached.{parts_sized}
use Rattle.czi_plan.proofs.attachments.att_sizes.Goals as goal

pub returns-clause-sizes : goal.returns-clause-sizes
returns-clause-sizes c = parts_sized c.args.parts.now c.of_parts.result c.of_parts.ensures.sizes
