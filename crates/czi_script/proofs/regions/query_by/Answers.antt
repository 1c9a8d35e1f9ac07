use Rattle.std.proofs.Common.{refl}
use Rattle.czi_script.proofs.Values.{no_region_numbers}
use Rattle.czi_script.proofs.regions.query_by.Goals as goal

pub returns-in_default : goal.returns-in_default
returns-in_default c = (refl, no_region_numbers c.args.texts.now c.in_default.ensures)
