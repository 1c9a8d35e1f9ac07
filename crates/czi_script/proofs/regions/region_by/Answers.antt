use Rattle.czi_script.proofs.RegionWords.{none_said}
use Rattle.czi_script.proofs.regions.region_by.Goals as goal

pub returns-in-Err-Kind : goal.returns-in-Err-Kind
returns-in-Err-Kind c = none_said c.in-Some.texts c.args.fields.now c.in-Err-Kind.field-0-0 c.in-Some.ensures (rw c.in-Err-Kind.field-0-is at c.in-Err-Kind.ensures)
