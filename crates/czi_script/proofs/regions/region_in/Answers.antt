use Rattle.czi_script.proofs.Values.{region_refused}
use Rattle.czi_script.proofs.regions.region_in.Goals as goal

pub returns-in-Err : goal.returns-in-Err
returns-in-Err c = region_refused c.in-Some.texts c.args.fields.now c.in-Err.refusal c.in-Some.ensures c.in-Err.ensures
