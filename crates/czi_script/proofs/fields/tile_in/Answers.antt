use Rattle.czi_script.specs.View.{verb_of}
use Rattle.czi_script.proofs.Values.{tile_refused}
use Rattle.czi_script.proofs.fields.tile_in.Goals as goal

pub returns-in-Err : goal.returns-in-Err
returns-in-Err c = tile_refused (verb_of c.args.verb) c.in-Some.texts c.args.fields.now c.in-Err.refusal c.in-Some.ensures c.in-Err.ensures
