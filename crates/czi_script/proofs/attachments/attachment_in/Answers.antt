use Rattle.czi_script.specs.View.{verb_of}
use Rattle.czi_script.proofs.Values.{attachment_refused}
use Rattle.czi_script.proofs.attachments.attachment_in.Goals as goal

pub returns-in-None : goal.returns-in-None
returns-in-None c = attachment_refused (verb_of c.args.verb) c.in-Some.names c.args.fields.now c.in-Some.ensures c.in-None.ensures
