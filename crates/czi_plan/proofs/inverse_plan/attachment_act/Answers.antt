use Rattle.std.proofs.Common.{refl}
use Rattle.czi_plan.proofs.inverse_plan.attachment_act.Goals as goal

pub returns-in-PutAtt-clause-act : goal.returns-in-PutAtt-clause-act
returns-in-PutAtt-clause-act c = rw c.in-PutAtt.is (c.attachment_back.result, refl, c.attachment_back.ensures)

pub returns-in-InsertAtt-clause-act : goal.returns-in-InsertAtt-clause-act
returns-in-InsertAtt-clause-act c = rw c.in-InsertAtt.is (c.attachment_back-in-InsertAtt.result, refl, c.attachment_back-in-InsertAtt.ensures)
