use Rattle.std.proofs.Common.{refl}
use Rattle.czi_plan.proofs.inverse_plan.metadata_setting.Goals as goal

pub returns-in-PutMeta : goal.returns-in-PutMeta
returns-in-PutMeta c = rw c.in-PutMeta.is (c.metadata_back.result, refl, c.metadata_back.ensures)
