use Rattle.czi_image.proofs.Told.{seen_before}
use Rattle.czi_test_paint.proofs.asked.opened.Goals as goal

pub returns-in-Ok : goal.returns-in-Ok
returns-in-Ok c = λ image is. (c.in-Ok.ensures.shown image (seen_before _ _ image c.read_index.ensures.untouched.same is)).lies.length
