use Rattle.czi_image.proofs.Changed.{holds_changed, lies_changed, holds_still, lies_still}
use Rattle.czi_image.proofs.laws.change_applied.Goals as goal

pub returns : goal.returns
returns c = record { holds = holds_changed; lies = lies_changed; holds_still = holds_still; lies_still = lies_still }
