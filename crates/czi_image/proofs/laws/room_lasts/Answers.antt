use Rattle.czi_image.proofs.Grown.{capacity_lasts, capacity_left, capacity_suffices, grows}
use Rattle.czi_image.proofs.laws.room_lasts.Goals as goal

pub returns : goal.returns
returns c = record { grows = grows; lasts = capacity_lasts; left = capacity_left; suffices = capacity_suffices }
