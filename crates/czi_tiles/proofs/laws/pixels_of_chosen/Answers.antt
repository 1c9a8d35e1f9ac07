use Rattle.czi_tiles.proofs.Chosen.{from_chosen}
use Rattle.czi_tiles.proofs.laws.pixels_of_chosen.Goals as goal

pub returns : goal.returns
returns c = from_chosen
