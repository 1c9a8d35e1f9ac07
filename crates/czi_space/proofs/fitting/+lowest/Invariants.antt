use Rattle.std.proofs.Common.{◌+◌, ◌*◌, length}
use Rattle.czi_space.proofs.fitting.+lowest.Given as goal

abbrev pub decreases-lowest : goal.decreases-lowest
decreases-lowest l = length l.held.now + 2 * length l.used.now
