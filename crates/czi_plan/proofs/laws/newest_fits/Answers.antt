use Rattle.czi_plan.proofs.Fitting.{newest_fits}
use Rattle.czi_plan.proofs.laws.newest_fits.Goals as goal

-- src/laws.rt
pub returns : goal.returns
returns c = newest_fits
