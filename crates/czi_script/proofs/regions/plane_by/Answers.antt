use Rattle.czi_script.proofs.RegionLines.{plane_read}
use Rattle.czi_script.proofs.regions.plane_by.Goals as goal

pub returns : goal.returns
returns c = plane_read c.args.text.now c.if-eq.ensures c.read_plane.result c.read_plane.ensures.found c.read_plane.ensures.only
