use Rattle.std.proofs.Common.{◌∙◌, ◌*◌, ap, sym, nat_lt}
use Rattle.czi_doc.specs.QueryView.{query_of}
use Rattle.czi_tiles.specs.Chosen.{tile_dims}
use Rattle.czi_paint.proofs.Patched.{needed_is}
use Rattle.czi_paint.proofs.patching.is_short.Goals as goal

pub returns : goal.returns
returns c = ap (nat_lt c.args.tile.now.pixels) (ap (λ n. c.args.part.now.width * c.args.part.now.height * n) c.bytes.ensures.size ∙ sym (needed_is (query_of c.args.query.now) (tile_dims c.args.tile.now) c.args.part.now c.requires))
