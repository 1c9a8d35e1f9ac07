use Rattle.std.proofs.Common.{◌≡◌, ap, subst, List, None, map}
use Rattle.czi_format.specs.Entry.{Dim}
use Rattle.czi_doc.specs.View.{dim_of}
use Rattle.czi_format.specs.Painting.{Query}
use Rattle.czi_doc.specs.QueryView.{query_of}
use Rattle.czi_tiles.specs.Chosen.{tile_dims, tile_info}
use Rattle.czi_tiles.specs.Covered.{IsCovering}
use Rattle.czi_format.specs.PaintRefusals.{cause_of}
use Rattle.czi_paint.proofs.Patched.{patch_is, enough_bytes, long_enough}
use Rattle.czi_paint.proofs.patching.patch_of.Goals as goal

pub returns : goal.returns
returns c =
    let q : Query = query_of c.args.query.now in
    let fine : cause_of (query_of c.args.query.now) c.args.place (tile_info c.args.tile.now) c.args.tile.now.pixels ≡ None = c.in_default-cause.ensures in
    let part : IsCovering (query_of c.args.query.now) (tile_dims c.args.tile.now) c.in-Some.part = subst (λ (dims : List Dim). IsCovering (query_of c.args.query.now) dims c.in-Some.part) (ap (map dim_of) c.list.ensures.list) c.in-Some.ensures.covers in
    (fine, patch_is q c.args.tile.now c.in-Some.part part (enough_bytes q (tile_dims c.args.tile.now) c.in-Some.part c.args.tile.now.pixels part (long_enough q c.args.place (tile_info c.args.tile.now) c.args.tile.now.pixels fine)))
