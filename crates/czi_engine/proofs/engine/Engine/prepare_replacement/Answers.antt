use Rattle.std.proofs.Common.{Ok, Err, map, ap, sym, ◌∙◌, arith}
use Rattle.std.proofs.lemmas.List.{length-map}
use Rattle.czi_doc.specs.View.{dims_of}
use Rattle.czi_format.specs.Document.{Subblock}
use Rattle.czi_image.specs.View.{tile_of}
use Rattle.czi_machine.specs.Change.{put}
use Rattle.czi_machine.specs.Edit.{in_subblocks, no_key, replace}
use Rattle.czi_plan.specs.Bringing.{subblock_in}
use Rattle.czi_engine.specs.Devices.{refusal_of}
use Rattle.czi_engine.specs.Limits.{subblock_pieces}
use Rattle.czi_engine.proofs.Planned.{at_found, limit_passes, limit_refuses, means_as, refused, replacement_means, short_pieces, tile_inside}
use Rattle.czi_engine.proofs.engine.Engine.prepare_replacement.Goals as goal

pub returns-in_err-check_subblock : goal.returns-in_err-check_subblock
returns-in_err-check_subblock c =
    let x = c.args.self.now in
    let s : Subblock = subblock_in c.args.info.now c.args.meta.now c.args.pixels.now c.args.tail.now in
    let told = c.in_err-check_subblock.ensures.past in
    refused x (replace s) c.from_residual.result c.in_err-check_subblock.field-0.0 told.0 told.1 (means_as x.state (replace s) _ (Err told.0) (replacement_means x.state s) (limit_refuses (subblock_pieces s.meta s.pixels s.tail) _ told.0 told.2)) c.from_residual.ensures.1

pub returns-in_err-place : goal.returns-in_err-place
returns-in_err-place c =
    let x = c.args.self.now in
    let s : Subblock = subblock_in c.args.info.now c.args.meta.now c.args.pixels.now c.args.tail.now in
    let told = c.in_err-place.ensures.told in
    let none = sym c.tile_with.ensures ∙ told.1 in
    refused x (replace s) c.from_residual-in_err-place.result c.in_err-place.field-0.0 no_key (ap refusal_of told.0) (means_as x.state (replace s) _ (Err no_key) (replacement_means x.state s) (limit_passes (subblock_pieces s.meta s.pixels s.tail) _ c.in_ok-check_subblock.ensures.within ∙ ap (λ t. at_found t (λ i. in_subblocks (put i s))) none)) c.from_residual-in_err-place.ensures.1

pub prepare-requires-clause-allowed : goal.prepare-requires-clause-allowed
prepare-requires-clause-allowed c =
    let x = c.args.self.now in
    let short = short_pieces (subblock_pieces c.args.meta.now c.args.pixels.now c.args.tail.now) c.in_ok-check_subblock.ensures.within in
    let inside = tile_inside (dims_of c.args.info.now.dims) (map tile_of x.state.index.tiles.items) c.in_ok-place.place (sym c.tile_with.ensures ∙ c.in_ok-place.ensures.place) in
    (record { meta = short.0; pixels = short.1.0; tail = short.1.1.0 }, omega (arith, inside, length-map x.state.index.tiles.items tile_of))

pub returns : goal.returns
returns c =
    let x = c.args.self.now in
    let s : Subblock = subblock_in c.args.info.now c.args.meta.now c.args.pixels.now c.args.tail.now in
    c.prepare.ensures (replace s) (means_as x.state (replace s) _ (Ok (in_subblocks (put c.in_ok-place.place s))) (replacement_means x.state s)
    (limit_passes (subblock_pieces s.meta s.pixels s.tail) _ c.in_ok-check_subblock.ensures.within ∙ ap (λ t. at_found t (λ i. in_subblocks (put i s))) (sym c.tile_with.ensures ∙ c.in_ok-place.ensures.place)))
