use Rattle.std.proofs.Common.{Ok, Err, map, ap, sym, ◌∙◌, arith}
use Rattle.std.proofs.lemmas.List.{length-map}
use Rattle.czi_doc.specs.View.{dims_of}
use Rattle.czi_image.specs.View.{tile_of}
use Rattle.czi_machine.specs.Change.{out}
use Rattle.czi_machine.specs.Edit.{in_subblocks, no_key, remove}
use Rattle.czi_engine.specs.Devices.{refusal_of}
use Rattle.czi_engine.proofs.Planned.{at_found, means_as, refused, removal_means, tile_inside}
use Rattle.czi_engine.proofs.engine.Engine.prepare_removal.Goals as goal

pub returns-in_err-place : goal.returns-in_err-place
returns-in_err-place c =
    let x = c.args.self.now in
    let dims = dims_of c.args.dims.now in
    let told = c.in_err-place.ensures.told in
    refused x (remove dims) c.from_residual.result c.in_err-place.field-0.0 no_key (ap refusal_of told.0)
    (means_as x.state (remove dims) _ (Err no_key) (removal_means x.state dims) (ap (λ t. at_found t (λ i. in_subblocks (out i))) (sym c.tile_with.ensures ∙ told.1))) c.from_residual.ensures.1

pub prepare-requires-clause-allowed : goal.prepare-requires-clause-allowed
prepare-requires-clause-allowed c =
    let x = c.args.self.now in
    omega (arith, tile_inside (dims_of c.args.dims.now) (map tile_of x.state.index.tiles.items) c.in_ok-place.place (sym c.tile_with.ensures ∙ c.in_ok-place.ensures.place), length-map x.state.index.tiles.items tile_of)

pub returns : goal.returns
returns c =
    let x = c.args.self.now in
    let dims = dims_of c.args.dims.now in
    c.prepare.ensures (remove dims) (means_as x.state (remove dims) _ (Ok (in_subblocks (out c.in_ok-place.place))) (removal_means x.state dims) (ap (λ t. at_found t (λ i. in_subblocks (out i))) (sym c.tile_with.ensures ∙ c.in_ok-place.ensures.place)))
