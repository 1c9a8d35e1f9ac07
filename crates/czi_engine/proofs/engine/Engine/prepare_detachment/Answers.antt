use Rattle.std.proofs.Common.{Ok, Err, map, ap, sym, ◌∙◌, arith}
use Rattle.std.proofs.lemmas.List.{length-map}
use Rattle.czi_image.specs.View.{att_item_of}
use Rattle.czi_machine.specs.Change.{out}
use Rattle.czi_machine.specs.Edit.{detach, in_attachments, no_key}
use Rattle.czi_engine.specs.Devices.{refusal_of}
use Rattle.czi_engine.proofs.Planned.{at_found, attachment_inside, detachment_means, means_as, refused}
use Rattle.czi_engine.proofs.engine.Engine.prepare_detachment.Goals as goal

pub returns-in_err-place : goal.returns-in_err-place
returns-in_err-place c =
    let x = c.args.self.now in
    let name = c.args.name.now in
    let told = c.in_err-place.ensures.told in
    refused x (detach name) c.from_residual.result c.in_err-place.field-0.0 no_key (ap refusal_of told.0)
    (means_as x.state (detach name) _ (Err no_key) (detachment_means x.state name) (ap (λ t. at_found t (λ i. in_attachments (out i))) (sym c.attachment_with.ensures ∙ told.1))) c.from_residual.ensures.1

pub prepare-requires-clause-allowed : goal.prepare-requires-clause-allowed
prepare-requires-clause-allowed c =
    let x = c.args.self.now in
    omega (arith, attachment_inside c.args.name.now (map att_item_of x.state.index.attachments.items) c.in_ok-place.place (sym c.attachment_with.ensures ∙ c.in_ok-place.ensures.place), length-map x.state.index.attachments.items att_item_of)

pub returns : goal.returns
returns c =
    let x = c.args.self.now in
    let name = c.args.name.now in
    c.prepare.ensures (detach name) (means_as x.state (detach name) _ (Ok (in_attachments (out c.in_ok-place.place))) (detachment_means x.state name) (ap (λ t. at_found t (λ i. in_attachments (out i))) (sym c.attachment_with.ensures ∙ c.in_ok-place.ensures.place)))
