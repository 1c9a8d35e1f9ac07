use Rattle.std.proofs.Common.{Ok, Err, map, ap, sym, ◌∙◌, arith}
use Rattle.std.proofs.lemmas.List.{length-map}
use Rattle.czi_format.specs.Document.{Attachment}
use Rattle.czi_image.specs.View.{att_item_of}
use Rattle.czi_machine.specs.Change.{put}
use Rattle.czi_machine.specs.Edit.{in_attachments, no_key, reattach}
use Rattle.czi_plan.specs.Attaching.{attachment_in}
use Rattle.czi_plan.specs.Search.{attachment_with}
use Rattle.czi_engine.specs.Devices.{refusal_of}
use Rattle.czi_engine.specs.Limits.{attachment_pieces}
use Rattle.czi_engine.proofs.Planned.{at_found, attachment_inside, limit_passes, limit_refuses, means_as, reattachment_means, refused, short_pieces}
use Rattle.czi_engine.proofs.engine.Engine.prepare_reattachment.Goals as goal

pub returns-in_err-check_attachment : goal.returns-in_err-check_attachment
returns-in_err-check_attachment c =
    let x = c.args.self.now in
    let s : Attachment = attachment_in c.args.info.now c.args.bytes.now in
    let told = c.in_err-check_attachment.ensures.past in
    refused x (reattach s) c.from_residual.result c.in_err-check_attachment.field-0.0 told.0 told.1 (means_as x.state (reattach s) _ (Err told.0) (reattachment_means x.state s) (limit_refuses (attachment_pieces s.bytes) _ told.0 told.2)) c.from_residual.ensures.1

pub returns-in_err-place : goal.returns-in_err-place
returns-in_err-place c =
    let x = c.args.self.now in
    let s : Attachment = attachment_in c.args.info.now c.args.bytes.now in
    let told = c.in_err-place.ensures.told in
    let none = sym (c.attachment_with.ensures ∙ ap (λ k. attachment_with k (map att_item_of c.args.self.now.state.index.attachments.items)) c.attachment_key.ensures) ∙ told.1 in
    refused x (reattach s) c.from_residual-in_err-place.result c.in_err-place.field-0.0 no_key (ap refusal_of told.0) (means_as x.state (reattach s) _ (Err no_key) (reattachment_means x.state s) (limit_passes (attachment_pieces s.bytes) _ c.in_ok-check_attachment.ensures.within ∙ ap (λ t. at_found t (λ i. in_attachments (put i s))) none)) c.from_residual-in_err-place.ensures.1

pub prepare-requires-clause-allowed : goal.prepare-requires-clause-allowed
prepare-requires-clause-allowed c =
    let x = c.args.self.now in
    let inside = attachment_inside _ (map att_item_of x.state.index.attachments.items) c.in_ok-place.place (sym (c.attachment_with.ensures ∙ ap (λ k. attachment_with k (map att_item_of c.args.self.now.state.index.attachments.items)) c.attachment_key.ensures) ∙ c.in_ok-place.ensures.place) in
    ((short_pieces (attachment_pieces c.args.bytes.now) c.in_ok-check_attachment.ensures.within).0, omega (arith, inside, length-map x.state.index.attachments.items att_item_of))

pub returns : goal.returns
returns c =
    let x = c.args.self.now in
    let s : Attachment = attachment_in c.args.info.now c.args.bytes.now in
    c.prepare.ensures (reattach s) (means_as x.state (reattach s) _ (Ok (in_attachments (put c.in_ok-place.place s))) (reattachment_means x.state s)
    (limit_passes (attachment_pieces s.bytes) _ c.in_ok-check_attachment.ensures.within ∙ ap (λ t. at_found t (λ i. in_attachments (put i s))) (sym (c.attachment_with.ensures ∙ ap (λ k. attachment_with k (map att_item_of c.args.self.now.state.index.attachments.items)) c.attachment_key.ensures) ∙ c.in_ok-place.ensures.place)))
