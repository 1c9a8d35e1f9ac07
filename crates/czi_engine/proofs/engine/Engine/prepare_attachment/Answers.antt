use Rattle.std.proofs.Common.{◌≡◌, ◌^◌, Ok, Err, map, length, ap, sym, ◌∙◌, arith}
use Rattle.czi_format.specs.Document.{Attachment}
use Rattle.czi_image.specs.View.{att_item_of}
use Rattle.czi_machine.specs.Change.{into}
use Rattle.czi_machine.specs.Edit.{attach, in_attachments}
use Rattle.czi_plan.specs.Attaching.{attachment_in}
use Rattle.czi_plan.specs.Search.{attachment_with}
use Rattle.czi_engine.specs.Limits.{attachment_pieces}
use Rattle.czi_engine.proofs.Planned.{attachment_means, limit_passes, limit_refuses, means_as, new_passes, new_refuses, refused, short_pieces}
use Rattle.czi_engine.proofs.engine.Engine.prepare_attachment.Goals as goal

pub returns-in_err-check_attachment : goal.returns-in_err-check_attachment
returns-in_err-check_attachment c =
    let x = c.args.self.now in
    let s : Attachment = attachment_in c.args.info.now c.args.bytes.now in
    let told = c.in_err-check_attachment.ensures.past in
    refused x (attach s) c.from_residual.result c.in_err-check_attachment.field-0.0 told.0 told.1 (means_as x.state (attach s) _ (Err told.0) (attachment_means x.state s) (limit_refuses (attachment_pieces s.bytes) _ told.0 told.2)) c.from_residual.ensures.1

pub returns-in_err-check_new : goal.returns-in_err-check_new
returns-in_err-check_new c =
    let x = c.args.self.now in
    let s : Attachment = attachment_in c.args.info.now c.args.bytes.now in
    let n = length x.state.index.attachments.items in
    let many : c.len.result ≡ n = omega (arith, c.len.ensures, x.state.index.attachments.ok) in
    let told = rw ((c.attachment_with-there.ensures ∙ ap (λ k. attachment_with k (map att_item_of c.args.self.now.state.index.attachments.items)) c.attachment_key.ensures), many) at c.in_err-check_new.ensures.told in
    let no = new_refuses _ n (2 ^ 12) (in_attachments (into n s)) c.in_err-check_new.field-0.0 told in
    refused x (attach s) c.from_residual-in_err-check_new.result c.in_err-check_new.field-0.0 no.0 no.1 (means_as x.state (attach s) _ (Err no.0) (attachment_means x.state s) (limit_passes (attachment_pieces s.bytes) _ c.in_ok-check_attachment.ensures.within ∙ no.2)) c.from_residual-in_err-check_new.ensures.1

pub prepare-requires-clause-allowed : goal.prepare-requires-clause-allowed
prepare-requires-clause-allowed c = ((short_pieces (attachment_pieces c.args.bytes.now) c.in_ok-check_attachment.ensures.within).0, omega (arith, c.len.ensures, c.in_ok-check_new.ensures.room))

pub returns : goal.returns
returns c =
    let x = c.args.self.now in
    let s : Attachment = attachment_in c.args.info.now c.args.bytes.now in
    let n = length x.state.index.attachments.items in
    c.prepare.ensures (attach s) (means_as x.state (attach s) _ (Ok (in_attachments (into n s))) (attachment_means x.state s)
    (limit_passes (attachment_pieces s.bytes) _ c.in_ok-check_attachment.ensures.within
    ∙ new_passes _ n (2 ^ 12) (in_attachments (into n s)) (sym (c.attachment_with-there.ensures ∙ ap (λ k. attachment_with k (map att_item_of c.args.self.now.state.index.attachments.items)) c.attachment_key.ensures) ∙ c.in_ok-check_new.ensures.unknown) (omega (arith, c.len.ensures, c.in_ok-check_new.ensures.room))))
