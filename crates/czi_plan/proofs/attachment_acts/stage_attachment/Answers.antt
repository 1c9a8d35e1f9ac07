use Rattle.std.proofs.Common.{◌≡◌, ◌+◌, ◌++◌, ◌∷◌, [], length, ap, ◌∙◌, arith, ℤ, pos, to_z, of_z, w64}
use Rattle.std.proofs.lemmas.Int.{to_z-of_z}
use Rattle.czi_doc.specs.View.{att_of}
use Rattle.czi_format.specs.Data.{attachment_data}
use Rattle.czi_num.specs.Padding.{fill}
use Rattle.czi_plan.proofs.KindLaws.{length-attachment}
use Rattle.czi_plan.proofs.attachment_acts.stage_attachment.Goals as goal

pub mark_header-requires-clause-id : goal.mark_header-requires-clause-id
mark_header-requires-clause-id c = ap length c.requires.item.id ∙ length-attachment

pub returns-clause-staged : goal.returns-clause-staged
returns-clause-staged c =
    let i = c.args.item.now in
    let bytes = c.args.bytes.now in
    let put = c.stage_att-piece.ensures.staged in
    let padding = fill (256 + length bytes) in
    let place : to_z w64 (of_z w64 c.position_of-position.result) ≡ pos i.span.at
    = ap (λ (p : ℤ). to_z w64 (of_z w64 p)) c.position_of-position.ensures ∙ to_z-of_z w64 (pos i.span.at) (record { sfits = omega (arith, i.ends) }) in
    record {
      piece = c.stage_att-piece.result;
      staged = put.inside;
      long = omega (arith, c.stage_att-piece.ensures.size, c.requires.long);
      padding = padding;
      bytes = put.reads ∙ ap (λ (p : ℤ). attachment_data (record { info = att_of i.info; position = p }) bytes padding) place;
      only = c.put.ensures.items ∙ ap (λ l. l ++ (i.span.at + 32, c.stage_att-piece.result) ∷ []) c.requires.no_writes;
    }
