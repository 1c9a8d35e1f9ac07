use Rattle.std.proofs.Common.{refl, ap, ◌∙◌, take, drop}
use Rattle.std.specs.Prelude.{codes}
use Rattle.czi_script.specs.Script.{tile_fields}
use Rattle.czi_script.proofs.Words.{says_result}
use Rattle.czi_script.proofs.lines.head_in.Goals as goal

pub returns-then-is_text : goal.returns-then-is_text
returns-then-is_text c =
    let n = c.len_before.ensures.len in
    let line = c.args.line.now in
    says_result line (codes "add") tile_fields c.split_at.result.0.now c.split_at.result.1.now c.tile_in.result (c.split_at.ensures.front ∙ ap (λ k. take k line) n) (c.split_at.ensures.back ∙ ap (λ k. drop k line) n) c.if-is_text.ensures refl c.tile_in.ensures
