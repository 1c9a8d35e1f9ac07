use Rattle.std.proofs.Common.{◌++◌, List, ℕ, ap, ◌∙◌, append_assoc}
use Rattle.std.specs.Prelude.{codes}
use Rattle.std.specs.Fmt.{decimal}
use Rattle.std.proofs.lemmas.Result.{on_ok_weaker}
use Rattle.czi_report.specs.Text.{text_line}
use Rattle.czi_editor.proofs.painting.push_too_long.Goals as goal

pub returns : goal.returns
unfolding text_line
returns c =
    let old = c.args.reply.now.items in
    let tail : List ℕ = text_line (codes " ") (decimal c.args.limit) in
    on_ok_weaker c.end_with_number.result (λ e. e ∙ ap (λ (z : List ℕ). z ++ tail) c.in_ok-push_number.ensures.ok ∙ append_assoc old (codes "no long " ++ decimal c.args.bytes) tail
    ∙ ap (λ (z : List ℕ). old ++ z) (append_assoc (codes "no long ") (decimal c.args.bytes) tail)) c.end_with_number.ensures.ok
