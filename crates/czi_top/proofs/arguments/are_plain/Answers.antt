use Rattle.std.proofs.Common.{◌≡◌, ◌∙◌, ap, sym, rules, map, string_bytes, ◌&&◌, true}
use Rattle.std.specs.List.{list_all}
use Rattle.std.proofs.lemmas.List.Folds.{list_all-map}
use Rattle.czi_top.specs.Arguments.{is_named}
use Rattle.czi_top.specs.Words.{is_plain}
use Rattle.czi_top.proofs.arguments.are_plain.Goals as goal

pub returns-then-is_named : goal.returns-then-is_named
returns-then-is_named c =
    let words = map (λ s. string_bytes s) c.args.words.now in
    let named : is_named words ≡ true = search rules in
    c.all_plain.ensures ∙ sym (list_all-map is_plain (λ s. string_bytes s) c.args.words.now)
    ∙ sym (ap (λ b. b && list_all is_plain words) named)
