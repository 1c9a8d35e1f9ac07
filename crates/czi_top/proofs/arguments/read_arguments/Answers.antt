use Rattle.std.proofs.Common.{◌≡◌, ◌∙◌, rules, true, map, string_bytes, inl, inr}
use Rattle.std.specs.List.{list_all}
use Rattle.clap.specs.Matches.{found_of}
use Rattle.czi_top.specs.Arguments.{is_named, has_two}
use Rattle.czi_top.specs.Words.{is_plain}
use Rattle.czi_top.proofs.Walks.{both, file_got, command_got, fields_got, both_there, whole}
use Rattle.czi_top.proofs.arguments.read_arguments.Goals as goal

pub returns-in_default-get_str-clause-shape : goal.returns-in_default-get_str-clause-shape
returns-in_default-get_str-clause-shape c =
    let words = map (λ s. string_bytes s) c.args.words.now in
    let plain = both (is_named words) (list_all is_plain words) (search rules) in
    let two : true ≡ has_two words = search rules in
    absurd (both_there words two (inl (c.in_default-get_str.ensures
    ∙ file_got (found_of c.in-Some.matches) words plain.1 two (rw c.in-Some.is at c.in_ok-matches.ensures.matches))))

pub returns-in_default-get_str-2-clause-shape : goal.returns-in_default-get_str-2-clause-shape
returns-in_default-get_str-2-clause-shape c =
    let words = map (λ s. string_bytes s) c.args.words.now in
    let plain = both (is_named words) (list_all is_plain words) (search rules) in
    let two : true ≡ has_two words = search rules in
    absurd (both_there words two (inr (c.in_default-get_str-2.ensures
    ∙ command_got (found_of c.in-Some.matches) words plain.1 two (rw c.in-Some.is at c.in_ok-matches.ensures.matches))))

pub returns-clause-parts : goal.returns-clause-parts
returns-clause-parts c =
    let words = map (λ s. string_bytes s) c.args.words.now in
    let plain = both (is_named words) (list_all is_plain words) (search rules) in
    let two : true ≡ has_two words = search rules in
    let rows = rw c.in-Some.is at c.in_ok-matches.ensures.matches in
    let found = found_of c.in-Some.matches in
    whole words (map (λ s. s.now) c.in_ok-fields.fields.items) c.in-Some-get_str.file.now c.in-Some-get_str-2.name.now two
    (c.in-Some-get_str.ensures ∙ file_got found words plain.1 two rows)
    (c.in-Some-get_str-2.ensures ∙ command_got found words plain.1 two rows)
    (c.in_ok-fields.ensures ∙ fields_got found words plain.1 two rows)
