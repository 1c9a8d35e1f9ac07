use Rattle.std.proofs.Common.{◌≡◌, ◌∙◌, ap, ap₂, rules, [], true}
use Rattle.std.proofs.lemmas.Result.{IfOk-weaker}
use Rattle.clap.specs.Walk.{rule_of}
use Rattle.clap.specs.Simple.{app_of, app_of_fields, on_top, with_rule}
use Rattle.czi_top.specs.Arguments.{bare, file_rule, command_rule, fields_rule}
use Rattle.czi_top.proofs.arguments.make_tool.Goals as goal

pub returns : goal.returns
returns c =
    let file_is : rule_of c.required-file.result ≡ file_rule = search rules in
    let command_is : rule_of c.required-command.result ≡ command_rule = search rules in
    let fields_is : rule_of c.action-fields.result ≡ fields_rule = search rules in
    let bare_is : app_of c.disable_help_flag.result ≡ record { top = bare; subs = [] } =
    ap app_of_fields c.disable_help_flag.ensures
    ∙ ap (on_top (λ s. record s { disable_help_flag = true })) (ap app_of_fields c.no_binary_name.ensures
    ∙ ap (on_top (λ s. record s { no_binary_name = true })) c.new-4.ensures.app) in
    let two : app_of c.in_ok-arg-2.field-0 ≡ with_rule (with_rule (record { top = bare; subs = [] }) file_rule) command_rule =
    c.in_ok-arg-2.ensures.shape (search rules) ∙ ap₂ with_rule (c.in_ok-arg.ensures.shape (search rules) ∙ ap₂ with_rule bare_is file_is) command_is in
    IfOk-weaker c.arg-3.result _ _ (λ r h. h.shape (search rules) ∙ ap₂ with_rule two fields_is) c.arg-3.ensures
