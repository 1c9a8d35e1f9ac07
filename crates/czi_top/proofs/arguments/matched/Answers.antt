use Rattle.std.proofs.Common.{◌≡◌, ◌∙◌, ap, sym, subst, [], map, string_bytes, ⊎_elim, true≢false}
use Rattle.std.specs.List.{list_all}
use Rattle.clap.specs.Values.{kind_of}
use Rattle.clap.specs.Simple.{app_of}
use Rattle.clap.specs.Kinds.{IsAmong}
use Rattle.clap.specs.Faults.{fault_of, is_simple_and_free}
use Rattle.clap.specs.declared.error.kind.ErrorKind.TheVariants as kind
use Rattle.czi_top.specs.Arguments.{is_named}
use Rattle.czi_top.specs.Words.{is_plain}
use Rattle.czi_top.specs.Arguments.{tool}
use Rattle.czi_top.proofs.Walks.{both, not_two, passes_where, tool_is_simple}
use Rattle.czi_top.proofs.arguments.matched.Goals as goal

pub returns-in-Ok-clause-taken : goal.returns-in-Ok-clause-taken
returns-in-Ok-clause-taken c =
    let words = map (λ s. string_bytes s) c.args.words.now in
    let plain = both (is_named words) (list_all is_plain words) c.requires.plain in
    let app_is : app_of c.in_ok-make_tool.field-0 ≡ tool = c.in_ok-make_tool.ensures in
    let fault = c.in-Ok.ensures.kinds (ap is_simple_and_free app_is ∙ tool_is_simple) in
    sym (passes_where words plain.1 (ap (λ a. fault_of a words) (sym app_is) ∙ fault))

pub returns-clause-taken : goal.returns-clause-taken
returns-clause-taken c =
    let words = map (λ s. string_bytes s) c.args.words.now in
    let plain = both (is_named words) (list_all is_plain words) c.requires.plain in
    let app_is : app_of c.in_ok-make_tool.field-0 ≡ tool = c.in_ok-make_tool.ensures in
    let kinds = c.in-Err.ensures.kinds (ap is_simple_and_free app_is ∙ tool_is_simple) in
    not_two words plain.1 (λ passes.
    let none : fault_of (app_of c.in_ok-make_tool.field-0) words ≡ [] = ap (λ a. fault_of a words) app_is ∙ passes in
    let memory : kind_of c.in-Err.error ≡ kind.OutOfMemory = ⊎_elim (λ m. m) (λ among. absurd (subst (λ ks. IsAmong (kind_of c.in-Err.error) ks) none among)) kinds in
    true≢false (sym (rw (c.kind.ensures ∙ memory) at c.eq.ensures) ∙ c.if-eq.false))
