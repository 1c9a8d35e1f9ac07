use Rattle.std.proofs.Common.{arith, sym, ◌∙◌}
use Rattle.std.proofs.lemmas.Bool.{eqb-false}
use Rattle.czi_doc.proofs.Numbers.{no_number, no_number_behind, number_told}
use Rattle.czi_doc.proofs.reading.read_integer.Goals as goal

pub returns-in_default : goal.returns-in_default
returns-in_default c = λ n is fits. no_number c.args.text.now c.in_default.field-0 n (sym c.in_default.ensures.read) is fits

pub returns-then-not-is_empty : goal.returns-then-not-is_empty
returns-then-not-is_empty c = λ n is fits.
    let some = eqb-false _ _ (sym c.is_empty.ensures ∙ c.if-not-is_empty.true) in
    no_number_behind c.args.text.now _ n (sym c.in-Ok.ensures.read) (omega (arith, some)) is fits

pub returns : goal.returns
returns c = number_told c.args.text.now c.in-Ok.value c.in-Ok.rest.now c.in-Ok.ensures.read (sym c.is_empty.ensures ∙ c.if-not-is_empty.false)
