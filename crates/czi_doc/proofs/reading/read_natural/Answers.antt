use Rattle.std.proofs.Common.{◌≡◌, ◌<◌, length, arith, sym, ◌∙◌, inl, inr}
use Rattle.czi_doc.specs.Reading.{number_len}
use Rattle.czi_doc.proofs.Numbers.{natural_whole, no_natural, natural_told}
use Rattle.czi_doc.proofs.reading.read_natural.Goals as goal

pub returns-then-len-eq0 : goal.returns-then-len-eq0
returns-then-len-eq0 c = λ n is. absurd (no_natural c.args.text.now n (elim c.then-len-eq0.either [
  | inl none ↦ inl (sym c.number_len-len.ensures.len ∙ none)
  | inr less ↦ inr (omega (arith, less.1, c.number_len-len.ensures.len))
]) is)

pub magnitude-requires : goal.magnitude-requires
magnitude-requires c =
    let e : number_len c.args.text.now ≡ length c.args.text.now = omega (arith, c.number_len-len.ensures.len, c.number_len-len.ensures.inside, c.if-len-text.false) in
    let some : 0 < length c.args.text.now = omega (arith, c.if-len-eq0.false, c.number_len-len.ensures.inside) in
    (natural_whole c.args.text.now e some).digits.1

pub returns : goal.returns
returns c =
    natural_told c.args.text.now c.magnitude.result (omega (arith, c.number_len-len.ensures.len, c.number_len-len.ensures.inside, c.if-len-text.false))
    (omega (arith, c.if-len-eq0.false, c.number_len-len.ensures.inside)) c.magnitude.ensures
