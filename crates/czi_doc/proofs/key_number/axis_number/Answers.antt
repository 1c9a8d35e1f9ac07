use Rattle.std.proofs.Common.{◌≡◌, ℕ, ◌+◌, ◌*◌, ◌%◌, ◌^◌, ap, ◌∙◌, rules, to_z, of_z}
use Rattle.std.specs.Int.{cast_unsigned, from_le_bytes, w32}
use Rattle.czi_doc.specs.KeyNumber.{axis_number}
use Rattle.czi_doc.proofs.Numbered.{wraps}
use Rattle.czi_doc.proofs.key_number.axis_number.Goals as goal

pub returns : goal.returns
unfolding axis_number
returns c =
    let name : c.from_le_bytes-name.result ≡ from_le_bytes w32 c.args.dim.now.name = c.from_le_bytes-name.ensures in
    let kept : to_z w32 (of_z w32 c.args.dim.now.start) ≡ c.args.dim.now.start = search rules in
    let start : c.cast_unsigned-start.result ≡ cast_unsigned w32 c.args.dim.now.start = c.cast_unsigned-start.ensures ∙ ap (cast_unsigned w32) kept in
    wraps (c.from_le_bytes-name.result * 0x9E3779B1) (c.cast_unsigned-start.result * 0x85EBCA77) (2 ^ 32)
    ∙ (λ i. let m : ℕ = name i * 0x9E3779B1 + start i * 0x85EBCA77 in m * (2 * m + 1) % 2 ^ 32)
