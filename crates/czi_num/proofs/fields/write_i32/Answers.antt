use Rattle.std.proofs.Common.{◌≡◌, ◌∙◌, ap}
use Rattle.std.proofs.lemmas.Int.{to_z-of_z}
use Rattle.std.specs.Int.{cast_signed, cast_unsigned, w32}
use Rattle.czi_format.specs.Bytes.{i32_at, u32_at}
use Rattle.czi_num.proofs.fields.write_i32.Goals as goal

pub returns-clause-reads_back : goal.returns-clause-reads_back
unfolding i32_at u32_at
returns-clause-reads_back c =
    let same : cast_signed w32 (cast_unsigned w32 c.args.value) ≡ c.args.value = to_z-of_z w32 c.args.value c.ranges.value in
    ap (cast_signed w32) (c.write_u32.ensures.reads_back ∙ c.cast_unsigned.ensures) ∙ (ap (λ z. cast_signed w32 (cast_unsigned w32 z)) same ∙ same)
