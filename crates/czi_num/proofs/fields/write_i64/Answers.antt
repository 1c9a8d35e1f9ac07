use Rattle.std.proofs.Common.{◌≡◌, ◌∙◌, ap}
use Rattle.std.proofs.lemmas.Int.{to_z-of_z}
use Rattle.std.specs.Int.{cast_signed, cast_unsigned, w64}
use Rattle.czi_format.specs.Bytes.{i64_at, u64_at}
use Rattle.czi_num.proofs.fields.write_i64.Goals as goal

pub returns-clause-reads_back : goal.returns-clause-reads_back
unfolding i64_at u64_at
returns-clause-reads_back c =
    let same : cast_signed w64 (cast_unsigned w64 c.args.value) ≡ c.args.value = to_z-of_z w64 c.args.value c.ranges.value in
    ap (cast_signed w64) (c.write_u64.ensures.reads_back ∙ c.cast_unsigned.ensures) ∙ (ap (λ z. cast_signed w64 (cast_unsigned w64 z)) same ∙ same)
