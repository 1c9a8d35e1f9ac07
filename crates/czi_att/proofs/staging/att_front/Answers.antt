use Rattle.std.proofs.Common.{◌≡◌, length, ◌∙◌, subst, rules}
use Rattle.std.proofs.lemmas.Int.{to_z-of_z}
use Rattle.std.specs.Int.{cast_signed, cast_unsigned, w64}
use Rattle.czi_format.specs.Entry.{A1, IsA1, a1_bytes}
use Rattle.czi_doc.specs.View.{att_of}
use Rattle.czi_att.proofs.Staged.{front_written}
use Rattle.czi_att.proofs.staging.att_front.Goals as goal

pub returns : goal.returns
returns c =
    let a : A1 = record { info = att_of c.args.info.now; position = c.args.position } in
    let place : cast_signed w64 (cast_unsigned w64 c.args.position) ≡ c.args.position = to_z-of_z w64 c.args.position c.ranges.position in
    let long : length c.write_a1.result ≡ 128 = search rules in
    record {
      own = subst (λ z. IsA1 (record { info = a.info; position = z })) place c.write_a1.ensures.own;
      written = front_written c.args.size a c.write_a1.result c.write_u32.new.bytes c.write_bytes.new.bytes long
          (c.write_a1.ensures.written ∙ (λ i. a1_bytes (record { info = a.info; position = place i }))) c.write_u32.ensures.written c.write_bytes.ensures.written;
    }
