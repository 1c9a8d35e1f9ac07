use Rattle.std.proofs.Common.{◌≡◌, ◌++◌, ◌∙◌, ap, rules}
use Rattle.std.proofs.lemmas.Int.{to_z-of_z}
use Rattle.std.specs.Int.{cast_signed, cast_unsigned, w64}
use Rattle.czi_format.specs.Entry.{A1, IsA1, IsAttInfo, a1, a1_bytes}
use Rattle.czi_format.proofs.Heads.{a1_again}
use Rattle.czi_doc.specs.View.{att_of}
use Rattle.czi_att.proofs.Written.{a1_written}
use Rattle.czi_att.proofs.entry.write_a1.Goals as goal

pub returns : goal.returns
returns c =
    let a : A1 = record { info = att_of c.args.info.now; position = c.args.position } in
    let is : IsAttInfo a.info = record {
      guid = search rules;
      guid_bytes = c.write_bytes-2.ensures.below_256;
      kind = search rules;
      kind_bytes = c.write_bytes-3.ensures.below_256;
      name = search rules;
      name_bytes = c.write_bytes-4.ensures.below_256;
    } in
    let own : IsA1 a = record { info = is; position = c.ranges.position } in
    let place : cast_signed w64 (cast_unsigned w64 c.args.position) ≡ c.args.position = to_z-of_z w64 c.args.position c.ranges.position in
    let written : c.write_bytes-4.new.bytes ≡ a1_bytes a =
    a1_written a.info (cast_signed w64 (cast_unsigned w64 c.args.position)) c.write_bytes.new.bytes c.write_i64.new.bytes c.write_bytes-2.new.bytes c.write_bytes-3.new.bytes c.write_bytes-4.new.bytes is
    c.write_bytes.ensures.written c.write_i64.ensures.written c.write_bytes-2.ensures.written c.write_bytes-3.ensures.written c.write_bytes-4.ensures.written
    ∙ (λ i. a1_bytes (record { info = a.info; position = place i })) in
    record {
      written = written;
      own = own;
      reads_back = λ rest. ap (λ l. a1 (l ++ rest)) written ∙ a1_again a rest own;
    }
