use Rattle.std.proofs.Common.{◌≡◌, ◌∙◌, rules}
use Rattle.std.proofs.lemmas.Int.{to_z-of_z}
use Rattle.std.specs.Int.{cast_signed, cast_unsigned, w32}
use Rattle.std.specs.Prelude.{ℤ}
use Rattle.czi_doc.specs.View.{dim_of}
use Rattle.czi_format.specs.Entry.{Dim, dim_bytes}
use Rattle.czi_dv.proofs.Written.{record_written}
use Rattle.czi_dv.proofs.writing.dim_record.Goals as goal

pub returns-clause-is : goal.returns-clause-is
returns-clause-is c = record {
  name = search rules;
  name_bytes = c.write_bytes.ensures.below_256;
  start = search rules;
  size = search rules;
  coord = search rules;
  coord_bytes = c.write_bytes-2.ensures.below_256;
  stored = search rules;
}

pub returns-clause-written : goal.returns-clause-written
returns-clause-written c =
    let passed : ℤ → ℤ = λ z. cast_signed w32 (cast_unsigned w32 z) in
    let d : Dim = dim_of c.args.dim.now in
    let start : passed d.start ≡ d.start = to_z-of_z w32 d.start (search rules) in
    let size : passed d.size ≡ d.size = to_z-of_z w32 d.size (search rules) in
    let stored : passed d.stored ≡ d.stored = to_z-of_z w32 d.stored (search rules) in
    record_written (record d { start = passed d.start; size = passed d.size; stored = passed d.stored })
    c.write_bytes.new.bytes c.write_i32.new.bytes c.write_i32-2.new.bytes c.write_bytes-2.new.bytes c.write_i32-3.new.bytes (search rules) (search rules)
    c.write_bytes.ensures.written c.write_i32.ensures.written c.write_i32-2.ensures.written c.write_bytes-2.ensures.written c.write_i32-3.ensures.written
    ∙ (λ i. dim_bytes (record d { start = start i; size = size i; stored = stored i }))
