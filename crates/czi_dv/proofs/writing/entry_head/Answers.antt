use Rattle.std.proofs.Common.{◌≡◌, ◌∙◌, ap, sym, length, arith, rules}
use Rattle.std.proofs.lemmas.Int.{to_z-of_z}
use Rattle.std.proofs.lemmas.List.{length-map}
use Rattle.std.specs.Int.{cast_signed, cast_unsigned, w32, w64}
use Rattle.std.specs.Prelude.{FitsSigned}
use Rattle.czi_doc.specs.View.{dim_of, dims_of, info_of, records}
use Rattle.czi_format.specs.Bytes.{put_at, u32_bytes}
use Rattle.czi_format.specs.Entry.{EntryInfo, head_bytes}
use Rattle.czi_dv.proofs.Written.{head_written}
use Rattle.czi_dv.proofs.writing.entry_head.Goals as goal

pub returns-clause-is : goal.returns-clause-is
returns-clause-is c = λ dims.
    let count : length c.list.result.now ≡ length (dims_of c.args.info.now.dims) = ap length c.list.ensures.list ∙ sym (length-map _ dim_of) in
    record {
      pixel = search rules;
      compression = search rules;
      pyramid = c.write_bytes-2.ensures.below_256 0;
      spare = search rules;
      spare_bytes = c.write_bytes-3.ensures.below_256;
      some = omega (arith, count, c.list.ensures.some);
      few = omega (arith, count, c.list.ensures.few);
      dims = dims;
    }

pub returns-clause-written : goal.returns-clause-written
returns-clause-written c =
    let info : EntryInfo = info_of c.args.info.now in
    let pixel_fits : FitsSigned w32 info.pixel = search rules in
    let compression_fits : FitsSigned w32 info.compression = search rules in
    let long : length info.spare ≡ 5 = search rules in
    let pixel : cast_signed w32 (cast_unsigned w32 info.pixel) ≡ info.pixel = to_z-of_z w32 info.pixel pixel_fits in
    let compression : cast_signed w32 (cast_unsigned w32 info.compression) ≡ info.compression = to_z-of_z w32 info.compression compression_fits in
    let place : cast_signed w64 (cast_unsigned w64 c.args.position) ≡ c.args.position = to_z-of_z w64 c.args.position c.ranges.position in
    let count : length c.list.result.now ≡ length info.dims = ap length c.list.ensures.list ∙ (let e : length (records c.args.info.now.dims) ≡ length info.dims = search (rules, length-map) in e) in
    let passed : EntryInfo = record info { pixel = cast_signed w32 (cast_unsigned w32 info.pixel); compression = cast_signed w32 (cast_unsigned w32 info.compression) } in
    head_written passed (cast_signed w64 (cast_unsigned w64 c.args.position)) c.write_bytes.new.bytes c.write_i32.new.bytes c.write_i64.new.bytes c.write_u32.new.bytes c.write_i32-2.new.bytes c.write_bytes-2.new.bytes c.write_bytes-3.new.bytes c.write_u32-2.new.bytes long
    c.write_bytes.ensures.written c.write_i32.ensures.written c.write_i64.ensures.written c.write_u32.ensures.written c.write_i32-2.ensures.written c.write_bytes-2.ensures.written c.write_bytes-3.ensures.written
    (c.write_u32-2.ensures.written ∙ ap (λ n. put_at c.write_bytes-3.new.bytes 28 (u32_bytes n)) count)
    ∙ (λ i. head_bytes (record info { pixel = pixel i; compression = compression i }) (place i))
