use Rattle.std.proofs.Common.{◌≡◌, ◌∙◌, ◌++◌, ap, length, map, take, subst, rules}
use Rattle.std.proofs.lemmas.Int.{to_z-of_z}
use Rattle.std.specs.Int.{cast_signed, cast_unsigned, w64}
use Rattle.std.specs.List.{AllByRecursion, flat_map}
use Rattle.czi_doc.specs.View.{dim_of, info_of}
use Rattle.czi_format.specs.Entry.{Entry, IsDim, IsEntry, dim_bytes, entry_bytes, head_bytes}
use Rattle.czi_dv.proofs.Written.{entry_written, entry_stands, entry_alone}
use Rattle.czi_dv.proofs.writing.write_entry.Goals as goal

pub returns : goal.returns
returns c =
    let x : Entry = record { info = info_of c.args.info.now; position = c.args.position } in
    let long : length c.entry_head.result ≡ 32 = search rules in
    let place : cast_signed w64 (cast_unsigned w64 c.args.position) ≡ c.args.position = to_z-of_z w64 c.args.position c.ranges.position in
    let written : c.write_dims.new.out ≡ entry_bytes x = entry_written x c.args.out.now c.write_bytes.new.bytes c.entry_head.result c.write_dims.new.out long
    (c.entry_head.ensures.written ∙ ap (head_bytes x.info) place) c.write_bytes.ensures.written
    (c.write_dims.ensures.written ∙ ap (λ l. take 32 c.write_bytes.new.bytes ++ flat_map dim_bytes (map dim_of l)) c.list.ensures.list) in
    let is : IsEntry x = record {
      info = c.entry_head.ensures.is (subst (λ l. AllByRecursion IsDim (map dim_of l)) c.list.ensures.list c.write_dims.ensures.records);
      position = c.ranges.position;
    } in
    record {
      written = written;
      whole = entry_alone x c.write_dims.new.out is written;
      reads_back = λ rest. entry_stands x c.write_dims.new.out rest is written;
    }
