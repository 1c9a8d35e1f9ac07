use Rattle.std.proofs.Common.{◌≡◌, ◌++◌, ◌∙◌, ap, length, rules}
use Rattle.std.proofs.lemmas.Int.{to_z-of_z}
use Rattle.std.specs.Int.{cast_signed, cast_unsigned, w32, w64}
use Rattle.std.specs.Prelude.{ℤ}
use Rattle.czi_format.specs.Live.{FileHead, IsFileHead, file_header_bytes, front_head}
use Rattle.czi_format.specs.HeaderRules.{header_rules}
use Rattle.czi_format.proofs.Heads.{head_front, header_again}
use Rattle.czi_seg.specs.HeaderView.{head_of}
use Rattle.czi_seg.proofs.Headers.{file_header_written}
use Rattle.czi_seg.proofs.file_header.write_file_header.Goals as goal

pub returns : goal.returns
returns c =
    let h : FileHead = head_of c.args.h.now in
    let wide : length c.write_header.result ≡ 32 = search rules in
    let is : IsFileHead h = record {
      identity = search rules;
      part = c.requires.first;
      directory = search rules;
      metadata = search rules;
      pending = search rules;
      attachments = search rules;
    } in
    let short : ℤ → ℤ = λ z. cast_signed w32 (cast_unsigned w32 z) in
    let wide_number : ℤ → ℤ = λ z. cast_signed w64 (cast_unsigned w64 z) in
    let directory : wide_number h.directory ≡ h.directory = to_z-of_z w64 h.directory is.directory in
    let metadata : wide_number h.metadata ≡ h.metadata = to_z-of_z w64 h.metadata is.metadata in
    let pending : short h.pending ≡ h.pending = to_z-of_z w32 h.pending is.pending in
    let attachments : wide_number h.attachments ≡ h.attachments = to_z-of_z w64 h.attachments is.attachments in
    let passed : FileHead = record { identity = h.identity; directory = wide_number h.directory; metadata = wide_number h.metadata; pending = short h.pending; attachments = wide_number h.attachments } in
    let same : passed ≡ h = λ i. record { identity = h.identity; directory = directory i; metadata = metadata i; pending = pending i; attachments = attachments i } in
    let written : c.write_i64-3.new.bytes ≡ file_header_bytes h =
    file_header_written passed c.write_header.result c.write_bytes.new.bytes c.write_bytes-2.new.bytes c.write_i64.new.bytes c.write_i64-2.new.bytes c.write_i32.new.bytes c.write_i64-3.new.bytes wide is.identity
    c.write_header.ensures.written c.write_bytes.ensures.written c.write_bytes-2.ensures.written c.write_i64.ensures.written c.write_i64-2.ensures.written c.write_i32.ensures.written c.write_i64-3.ensures.written
    ∙ ap file_header_bytes same in
    record {
      written = written;
      reads_back = λ rest. ap (λ l. header_rules (l ++ rest)) written ∙ header_again h rest is;
      head_back = λ rest. ap (λ l. front_head (l ++ rest)) written ∙ head_front h rest is;
    }
