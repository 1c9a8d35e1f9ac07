use Rattle.std.proofs.Common.{◌≡◌, ◌++◌, ◌∙◌, ap, sym, length, rules, arith}
use Rattle.czi_format.specs.Bytes.{u64_bytes}
use Rattle.czi_format.specs.Segment.{header_at, header_bytes}
use Rattle.czi_format.proofs.Heads.{segment_again}
use Rattle.czi_seg.specs.View.{header_of, id_bytes}
use Rattle.czi_seg.proofs.Headers.{header_written}
use Rattle.czi_seg.proofs.header.write_header.Goals as goal

pub returns : goal.returns
returns c =
    let long : length c.to_bytes.result ≡ 16 = search rules in
    let id : c.to_bytes.result ≡ id_bytes c.args.h.now.id = c.to_bytes.ensures in
    let written : c.write_u64-2.new.bytes ≡ header_bytes (header_of 0 c.args.h.now) =
    header_written c.to_bytes.result c.write_bytes.new.bytes c.write_u64.new.bytes c.write_u64-2.new.bytes c.args.h.now.allocated c.args.h.now.used long
    c.write_bytes.ensures.written c.write_u64.ensures.written c.write_u64-2.ensures.written
    ∙ ap (λ l. l ++ (u64_bytes c.args.h.now.allocated ++ u64_bytes c.args.h.now.used)) id in
    record {
      written = written;
      reads_back = λ rest. ap (λ l. header_at (l ++ rest) 0) written
          ∙ segment_again (id_bytes c.args.h.now.id) c.args.h.now.allocated c.args.h.now.used rest (ap length (sym id) ∙ long) (omega arith) (omega arith);
    }
