use Rattle.std.proofs.Common.{◌≡◌, length, rules}
use Rattle.czi_links.proofs.Encoding.{head_written}
use Rattle.czi_links.proofs.head.write_head.Goals as goal

pub returns : goal.returns
returns c =
    let head = c.args.head.now in
    let g : length c.args.head.now.guid ≡ 16 = search rules in
    head_written c.args.out.now head.guid head.length c.args.count c.write_u32.new.bytes c.write_bytes.new.bytes c.write_u64.new.bytes c.write_u32-2.new.bytes g c.requires
    c.write_u32.ensures.written c.write_bytes.ensures.written c.write_u64.ensures.written c.write_u32-2.ensures.written
