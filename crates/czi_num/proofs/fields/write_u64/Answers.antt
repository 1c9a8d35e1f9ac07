use Rattle.std.proofs.Common.{◌∙◌, ap, refl}
use Rattle.czi_format.specs.Bytes.{u64_at, u64_bytes}
use Rattle.czi_num.proofs.Numbers.{back_8, field_written, others_written}
use Rattle.czi_num.proofs.fields.write_u64.Goals as goal

pub returns-clause-written : goal.returns-clause-written
returns-clause-written c = field_written c.args.at 8 c.args.bytes.now c.write_u64.new.buf (u64_bytes c.args.value) c.requires refl c.write_u64.ensures

pub returns-clause-reads_back : goal.returns-clause-reads_back
returns-clause-reads_back c =
    ap (λ bytes. u64_at bytes c.args.at) (field_written c.args.at 8 c.args.bytes.now c.write_u64.new.buf (u64_bytes c.args.value) c.requires refl c.write_u64.ensures)
    ∙ back_8 c.args.bytes.now c.args.at c.args.value c.requires c.ranges.value.fits

pub returns-clause-others : goal.returns-clause-others
returns-clause-others c = others_written c.args.at 8 c.args.bytes.now c.write_u64.new.buf (u64_bytes c.args.value) c.requires refl c.write_u64.ensures
