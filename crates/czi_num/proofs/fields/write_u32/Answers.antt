use Rattle.std.proofs.Common.{◌∙◌, ap, refl}
use Rattle.czi_format.specs.Bytes.{u32_at, u32_bytes}
use Rattle.czi_num.proofs.Numbers.{back_4, field_written, others_written}
use Rattle.czi_num.proofs.fields.write_u32.Goals as goal

pub returns-clause-written : goal.returns-clause-written
returns-clause-written c = field_written c.args.at 4 c.args.bytes.now c.write_u32.new.buf (u32_bytes c.args.value) c.requires refl c.write_u32.ensures

pub returns-clause-reads_back : goal.returns-clause-reads_back
returns-clause-reads_back c =
    ap (λ bytes. u32_at bytes c.args.at) (field_written c.args.at 4 c.args.bytes.now c.write_u32.new.buf (u32_bytes c.args.value) c.requires refl c.write_u32.ensures)
    ∙ back_4 c.args.bytes.now c.args.at c.args.value c.requires c.ranges.value.fits

pub returns-clause-others : goal.returns-clause-others
returns-clause-others c = others_written c.args.at 4 c.args.bytes.now c.write_u32.new.buf (u32_bytes c.args.value) c.requires refl c.write_u32.ensures
