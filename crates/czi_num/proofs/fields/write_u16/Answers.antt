use Rattle.std.proofs.Common.{◌∙◌, ap, refl}
use Rattle.czi_format.specs.Bytes.{u16_at, u16_bytes}
use Rattle.czi_num.proofs.Numbers.{back_2, field_written, others_written}
use Rattle.czi_num.proofs.fields.write_u16.Goals as goal

pub returns-clause-written : goal.returns-clause-written
returns-clause-written c = field_written c.args.at 2 c.args.bytes.now c.write_u16.new.buf (u16_bytes c.args.value) c.requires refl c.write_u16.ensures

pub returns-clause-reads_back : goal.returns-clause-reads_back
returns-clause-reads_back c =
    ap (λ bytes. u16_at bytes c.args.at) (field_written c.args.at 2 c.args.bytes.now c.write_u16.new.buf (u16_bytes c.args.value) c.requires refl c.write_u16.ensures)
    ∙ back_2 c.args.bytes.now c.args.at c.args.value c.requires c.ranges.value.fits

pub returns-clause-others : goal.returns-clause-others
returns-clause-others c = others_written c.args.at 2 c.args.bytes.now c.write_u16.new.buf (u16_bytes c.args.value) c.requires refl c.write_u16.ensures
