use Rattle.std.proofs.Common.{◌∙◌, ap, sym}
use Rattle.czi_format.specs.Entry.{a1}
use Rattle.czi_image.proofs.Fronts.{short_a1, a1_of_front_128}
use Rattle.czi_image.proofs.entries.a1_at_front.Goals as goal

pub returns-then-bytes-lt-A1_LEN : goal.returns-then-bytes-lt-A1_LEN
returns-then-bytes-lt-A1_LEN c = sym (short_a1 c.args.bytes.now c.if-bytes-lt-A1_LEN.true)

pub returns : goal.returns
returns c = c.read_a1.ensures.read ∙ (ap a1 c.read_bytes.ensures ∙ a1_of_front_128 c.args.bytes.now)
