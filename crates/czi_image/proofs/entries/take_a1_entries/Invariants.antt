use Rattle.czi_format.specs.Entry.{a1, a1_len}
use Rattle.czi_att.specs.View.{a1_of}
use Rattle.czi_image.proofs.Midway.{Midway}
use Rattle.czi_image.proofs.entries.take_a1_entries.Given as goal

abbrev pub invariant-loop-number : goal.invariant-loop-number
invariant-loop-number l = Midway a1 a1_len a1_of l.fn.bytes l.fn.count l.fn.place l.number l.at l.rest l.entries.items
