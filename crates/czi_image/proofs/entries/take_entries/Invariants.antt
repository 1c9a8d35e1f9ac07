use Rattle.czi_format.specs.Entry.{entry, entry_len}
use Rattle.czi_dv.specs.View.{entry_of}
use Rattle.czi_image.proofs.Midway.{Midway}
use Rattle.czi_image.proofs.entries.take_entries.Given as goal

abbrev pub invariant-loop-number : goal.invariant-loop-number
invariant-loop-number l = Midway entry entry_len entry_of l.fn.bytes l.fn.count l.fn.place l.number l.at l.rest l.entries.items
