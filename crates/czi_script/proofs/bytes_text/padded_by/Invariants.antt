use Rattle.std.proofs.Common.{length}
use Rattle.czi_script.proofs.Padding.{SpelledFront}
use Rattle.czi_script.proofs.bytes_text.padded_by.Given as goal

-- the front of the field has what the text spells so far
abbrev pub invariant-loop-rest : goal.invariant-loop-rest
invariant-loop-rest g l = record {
  front : SpelledFront g.row.N l.count l.field l.fn.text l.rest;
}

abbrev pub decreases-loop-rest : goal.decreases-loop-rest
decreases-loop-rest g l = length l.rest
