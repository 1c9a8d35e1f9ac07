use Rattle.std.proofs.Common.{◌≡◌, ◌+◌, drop}
use Rattle.std.specs.List.{prefix_len}
use Rattle.czi_doc.specs.DimText.{is_letter}
use Rattle.czi_doc.proofs.reading.name_len.Given as goal

-- all that were passed are letters
abbrev pub invariant-loop-i : goal.invariant-loop-i
invariant-loop-i l = prefix_len is_letter l.front ≡ l.i + prefix_len is_letter (drop l.i l.front)
