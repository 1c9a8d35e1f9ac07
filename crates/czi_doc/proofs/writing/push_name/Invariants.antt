use Rattle.std.proofs.Common.{◌≡◌, ◌++◌, drop}
use Rattle.czi_format.specs.Text.{bytes_text, up_to_zero}
use Rattle.czi_doc.specs.Grows.{Grows}
use Rattle.czi_doc.proofs.writing.push_name.Given as goal

-- what was written, and the text of the rest, are the whole
abbrev pub invariant-loop-byte : goal.invariant-loop-byte
invariant-loop-byte l = record {
  whole : l.out.items ++ bytes_text (up_to_zero (drop l.byte-index l.name)) ≡ l.fn.out.items ++ bytes_text (up_to_zero l.name);
  grows : Grows l.fn.out.items l.out.items;
}
