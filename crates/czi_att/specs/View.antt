-- An attachment entry of the code, as the format's definitions see it.
use Rattle.std.specs.Prelude.{ℤ}
use Rattle.czi_format.specs.Entry.{A1}
use Rattle.czi_doc.specs.View.{att_of}
use Rattle.czi_doc.specs.declared.items.AttInfo.{AttInfo}

abbrev pub a1_of : AttInfo × ℤ → A1
a1_of entry = record { info = att_of entry.0; position = entry.1 }
