-- Entries and faults of the code, as the format's definitions see them.
use Rattle.std.specs.Prelude.{◌≡◌, List, ℕ, Err}
use Rattle.czi_format.specs.Entry.{Entry}
use Rattle.czi_format.specs.EntryRules as rules
use Rattle.czi_format.specs.EntryRules.{EntryRefusal, entry_rules}
use Rattle.czi_doc.specs.View.{info_of}
use Rattle.czi_dv.specs.declared.entry.Entry.{Entry as CodeEntry}
use Rattle.czi_dv.specs.declared.entry.EntryFault.{EntryFault}
use Rattle.czi_dv.specs.declared.entry.EntryFault.TheVariants.{Short, Schema, Dims, Part, Memory}

abbrev pub entry_of : CodeEntry → Entry
entry_of e = record { info = info_of e.info; position = e.position }

-- the fault that tells a refusal
abbrev pub fault_of : EntryRefusal → EntryFault
fault_of rules.short = Short
fault_of rules.schema = Schema
fault_of (rules.dims count) = Dims count
fault_of (rules.part part) = Part part

-- the fault tells the first rule that fails
abbrev pub TellsEntryRule : List ℕ → EntryFault → Type 0
TellsEntryRule bytes Short = entry_rules bytes ≡ Err rules.short
TellsEntryRule bytes Schema = entry_rules bytes ≡ Err rules.schema
TellsEntryRule bytes (Dims count) = entry_rules bytes ≡ Err (rules.dims count)
TellsEntryRule bytes (Part part) = entry_rules bytes ≡ Err (rules.part part)
TellsEntryRule bytes Memory = ⊥
