-- What reading a journal answers.
use Rattle.std.specs.Prelude.{◌≡◌, ℕ, List, [], Option, None, Some, Result, Ok, Err, IsTrue}
use Rattle.czi_links.specs.declared.head.SlotHead.{SlotHead}
use Rattle.czi_links.specs.Record.{Bytes, record_of}
use Rattle.czi_links.specs.Reading.{Reading, Void, Holds, OfVersion, BadAt}
use Rattle.czi_journal.specs.declared.journal.Journal.{Journal}
use Rattle.czi_journal.specs.declared.journal.Slot.{Slot}
use Rattle.czi_journal.specs.declared.probing.JournalFault.{JournalFault}
use Rattle.czi_journal.specs.declared.probing.JournalFault.TheVariants.{Version, BadRecord, Device, Memory}
use Rattle.czi_journal.specs.Journals.{slot_of, Counts, CountsWith}

-- the answer for a slot that reads as this, with the links that were taken
abbrev pub IsSlotAnswer : Reading → List Bytes → Result SlotHead JournalFault → Type 0
IsSlotAnswer reading links (Ok head) = reading ≡ Holds (record_of head links)
IsSlotAnswer reading links (Err (Version v)) = reading ≡ OfVersion v
IsSlotAnswer reading links (Err (BadRecord place)) = reading ≡ BadAt place
IsSlotAnswer reading links (Err Device) = ⊥
IsSlotAnswer reading links (Err Memory) = Unit {0}

-- The answer for a journal of these bytes: None where it is void; where it holds a record, its head, with the links that
-- were taken; or else the refusal of the first field that breaks the grammar.
abbrev pub IsProbed : List ℕ → List Bytes → Result (Option (Journal × SlotHead)) JournalFault → Type 0
IsProbed seen links (Ok None) = slot_of seen ≡ Void
IsProbed seen links (Ok (Some found)) = (slot_of seen ≡ Holds (record_of found.1 links)) × IsTrue found.0.armed × CountsWith found.0.selected seen
IsProbed seen links (Err (Version v)) = slot_of seen ≡ OfVersion v
IsProbed seen links (Err (BadRecord place)) = slot_of seen ≡ BadAt place
IsProbed seen links (Err Device) = Unit {0}
IsProbed seen links (Err Memory) = Unit {0}

-- unless a record was found, no links are left
abbrev pub IsEmptied : List Bytes → Result (Option (Journal × SlotHead)) JournalFault → Type 0
IsEmptied links (Ok (Some found)) = Unit {0}
IsEmptied links (Ok None) = links ≡ []
IsEmptied links (Err fault) = links ≡ []

-- the selected slot of a journal that counts, or none
abbrev pub IsSelection : List ℕ → Option Slot → Type 0
IsSelection seen None = Counts seen → ⊥
IsSelection seen (Some s) = CountsWith s seen
