-- What was read of a journal, and what is answered.
use Rattle.std.proofs.Common.{◌≡◌, ◌≤◌, ◌++◌, ℕ, List, [], arith, length, take, drop, Option, None, Ok, Err, refl, sym, ◌∙◌, ap}
use Rattle.std.specs.Prelude.{Result, IsErr}
use Rattle.std.proofs.lemmas.List.{take_at, length-drop, length-take-le}
use Rattle.czi_links.specs.declared.head.SlotHead.{SlotHead}
use Rattle.czi_links.specs.Record.{Bytes}
use Rattle.czi_links.specs.Reading.{Reading, read}
use Rattle.czi_journal.specs.declared.journal.Journal.{Journal}
use Rattle.czi_journal.specs.declared.journal.Slot.{Slot}
use Rattle.czi_journal.specs.declared.probing.JournalFault.{JournalFault}
use Rattle.czi_journal.specs.declared.probing.JournalFault.TheVariants.{Version, BadRecord, Device, Memory}
use Rattle.czi_journal.specs.Devices.{journal_device}
use Rattle.czi_journal.specs.Journals.{slot_place, slot_in, slot_of, behind, CountsWith}
use Rattle.czi_journal.specs.Probing.{IsSlotAnswer, IsProbed, IsEmptied}
use Rattle.czi_journal.proofs.Slots.{says_slot, slot_room}

pub emptied_err : (links : List Bytes) (r : Result (Option (Journal × SlotHead)) JournalFault) → IsErr r → links ≡ [] → IsEmptied links r
emptied_err links (Ok x) is e = cc
emptied_err links (Err fault) is e = e

-- the bytes that were read into a whole buffer say what the journal says
pub slot_read : (s : Slot) (seen slot into more : List ℕ) (place at n len : ℕ) → CountsWith s seen → place ≡ slot_place s → at ≡ slot_place s → n ≡ 262144 → len ≡ 262144 → into ≡ take n (drop place seen) → slot ≡ take len (into ++ more)
    → slot_of seen ≡ behind at (read slot)
unfolding slot_in
slot_read s seen slot into more place at n len counts place_is at_is n_is len_is into_is slot_is =
    says_slot s seen counts
    ∙ ap (λ (k : ℕ). behind (slot_place s) (read (take k (drop (slot_place s) seen)))) (sym n_is)
    ∙ ap (λ (k : ℕ). behind (slot_place s) (read (take n (drop k seen)))) (sym place_is)
    ∙ ap (λ (b : List ℕ). behind (slot_place s) (read b)) (sym into_is ∙ sym (slot_is ∙ take_at into more len whole))
    ∙ ap (λ (k : ℕ). behind k (read slot)) (sym at_is)
  where
    room : n ≤ length (drop place seen)
    room = omega (arith, n_is, place_is, slot_room s, counts.counts.long, length-drop place seen)

    whole : length into ≡ len
    whole = ap length into_is ∙ length-take-le n (drop place seen) room ∙ n_is ∙ sym len_is

pub refused : (seen : List ℕ) (links : List Bytes) (reading : Reading) (fault : JournalFault) → slot_of seen ≡ reading → IsSlotAnswer reading links (Err fault) → IsProbed seen links (Err fault)
refused seen links reading (Version v) e is = e ∙ is
refused seen links reading (BadRecord place) e is = e ∙ is
refused seen links reading Device e is = absurd is
refused seen links reading Memory e is = tt

-- a slot's refusal isn't a fault of the device
pub no_device : (links : List Bytes) (reading : Reading) (fault : JournalFault) → IsSlotAnswer reading links (Err fault) → journal_device fault ≡ None
no_device links reading (Version v) is = refl
no_device links reading (BadRecord place) is = refl
no_device links reading Device is = absurd is
no_device links reading Memory is = refl
