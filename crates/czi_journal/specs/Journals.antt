-- What a journal says.
use Rattle.std.specs.Prelude.{◌≡◌, ◌⊎◌, ℕ, ◌+◌, ◌<◌, ◌≤◌, List, length, take, drop, slice_index, nat_le, ◌==◌, ◌&&◌, if◌then◌else◌}
use Rattle.czi_rig.specs.Disk.{Durable, Left}
use Rattle.czi_links.specs.Record.{Record}
use Rattle.czi_links.specs.Reading.{Reading, Void, Holds, OfVersion, BadAt, read}
use Rattle.czi_journal.specs.declared.journal.Slot.{Slot}
use Rattle.czi_journal.specs.declared.journal.Slot.TheVariants.{A, B}
use Rattle.czi_journal.specs.declared.journal.TheConstants.{SLOT_A, SLOT_B, JOURNAL_LEN, MARK}
use Rattle.czi_links.specs.declared.numbers.TheConstants.{SLOT_LEN}

abbrev pub slot_place : Slot → ℕ
slot_place A = SLOT_A
slot_place B = SLOT_B

abbrev pub other : Slot → Slot
other A = B
other B = A

abbrev pub selector : Slot → ℕ
selector A = 0
selector B = 1

-- with its place in the journal
abbrev pub behind : ℕ → Reading → Reading
behind at Void = Void
behind at (Holds r) = Holds r
behind at (OfVersion v) = OfVersion v
behind at (BadAt place) = BadAt (at + place)

-- what a slot says, whatever the selector
unfoldable pub slot_in : Slot → List ℕ → Reading
slot_in s journal = behind (slot_place s) (read (take SLOT_LEN (drop (slot_place s) journal)))

abbrev pub selected_in : List ℕ → Slot
selected_in journal = if slice_index journal 1 == 1 then B else A

-- what the journal says
abbrev pub slot_of : List ℕ → Reading
slot_of journal = if nat_le JOURNAL_LEN (length journal) && (slice_index journal 0 == MARK) then slot_in (selected_in journal) journal else Void

pub record Counts (journal : List ℕ) : Type 0 where
  pub long : JOURNAL_LEN ≤ length journal
  pub mark : slice_index journal 0 ≡ MARK

-- the journal counts, and this slot is selected
pub record CountsWith (s : Slot) (journal : List ℕ) : Type 0 where
  pub counts : Counts journal
  pub selected : selected_in journal ≡ s

-- it says what one says that a crash could have left before
pub record SaysAsBefore (file : Durable) (journal : List ℕ) : Type 0 where
  pub old : List ℕ
  pub was : Left file old
  pub same : slot_of journal ≡ slot_of old

-- the same, or it says what this slot of that one says
pub record SaysAsBeforeOr (s : Slot) (file : Durable) (journal : List ℕ) : Type 0 where
  pub old : List ℕ
  pub was : Left file old
  pub same : (slot_of journal ≡ slot_of old) ⊎ (slot_of journal ≡ slot_in s old)

-- the same, or it is void
pub record SaysAsBeforeOrVoid (file : Durable) (journal : List ℕ) : Type 0 where
  pub old : List ℕ
  pub was : Left file old
  pub same : (slot_of journal ≡ slot_of old) ⊎ (slot_of journal ≡ Void)

abbrev pub IsVoidOr : Record → List ℕ → Type 0
IsVoidOr r journal = (slot_of journal ≡ Void) ⊎ (slot_of journal ≡ Holds r)

-- its first byte doesn't make it count
pub record IsUnmarked (journal : List ℕ) : Type 0 where
  pub some : 1 ≤ length journal
  pub mark : slice_index journal 0 ≡ MARK → ⊥

-- all but its first byte make it count, with this slot A
pub record IsFilled (slot journal : List ℕ) : Type 0 where
  pub long : JOURNAL_LEN ≤ length journal
  pub mark : slice_index journal 0 ≡ MARK → ⊥
  pub selected : slice_index journal 1 ≡ 0
  pub same : (k : ℕ) → k < SLOT_LEN → slice_index journal (SLOT_A + k) ≡ slice_index slot k
