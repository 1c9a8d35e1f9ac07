-- What a crash inside a call of a rig in memory leaves.
use Rattle.std.specs.Prelude.{◌≡◌, ◌⊎◌, ℕ, ◌+◌, ◌<◌, ◌≤◌, ◌^◌, Bool, cond, List, [], ◌∷◌, length, take, drop, reverse, slice_index}
use Rattle.czi_rig.specs.declared.file.File.{File}
use Rattle.czi_rig.specs.declared.file.File.TheVariants.{Image, Journal}
use Rattle.czi_rig.specs.declared.call.Call.{Call}
use Rattle.czi_rig.specs.declared.call.Call.TheVariants.{Len, Read, Write, Cut, Sync, Say}
use Rattle.czi_rig.specs.declared.call.Pick.{Pick}
use Rattle.czi_rig.specs.declared.call.Pick.TheVariants.{Old, New, Fill}
use Rattle.czi_rig.specs.declared.log.Event.{Event}
use Rattle.czi_rig.specs.declared.replay.Replayed.{Replayed}
use Rattle.czi_rig.specs.Disk.{Disk, Durable, Left, Covers, at_rest}
use Rattle.czi_rig.specs.Replay.{History, LeftSince, first_of, replay, if_on, put, was_cut}

-- A file inside a call: a write or a cut was begun, and what a read gives is what it will give at the end; a sync has made
-- nothing durable.
abbrev pub inside_call : File → Call → List ℕ → Bool → Disk → Disk
inside_call f (Len g) bytes failed disk = disk
inside_call f (Read g at n) bytes failed disk = disk
inside_call f (Write g at n) bytes failed disk = if_on f g (put at bytes failed disk) disk
inside_call f (Cut g len) bytes failed disk = if_on f g (was_cut len failed disk) disk
inside_call f (Sync g) bytes failed disk = disk
inside_call f Say bytes failed disk = disk

abbrev pub inside_event : File → Event → Disk → Disk
inside_event f event disk = inside_call f event.call event.bytes.items event.failed disk

-- inside the first of these calls
abbrev pub inside_first : File → List Event → Disk → Disk
inside_first f [] disk = disk
inside_first f (event ∷ events) disk = inside_event f event disk

-- a file that had these bytes at first, inside the call with this number
abbrev pub disk_within : File → List ℕ → List Event → ℕ → Disk
disk_within f bytes calls number = inside_first f (drop number calls) (replay f (at_rest bytes) (take number calls))

-- one of the two files inside the call with this number
abbrev pub disk_inside : History → File → ℕ → Disk
disk_inside h f number = disk_within f (first_of h f) h.calls number

-- this byte at each place that a crash leaves open, and the greatest or the least length
pub record Filled (byte : ℕ) (long : Bool) (file : Durable) (left : List ℕ) : Type 0 where
  pub len : length left ≡ cond long file.greatest file.least
  pub each : (k : ℕ) → k < length left → (file.least ≤ k) ⊎ Covers file.written k → slice_index left k ≡ byte

-- what a pick says of the content of a file
abbrev pub Picked : Pick → Disk → List ℕ → Type 0
Picked Old disk left = left ≡ disk.durable.synced
Picked New disk left = left ≡ disk.seen
Picked (Fill byte long) disk left = Filled byte long disk.durable left

-- A crash inside the call with this number may leave this image and this journal, the ones that the pick says; it is one of
-- the crashes since that call began.
pub record IsCrash (h : History) (number : ℕ) (pick : Pick) (image journal : List ℕ) : Type 0 where
  pub image_left : Left (disk_inside h Image number).durable image
  pub journal_left : Left (disk_inside h Journal number).durable journal
  pub image_picked : Picked pick (disk_inside h Image number) image
  pub journal_picked : Picked pick (disk_inside h Journal number) journal
  pub since : (said : List ℕ) × LeftSince h number image journal said

-- a file that was replayed; its ranges were added at the end
abbrev pub disk_in : Replayed → Disk
disk_in r = record {
  seen = r.seen.items;
  durable = record { synced = r.synced.items; written = reverse r.written.items; least = r.least; greatest = r.greatest };
}

-- one byte stands at each place of a range, as far as it lies in the content, and all else is as it was
pub record IsPainted (at n byte : ℕ) (old new : List ℕ) : Type 0 where
  pub len : length new ≡ length old
  pub inside : (k : ℕ) → at ≤ k → k < at + n → k < length old → slice_index new k ≡ byte
  pub outside : (k : ℕ) → (k < at) ⊎ (at + n ≤ k) → slice_index new k ≡ slice_index old k

-- the synced bytes up to the least length, and this byte from there on and in these ranges, in some length
pub record IsFill (byte : ℕ) (file : Durable) (ranges : List (ℕ × ℕ)) (len : ℕ) (left : List ℕ) : Type 0 where
  pub len_is : length left ≡ len
  pub bytes : (k : ℕ) → slice_index left k < 2 ^ 8
  pub free : (k : ℕ) → k < len → (file.least ≤ k) ⊎ Covers ranges k → slice_index left k ≡ byte
  pub same : (k : ℕ) → k < file.least → (Covers ranges k → ⊥) → slice_index left k ≡ slice_index file.synced k
