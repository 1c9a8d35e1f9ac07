-- A rig in memory: what the calls that were made on it have done.
use Rattle.std.specs.Prelude.{◌≡◌, ℕ, ◌+◌, ◌-◌, ◌/◌, ◌≤◌, ◌^◌, Bool, true, false, cond, Some, List, [], ◌∷◌, ◌++◌, length, take, drop}
use Rattle.czi_rig.specs.declared.file.File.{File}
use Rattle.czi_rig.specs.declared.file.File.TheVariants.{Image, Journal}
use Rattle.czi_rig.specs.declared.call.Call.{Call}
use Rattle.czi_rig.specs.declared.call.Call.TheVariants.{Len, Read, Write, Cut, Sync, Say}
use Rattle.czi_rig.specs.declared.log.Event.{Event}
use Rattle.czi_rig.specs.Disk.{Disk, Durable, Left, settled, at_rest, begun_write, begun_cut, overwritten}
use Rattle.czi_rig.specs.State.{State, Instant}
use Rattle.czi_rig.specs.Moments.{Leaves}

-- how many of n bytes a write or a `say` gets done: all, or where it fails the half, rounded up
abbrev pub done : Bool → ℕ → ℕ
done failed n = cond failed (n - n / 2) n

-- those of the bytes
abbrev pub landed : Bool → List ℕ → List ℕ
landed failed bytes = take (done failed (length bytes)) bytes

-- the length to which a cut brings a file: the one that was asked for, or where it fails half way to it
abbrev pub cut_to : ℕ → Bool → ℕ → ℕ
cut_to len failed old = cond failed (len + (old - len) / 2) len

-- a write of these bytes
abbrev pub put : ℕ → List ℕ → Bool → Disk → Disk
put at bytes failed disk = record {
  seen = overwritten at (landed failed bytes) disk.seen;
  durable = begun_write at (length bytes) disk.durable;
}

-- a cut to this length
abbrev pub was_cut : ℕ → Bool → Disk → Disk
was_cut len failed disk = record {
  seen = take (cut_to len failed (length disk.seen)) disk.seen;
  durable = begun_cut len disk.durable;
}

-- a sync
abbrev pub synced : Bool → Disk → Disk
synced failed disk = record { seen = disk.seen; durable = cond failed disk.durable (settled disk.seen) }

-- whether these are one file
abbrev pub same_file : File → File → Bool
same_file Image Image = true
same_file Image Journal = false
same_file Journal Image = false
same_file Journal Journal = true

-- the new one where the call was on this file, and else the old one
abbrev pub if_on : File → File → Disk → Disk → Disk
if_on f g new old = cond (same_file f g) new old

-- a file after a call
abbrev pub after_call : File → Call → List ℕ → Bool → Disk → Disk
after_call f (Len g) bytes failed disk = disk
after_call f (Read g at n) bytes failed disk = disk
after_call f (Write g at n) bytes failed disk = if_on f g (put at bytes failed disk) disk
after_call f (Cut g len) bytes failed disk = if_on f g (was_cut len failed disk) disk
after_call f (Sync g) bytes failed disk = if_on f g (synced failed disk) disk
after_call f Say bytes failed disk = disk

abbrev pub after_event : File → Event → Disk → Disk
after_event f event disk = after_call f event.call event.bytes.items event.failed disk

-- after these calls
abbrev pub replay : File → Disk → List Event → Disk
replay f disk [] = disk
replay f disk (event ∷ events) = replay f (after_event f event disk) events

-- the bytes that a call is to say
abbrev pub saying : Call → List ℕ → List ℕ
saying (Len g) bytes = []
saying (Read g at n) bytes = []
saying (Write g at n) bytes = []
saying (Cut g len) bytes = []
saying (Sync g) bytes = []
saying Say bytes = bytes

-- what was said after these calls
abbrev pub said_after : List ℕ → List Event → List ℕ
said_after said [] = said
said_after said (event ∷ events) = said_after (said ++ landed event.failed (saying event.call event.bytes.items)) events

-- the bytes that the first of these calls is to say
abbrev pub first_saying : List Event → List ℕ
first_saying [] = []
first_saying (event ∷ events) = saying event.call event.bytes.items

-- what both files had at first, all of it synced, and the calls that were made since
pub record History : Type 0 where
  pub image : List ℕ
  pub journal : List ℕ
  pub calls : List Event

-- what one of them had
abbrev pub first_of : History → File → List ℕ
first_of h Image = h.image
first_of h Journal = h.journal

-- a file after the first k calls
abbrev pub disk_at : History → File → ℕ → Disk
disk_at h f k = replay f (at_rest (first_of h f)) (take k h.calls)

-- a file after all of them
abbrev pub disk_now : History → File → Disk
disk_now h f = replay f (at_rest (first_of h f)) h.calls

-- what was said by now
abbrev pub said_now : History → List ℕ
said_now h = said_after [] h.calls

-- a crash may have left these, where some of the next bytes, the first n, were added to what was said before
pub record LeftSaying (of_image of_journal : Durable) (before next image journal said : List ℕ) : Type 0 where
  pub n : ℕ
  pub in_bytes : n ≤ length next
  pub leaves : Leaves of_image of_journal (before ++ take n next) image journal said

-- A crash after the first k calls may have left these: before the next call, or inside it where it is a `say`.
-- Inside a write or a cut is the moment after it, inside another call the moment before it.
abbrev pub LeftAt : History → ℕ → Instant
LeftAt h k = LeftSaying (disk_at h Image k).durable (disk_at h Journal k).durable (said_after [] (take k h.calls)) (first_saying (drop k h.calls))

-- the same at some moment since t
pub record LeftSince (h : History) (t : ℕ) (image journal said : List ℕ) : Type 0 where
  pub k : ℕ
  pub since : t ≤ k
  pub so_far : k ≤ length h.calls
  pub left : LeftAt h k image journal said

-- after one call more
abbrev pub push : History → Event → History
push h event = record { image = h.image; journal = h.journal; calls = h.calls ++ event ∷ [] }

-- the counts of faults
pub record Faults : Type 0 where
  pub image : ℕ
  pub journal : ℕ
  pub output : ℕ

-- the state of the rig: it is honest and tells all, and its moment is the number of calls made
abbrev pub state_of : History → Faults → State
state_of h faults = record {
  honest = true;
  image = Some (disk_now h Image);
  journal = Some (disk_now h Journal);
  said = Some (said_now h);
  image_faults = faults.image;
  journal_faults = faults.journal;
  output_faults = faults.output;
  moment = length h.calls;
}

-- a crash may leave what reads give, and what was synced last; no file is longer than 2^62 bytes
pub record IsSoundDisk (disk : Disk) : Type 0 where
  pub new : Left disk.durable disk.seen
  pub old : Left disk.durable disk.durable.synced
  pub small : disk.durable.greatest ≤ 2 ^ 62

-- What a rig in memory has is what its calls have made of what it had at first, and each file was sound at each moment.
pub record IsKept (h : History) (image journal said : List ℕ) : Type 0 where
  pub image_is : image ≡ (disk_now h Image).seen
  pub journal_is : journal ≡ (disk_now h Journal).seen
  pub said_is : said ≡ said_now h
  pub sound : (f : File) (k : ℕ) → IsSoundDisk (disk_at h f k)
