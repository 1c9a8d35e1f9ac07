-- The bytes that an image and a journal stand for.
use Rattle.std.specs.Prelude.{◌≡◌, ◌⊎◌, ℕ, ◌+◌, ◌<◌, ◌≤◌, List, [], ◌∷◌, length, take, drop}
use Rattle.czi_rig.specs.Disk.{Covers, SameOutside, overwritten}
use Rattle.czi_rig.specs.Moments.{Devices, LeavesNow}
use Rattle.czi_links.specs.Record.{Bytes, Record}
use Rattle.czi_links.specs.Reading.{Reading, Void, Holds, OfVersion, BadAt}
use Rattle.czi_journal.specs.Journals.{slot_of}
use Rattle.czi_format.specs.declared.numbers.TheConstants.{FILE_GUID, HEADER_FRONT, UPDATE_PENDING}

-- the links written over an image
abbrev pub with_links : List Bytes → List ℕ → List ℕ
with_links [] image = image
with_links (l ∷ ls) image = with_links ls (overwritten l.place l.bytes image)

-- an image cut to the committed length, with the links written over it and byte 100 set to 0
abbrev pub applied : Record → List ℕ → List ℕ
applied r image = overwritten UPDATE_PENDING (0 ∷ []) (with_links r.links (take r.committed image))

-- a record is of this image, and makes these bytes of it
pub record Makes (r : Record) (image bytes : List ℕ) : Type 0 where
  pub long : r.committed ≤ length image
  pub guid : take 16 (drop FILE_GUID image) ≡ r.guid
  pub is : bytes ≡ applied r image

abbrev pub StandsFor : Reading → List ℕ → List ℕ → Type 0
StandsFor Void image bytes = bytes ≡ image
StandsFor (Holds r) image bytes = Makes r image bytes
StandsFor (OfVersion v) image bytes = ⊥
StandsFor (BadAt place) image bytes = ⊥

-- image and journal stand for these bytes
abbrev pub Recovered : List ℕ → List ℕ → List ℕ → Type 0
Recovered image journal bytes = StandsFor (slot_of journal) image bytes

-- bytes, and ranges (place, length) of them that don't matter, each behind the front of the file header
pub record View : Type 0 where
  pub bytes : List ℕ
  pub holes : List (ℕ × ℕ)
  pub high : (k : ℕ) → Covers holes k → HEADER_FRONT ≤ k

-- image and journal stand for bytes that are these outside the holes
pub record Stands (view : View) (image journal : List ℕ) : Type 0 where
  pub bytes : List ℕ
  pub recovered : Recovered image journal bytes
  pub agrees : SameOutside (Covers view.holes) view.bytes bytes

-- so does every pair that a crash now may leave
abbrev pub StandsNow : View → Devices → Type 0
StandsNow view all = (image journal said : List ℕ) → LeavesNow all image journal said → Stands view image journal

-- or they stand for these bytes
abbrev pub StandsOr : View → List ℕ → List ℕ → List ℕ → Type 0
StandsOr view bytes image journal = Stands view image journal ⊎ Recovered image journal bytes

-- n bytes from this place on lie in holes, or at or past the end
abbrev pub IsFree : View → ℕ → ℕ → Type 0
IsFree view at n = (k : ℕ) → at ≤ k → k < at + n → Covers view.holes k ⊎ (length view.bytes ≤ k)
