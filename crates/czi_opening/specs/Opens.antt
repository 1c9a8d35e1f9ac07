-- The document that an image and its journal open to, and why they open to none.
use Rattle.std.specs.Prelude.{◌≡◌, ℕ, ◌<◌, ◌≤◌, pos, List, length, take, drop, Err}
use Rattle.czi_format.specs.Document.{Document}
use Rattle.czi_format.specs.Live.{update_pending}
use Rattle.czi_format.specs.Shows.{Shows}
use Rattle.czi_format.specs.Refusals.{Refusal, reading}
use Rattle.czi_links.specs.Record.{Record}
use Rattle.czi_links.specs.Reading.{Holds, OfVersion, BadAt}
use Rattle.czi_journal.specs.Journals.{slot_of}
use Rattle.czi_vault.specs.Recovered.{Recovered}
use Rattle.czi_format.specs.declared.numbers.TheConstants.{FILE_GUID}

-- they stand for bytes that show this document, with no update pending
pub record Opens (image journal : List ℕ) (d : Document) : Type 0 where
  pub bytes : List ℕ
  pub recovered : Recovered image journal bytes
  pub shows : Shows bytes d
  pub idle : update_pending bytes ≡ pos 0

-- why an image and its journal open to no document
pub data Cause : Type 0 where
  of_version : (version : ℕ) → Cause
  bad_at : (place : ℕ) → Cause
  too_short : (have need : ℕ) → Cause
  of_another : (record_guid image_guid : List ℕ) → Cause
  unread : (refusal : Refusal) → Cause

-- the journal's record is of an image of `need` bytes, and this one has fewer
pub record IsTooShort (image journal : List ℕ) (have need : ℕ) : Type 0 where
  pub entry : Record
  pub holds : slot_of journal ≡ Holds entry
  pub have_is : have ≡ length image
  pub need_is : need ≡ entry.committed
  pub fewer : have < need

-- the image is long enough, but the journal's record is of one with another GUID
pub record IsOfAnother (image journal record_guid image_guid : List ℕ) : Type 0 where
  pub entry : Record
  pub holds : slot_of journal ≡ Holds entry
  pub long : entry.committed ≤ length image
  pub record_is : record_guid ≡ entry.guid
  pub image_is : image_guid ≡ take 16 (drop FILE_GUID image)
  pub differ : image_guid ≡ record_guid → ⊥

-- the bytes that they stand for are refused by the first rule of reading that fails
pub record IsUnread (image journal : List ℕ) (refusal : Refusal) : Type 0 where
  pub bytes : List ℕ
  pub recovered : Recovered image journal bytes
  pub refused : reading bytes ≡ Err refusal

-- image and journal are refused for this cause
abbrev pub IsRefusedBy : List ℕ → List ℕ → Cause → Type 0
IsRefusedBy image journal (of_version version) = slot_of journal ≡ OfVersion version
IsRefusedBy image journal (bad_at place) = slot_of journal ≡ BadAt place
IsRefusedBy image journal (too_short have need) = IsTooShort image journal have need
IsRefusedBy image journal (of_another record_guid image_guid) = IsOfAnother image journal record_guid image_guid
IsRefusedBy image journal (unread refusal) = IsUnread image journal refusal
