-- What a crash leaves of a creation.
use Rattle.std.specs.Prelude.{◌≡◌, ◌⊎◌, ℕ, List}
use Rattle.czi_format.specs.Empty.{empty_document}
use Rattle.czi_format.specs.Refusals.{not_czi}
use Rattle.czi_links.specs.Record.{Record}
use Rattle.czi_links.specs.Reading.{Holds, OfVersion, BadAt}
use Rattle.czi_journal.specs.Journals.{slot_of}
use Rattle.czi_opening.specs.Opens.{Cause, of_version, bad_at, too_short, of_another, unread, IsRefusedBy, Opens}

-- Why the files may be refused: the image is no CZI file. Or the journal is still the one from before, which counts: its record
-- is of a longer image, or it is of another version or bad.
abbrev pub MayRefuse : List ℕ → Cause → Type 0
MayRefuse before (of_version version) = slot_of before ≡ OfVersion version
MayRefuse before (bad_at place) = slot_of before ≡ BadAt place
MayRefuse before (too_short have need) = (r : Record) × (slot_of before ≡ Holds r) × (need ≡ r.committed)
MayRefuse before (of_another record_guid image_guid) = ⊥
MayRefuse before (unread refusal) = refusal ≡ not_czi

-- Image and journal open to the empty document with this GUID, or they are refused so. The journal from before is told.
abbrev pub OpensOrRefused : (guid before image journal : List ℕ) → Type 0
OpensOrRefused guid before image journal = Opens image journal (empty_document guid) ⊎ ((cause : Cause) × IsRefusedBy image journal cause × MayRefuse before cause)
