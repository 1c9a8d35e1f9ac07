-- Why an image and its journal are refused, as a line of text.
use Rattle.std.specs.Prelude.{ℕ, List, [], ◌++◌, codes, Option, Some, None}
use Rattle.std.specs.Fmt.{decimal, signed_decimal}
use Rattle.czi_format.specs.Refusals.{Refusal, not_czi, multi_part, pending, bad_directory, too_many, bad_entry, bad_segment, bad_attachment, overlap}
use Rattle.czi_opening.specs.Opens.{Cause, of_version, bad_at, too_short, of_another, unread}
use Rattle.czi_report.specs.Text.{guid_text, line_feed, number_line, numbers_line, place_line, span_text}

-- a rule of reading that refuses, with its place and values
unfoldable pub refusal_text : Refusal → List ℕ
refusal_text not_czi = codes "refused notczi" ++ line_feed
refusal_text (multi_part part) = place_line (codes "refused multipart ") part
refusal_text (pending value) = place_line (codes "refused pending ") value
refusal_text (bad_directory place) = place_line (codes "refused directory ") place
refusal_text (too_many place count) = codes "refused many " ++ (signed_decimal place ++ (codes " " ++ (decimal count ++ line_feed)))
refusal_text (bad_entry place) = place_line (codes "refused entry ") place
refusal_text (bad_segment place) = place_line (codes "refused segment ") place
refusal_text (bad_attachment place) = place_line (codes "refused attachment ") place
refusal_text (overlap first second) = codes "refused overlap " ++ (span_text first ++ (codes " " ++ (span_text second ++ line_feed)))

-- a cause: what the journal says, that the image isn't its own, or a rule of reading
unfoldable pub cause_text : Cause → List ℕ
cause_text (of_version version) = number_line (codes "refused version ") version
cause_text (bad_at place) = number_line (codes "refused journal ") place
cause_text (too_short have need) = numbers_line (codes "refused short ") have need
cause_text (of_another journal image) = codes "refused foreign " ++ (guid_text journal ++ (codes " " ++ (guid_text image ++ line_feed)))
cause_text (unread refusal) = refusal_text refusal

-- an image of so many bytes, in which no document is created: it has to be empty
unfoldable pub not_empty_text : ℕ → List ℕ
not_empty_text length = number_line (codes "refused notempty ") length

-- the line of what an opening's error tells; a fault of a device and want of memory have none
abbrev pub told_text : Option Cause → List ℕ
told_text None = []
told_text (Some cause) = cause_text cause
