-- The reply to a region.
use Rattle.std.specs.Prelude.{◌≡◌, ℕ, ◌+◌, ◌*◌, List, ◌++◌, length, codes, flat_map, Bool, true, false, Option, None, Some}
use Rattle.std.specs.List.{range_with_len}
use Rattle.czi_format.specs.Document.{Subblock}
use Rattle.czi_format.specs.Painting.{Query, row}
use Rattle.czi_format.specs.PaintRefusals.{PaintRefusal, too_long, compressed, kind, mixed, short_data, region_refusal}
use Rattle.czi_report.specs.Pnm.{pnm_file, pnm_pixels}
use Rattle.czi_report.specs.Text.{number_line, numbers_line}

-- a region isn't painted, for this cause
abbrev pub no_region_line : PaintRefusal → List ℕ
no_region_line (too_long bytes limit) = numbers_line (codes "no long ") bytes limit
no_region_line (compressed place) = number_line (codes "no compressed ") place
no_region_line (kind place) = number_line (codes "no kind ") place
no_region_line (mixed place) = number_line (codes "no mixed ") place
no_region_line (short_data place) = number_line (codes "no short ") place

abbrev pub region_said : Option PaintRefusal → Query → List Subblock → List ℕ
region_said None q subblocks = pnm_file q subblocks
region_said (Some refusal) q subblocks = no_region_line refusal

-- a region of these subblocks as a PNM file, or the line that says why it isn't painted
abbrev pub region_reply : Query → List Subblock → List ℕ
region_reply q subblocks = region_said (region_refusal q subblocks) q subblocks

-- n rows of a region, from row j on
abbrev pub rows_from : Query → List Subblock → ℕ → ℕ → List ℕ
rows_from q subblocks j n = flat_map (λ i. pnm_pixels q.pixel (row q subblocks i)) (range_with_len j n)
