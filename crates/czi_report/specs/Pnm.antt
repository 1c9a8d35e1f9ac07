-- A region as a PNM file: its head, and then its rows from the top.
use Rattle.std.specs.Prelude.{ℕ, ◌-◌, ◌*◌, ◌/◌, ◌^◌, ◌==◌, List, [], ◌++◌, length, codes, reverse, flat_map, if◌then◌else◌}
use Rattle.std.specs.List.{range_with_len}
use Rattle.czi_format.specs.Bytes.{bytes_at}
use Rattle.czi_format.specs.Document.{Subblock}
use Rattle.czi_format.specs.Painting.{PixelType, Query, row}
use Rattle.czi_report.specs.Text.{number_line, numbers_line, line_feed}

-- the kind of the file: P5 has one sample a pixel, and P6 three
abbrev pub pnm_kind : PixelType → List ℕ
pnm_kind t = if t.samples == 1 then codes "P5" else codes "P6"

-- the head: the kind, the width and the height, and the greatest value of a sample
unfoldable pub pnm_head : Query → List ℕ
pnm_head q = pnm_kind q.pixel ++ (line_feed ++ (numbers_line [] q.w q.h ++ number_line [] (256 ^ q.pixel.sample - 1)))

-- A pixel. Its samples are red, green, blue, each with its most significant byte first; stored are blue, green, red, each with its
-- least significant byte first.
abbrev pub pnm_pixel : PixelType → List ℕ → List ℕ
pnm_pixel t bytes = flat_map (λ i. reverse (bytes_at bytes (i * t.sample) t.sample)) (reverse (range_with_len 0 t.samples))

-- stored pixels, one behind another, as PNM has them
abbrev pub pnm_pixels : PixelType → List ℕ → List ℕ
pnm_pixels t bytes = flat_map (λ i. pnm_pixel t (bytes_at bytes (i * t.size) t.size)) (range_with_len 0 (length bytes / t.size))

-- pixels of n bytes, each with its bytes turned round
abbrev pub turned_pixels : ℕ → List ℕ → List ℕ
turned_pixels n bytes = flat_map (λ i. reverse (bytes_at bytes (i * n) n)) (range_with_len 0 (length bytes / n))

-- the first n rows of a region
abbrev pub first_rows : Query → List Subblock → ℕ → List ℕ
first_rows q subblocks n = flat_map (λ j. pnm_pixels q.pixel (row q subblocks j)) (range_with_len 0 n)

-- the file of a region
abbrev pub pnm_file : Query → List Subblock → List ℕ
pnm_file q subblocks = pnm_head q ++ first_rows q subblocks q.h
