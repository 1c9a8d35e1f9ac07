-- Why a region isn't painted: the first cause.
use Rattle.std.specs.Prelude.{ℕ, ◌*◌, List, [], ◌∷◌, not, nat_lt, length, Option, Some, None, if◌then◌else◌}
use Rattle.std.specs.List.{list_any}
use Rattle.std.specs.Option.{unwrap_or, option_or}
use Rattle.std.specs.Ordering.{int_eq}
use Rattle.czi_format.specs.Partial.{◌>>=◌, natural, is_zero}
use Rattle.czi_format.specs.Entry.{Dim, EntryInfo}
use Rattle.czi_format.specs.Text.{stored_size}
use Rattle.czi_format.specs.Document.{Subblock}
use Rattle.czi_format.specs.declared.regions.TheConstants.{REGION_LIMIT}
use Rattle.czi_format.specs.Painting.{pixel_types, Query, first_x, first_y, chosen}

-- That the region has so many bytes, which is past this limit; that the subblock at a place in the directory is compressed, is of
-- a pixel type that can't be painted, is of another one than was asked for, or has fewer bytes than its pixels need.
pub data PaintRefusal : Type 0 where
  too_long : ℕ → ℕ → PaintRefusal
  compressed : ℕ → PaintRefusal
  kind : ℕ → PaintRefusal
  mixed : ℕ → PaintRefusal
  short_data : ℕ → PaintRefusal

-- how many bytes a region has
abbrev pub region_bytes : Query → ℕ
region_bytes q = q.w * q.h * q.pixel.size

abbrev pub length_cause : Query → Option PaintRefusal
length_cause q = if nat_lt REGION_LIMIT (region_bytes q) then Some (too_long (region_bytes q) REGION_LIMIT) else None

-- the size of a dimension as stored, as a number of pixels
abbrev pub stored_pixels : Option Dim → ℕ
stored_pixels d = unwrap_or (d >>= λ d. natural (stored_size d)) 0

-- how many bytes the pixels of these dimensions need, where a pixel has n: rows without padding
abbrev pub needed : ℕ → List Dim → ℕ
needed n dims = stored_pixels (first_x dims) * stored_pixels (first_y dims) * n

-- the first cause of a chosen one at a place, with so many bytes of pixels, not to be painted
abbrev pub cause_of : Query → ℕ → EntryInfo → ℕ → Option PaintRefusal
cause_of q place info size =
    if not (is_zero info.compression) then Some (compressed place)
    else (if not (list_any (λ t. int_eq t.code info.pixel) pixel_types) then Some (kind place)
    else (if not (int_eq info.pixel q.pixel.code) then Some (mixed place)
    else (if nat_lt size (needed q.pixel.size info.dims) then Some (short_data place)
    else None)))

-- the first that is there
abbrev pub first_given : {A X : Type 0} → (A → Option X) → List A → Option X
first_given f [] = None
first_given f (a ∷ rest) = option_or (f a) (first_given f rest)

-- the first cause not to paint a chosen one, in painting order, of what has these entries and so many bytes of pixels
abbrev pub first_cause : {X : Type 0} → (X → EntryInfo) → (X → ℕ) → Query → List X → Option PaintRefusal
first_cause info size q all = first_given (λ t. cause_of q t.0 (info t.1) (size t.1)) (chosen (λ x. (info x).dims) q all)

-- the first cause not to paint a region: that it is too long, and then over the chosen ones
abbrev pub refusal : {X : Type 0} → (X → EntryInfo) → (X → ℕ) → Query → List X → Option PaintRefusal
refusal info size q all = option_or (length_cause q) (first_cause info size q all)

-- the same of the subblocks of a document
abbrev pub region_refusal : Query → List Subblock → Option PaintRefusal
region_refusal q subblocks = refusal (λ (s : Subblock). s.info) (λ (s : Subblock). length s.pixels) q subblocks
