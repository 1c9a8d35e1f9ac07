-- Painting: what a region of a document shows, pixel by pixel.
--
-- A region asks for `w` times `h` pixels of one pixel type, from a point on. In layer m each pixel stands for m by m logical
-- pixels, and its neighbours lie m apart. The pixel at a point is that of the last subblock, in painting order, that covers
-- the point.
use Rattle.std.specs.Prelude.{ℕ, ◌+◌, ◌*◌, ◌/◌, ℤ, pos, ◌+ℤ◌, ◌-ℤ◌, ◌*ℤ◌, List, [], ◌∷◌, Bool, true, false, not, ◌&&◌, ◌==◌, nat_lt, Option, Some, None, unwrap_or, option_map, is_some, find, filter, flat_map, replicate, bytes_eq, if◌then◌else◌}
use Rattle.std.specs.List.{list_any, list_all, enumerate_from, range_with_len}
use Rattle.std.specs.Ordering.{int_eq, int_cmp, nat_cmp, ordering_then, is_le}
use Rattle.std.specs.Option.{option_cmp}
use Rattle.std.specs.declared.cmp.Ordering.{Ordering}
use Rattle.std.specs.Int.RustNames.{unsigned_abs}
use Rattle.czi_format.specs.Bytes.{padded, bytes_at}
use Rattle.czi_format.specs.Partial.{◌>>=◌, natural, given}
use Rattle.czi_format.specs.Entry.{Dim}
use Rattle.czi_format.specs.Key.{Axis}
use Rattle.czi_format.specs.Text.{stored_size}
use Rattle.czi_format.specs.Span.{sorted}
use Rattle.czi_format.specs.Document.{Subblock}

-- a pixel type that can be painted: its code, how many bytes a pixel has, how many samples it has, and how many bytes each of
-- these has
pub record PixelType : Type 0 where
  pub code : ℤ
  pub size : ℕ
  pub samples : ℕ
  pub sample : ℕ

abbrev pub gray8 : PixelType
gray8 = record { code = pos 0; size = 1; samples = 1; sample = 1 }

abbrev pub gray16 : PixelType
gray16 = record { code = pos 1; size = 2; samples = 1; sample = 2 }

abbrev pub bgr24 : PixelType
bgr24 = record { code = pos 3; size = 3; samples = 3; sample = 1 }

abbrev pub bgr48 : PixelType
bgr48 = record { code = pos 4; size = 6; samples = 3; sample = 2 }

abbrev pub pixel_types : List PixelType
pixel_types = gray8 ∷ gray16 ∷ bgr24 ∷ bgr48 ∷ []

-- the names that a plane doesn't have: the column, the row, the place in painting order and the scene are said elsewhere
abbrev pub is_apart : List ℕ → Bool
is_apart name = list_any (λ other. bytes_eq name (padded 4 other)) ("X" ∷ "Y" ∷ "M" ∷ "S" ∷ [])

-- one of these has this name
abbrev pub has_name : List ℕ → List Axis → Bool
has_name name axes = list_any (λ a. bytes_eq a.name name) axes

-- a plane: in which dimensions a subblock starts where, each named once
abbrev pub is_plane : List Axis → Bool
is_plane [] = true
is_plane (a ∷ rest) = not (is_apart a.name) && (not (has_name a.name rest) && is_plane rest)

-- what is asked for
pub record Query : Type 0 where
  pub pixel : PixelType
  pub layer : ℕ
  pub x : ℤ
  pub y : ℤ
  pub w : ℕ
  pub h : ℕ
  pub scene : Option ℤ
  pub plane : List Axis

-- ---- where a subblock belongs

-- the first dimension of a name
abbrev pub first_named : List ℕ → List Dim → Option Dim
first_named name dims = find (λ d. bytes_eq d.name name) dims

abbrev pub first_x : List Dim → Option Dim
first_x dims = first_named (padded 4 "X") dims

abbrev pub first_y : List Dim → Option Dim
first_y dims = first_named (padded 4 "Y") dims

abbrev pub starts_there : ℤ → Option Dim → Bool
starts_there start None = false
starts_there start (Some d) = int_eq d.start start

-- it has the dimension of this name, and starts there
abbrev pub has_start : List Dim → Axis → Bool
has_start dims a = starts_there a.start (first_named a.name dims)

abbrev pub in_plane : List Axis → List Dim → Bool
in_plane plane dims = list_all (has_start dims) plane

abbrev pub in_scene : Option ℤ → List Dim → Bool
in_scene None dims = true
in_scene (Some scene) dims = has_start dims (record { name = padded 4 "S"; start = scene })

-- each stored pixel is one logical pixel
abbrev pub is_whole : Dim → Bool
is_whole d = int_eq d.size (stored_size d)

-- |size - stored * m| < m
abbrev pub is_reduced : ℕ → Dim → Bool
is_reduced m d = nat_lt (unsigned_abs (d.size -ℤ stored_size d *ℤ pos m)) m

-- layer 1 is what is whole in X and Y, and layer m what is reduced m times in both and isn't of layer 1
abbrev pub in_layer : ℕ → Dim → Dim → Bool
in_layer m x y = if m == 1 then is_whole x && is_whole y else not (is_whole x && is_whole y) && (is_reduced m x && is_reduced m y)

-- ---- what it covers

-- The stored pixel at a point, of a dimension with this start, size and stored size, where it covers the point: the point
-- lies in the size, k logical pixels behind the start, and there is a stored pixel k / m.
abbrev pub stored_pixel : ℕ → ℤ → ℤ → ℤ → ℤ → Option ℕ
stored_pixel m start size stored p = do
  k ← natural (p -ℤ start)
  n ← natural size
  u ← natural stored
  given (nat_lt k n && nat_lt (k / m) u) (k / m)

abbrev pub stored_at : ℕ → Dim → ℤ → Option ℕ
stored_at m d p = stored_pixel m d.start d.size (stored_size d) p

-- the point of the pixel with this number, in a row or a column of pixels
abbrev pub point : ℤ → ℕ → ℕ → ℤ
point from m i = from +ℤ pos (i * m)

-- a dimension covers one of n points
abbrev pub meets_one : ℕ → Dim → ℤ → ℕ → Bool
meets_one m d from n = list_any (λ i. is_some (stored_at m d (point from m i))) (range_with_len 0 n)

-- both X and Y are there and have this
abbrev pub in_both : List Dim → (Dim → Dim → Bool) → Bool
in_both dims p = unwrap_or (first_x dims >>= λ x. first_y dims >>= λ y. Some (p x y)) false

-- it is in the plane, the scene and the layer
abbrev pub belongs : Query → List Dim → Bool
belongs q dims = in_plane q.plane dims && (in_scene q.scene dims && in_both dims (in_layer q.layer))

-- it belongs there, and covers at least one point of the region
abbrev pub is_chosen : Query → List Dim → Bool
is_chosen q dims = belongs q dims && in_both dims (λ x y. meets_one q.layer x q.x q.w && meets_one q.layer y q.y q.h)

-- ---- painting order

-- where it starts in M, if it has M
abbrev pub start_in_m : List Dim → Option ℤ
start_in_m dims = option_map (λ (d : Dim). d.start) (first_named (padded 4 "M") dims)

-- when it is painted: by where it starts in M, without M first, and then by its place in the directory
abbrev pub turn_cmp : Option ℤ × ℕ → Option ℤ × ℕ → Ordering
turn_cmp a b = ordering_then (option_cmp int_cmp a.0 b.0) (nat_cmp a.1 b.1)

-- the turn of one that stands at a place in the directory
abbrev pub turn : {X : Type 0} → (X → List Dim) → ℕ × X → Option ℤ × ℕ
turn dims a = (start_in_m (dims a.1), a.0)

-- it is painted before another, or is that one
abbrev pub painted_before : {X : Type 0} → (X → List Dim) → ℕ × X → ℕ × X → Bool
painted_before dims a b = is_le (turn_cmp (turn dims a) (turn dims b))

-- all of a directory with their places, in painting order
abbrev pub painting_order : {X : Type 0} → (X → List Dim) → List X → List (ℕ × X)
painting_order dims all = sorted (painted_before dims) (enumerate_from 0 all)

-- the chosen ones, in painting order
abbrev pub chosen : {X : Type 0} → (X → List Dim) → Query → List X → List (ℕ × X)
chosen dims q all = filter (λ t. is_chosen q (dims t.1)) (painting_order dims all)

-- ---- pixels

-- the bytes of the pixel at a point, of stored pixels with these dimensions, where they cover the point
abbrev pub pixel_of : Query → List Dim → List ℕ → ℤ → ℤ → Option (List ℕ)
pixel_of q dims pixels px py = do
  x ← first_x dims
  y ← first_y dims
  width ← natural (stored_size x)
  u ← stored_at q.layer x px
  v ← stored_at q.layer y py
  Some (bytes_at pixels ((v * width + u) * q.pixel.size) q.pixel.size)

-- what a subblock shows at a point, where it is in the plane, the scene and the layer
abbrev pub shown_by : Query → ℤ → ℤ → Subblock → Option (List ℕ)
shown_by q px py s = if belongs q s.info.dims then pixel_of q s.info.dims s.pixels px py else None

-- the last of what is there
abbrev pub last_given : {A X : Type 0} → (A → Option X) → List A → X → X
last_given f [] x = x
last_given f (a ∷ rest) x = last_given f rest (unwrap_or (f a) x)

-- the dimensions of a subblock
abbrev pub dims_of_subblock : Subblock → List Dim
dims_of_subblock s = s.info.dims

-- the pixel at a point: that of the last subblock in painting order that shows one there, and zero bytes where none does
abbrev pub pixel_at : Query → List Subblock → ℤ → ℤ → List ℕ
pixel_at q subblocks px py = last_given (λ t. shown_by q px py t.1) (painting_order dims_of_subblock subblocks) (replicate q.pixel.size 0)

-- row j of the region, from 0, as stored bytes
abbrev pub row : Query → List Subblock → ℕ → List ℕ
row q subblocks j = flat_map (λ i. pixel_at q subblocks (point q.x q.layer i) (point q.y q.layer j)) (range_with_len 0 q.w)
