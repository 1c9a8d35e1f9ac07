-- What a tile covers of a region.
use Rattle.std.specs.Prelude.{◌≡◌, ℕ, ◌+◌, ◌*◌, ◌<◌, ◌≤◌, ℤ, pos, ◌≤ℤ◌, List, Option, Some}
use Rattle.czi_format.specs.Bytes.{bytes_at}
use Rattle.czi_format.specs.Partial.{◌>>=◌}
use Rattle.czi_format.specs.Entry.{Dim}
use Rattle.czi_format.specs.Text.{stored_size}
use Rattle.czi_tiles.specs.declared.window.Window.{Window}
use Rattle.czi_format.specs.Painting.{Query, first_x, first_y, point, stored_at, pixel_of}
use Rattle.czi_tiles.specs.declared.covering.Covering.{Covering}
use Rattle.czi_tiles.specs.Window.{shown_in}

-- the stored pixel that a window shows
abbrev pub seen_through : Window → ℕ → Option ℕ
seen_through w i = shown_in w.first w.count w.from i

-- a window over n pixels from a point on, of a dimension in a layer
pub record IsWindow (m : ℕ) (d : Dim) (from : ℤ) (n : ℕ) (w : Window) : Type 0 where
  pub shows : (i : ℕ) → i < n → stored_at m d (point from m i) ≡ seen_through w i
  pub inside : w.first + w.count ≤ n
  pub stored : 1 ≤ w.count → pos (w.from + w.count) ≤ℤ stored_size d

-- where the columns and the rows that are covered meet stand the pixels, one behind another
pub record IsCovering (q : Query) (dims : List Dim) (c : Covering) : Type 0 where
  pub shows : (pixels : List ℕ) (i j : ℕ) → i < q.w → j < q.h → pixel_of q dims pixels (point q.x q.layer i) (point q.y q.layer j)
      ≡ (seen_through c.columns i >>= λ u. seen_through c.rows j >>= λ v. Some (bytes_at pixels ((v * c.width + u) * q.pixel.size) q.pixel.size))
  pub columns : c.columns.first + c.columns.count ≤ q.w
  pub rows : c.rows.first + c.rows.count ≤ q.h
  pub across : c.columns.from + c.columns.count ≤ c.width
  pub down : c.rows.from + c.rows.count ≤ c.height
  pub x : Dim
  pub y : Dim
  pub first_x : first_x dims ≡ Some x
  pub first_y : first_y dims ≡ Some y
  pub width : stored_size x ≡ pos c.width
  pub height : stored_size y ≡ pos c.height
