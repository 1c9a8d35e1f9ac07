-- What a patch is of a chosen tile.
use Rattle.std.proofs.Common.{◌≡◌, ℕ, ◌+◌, ◌*◌, ◌-◌, ◌<◌, ◌≤◌, ℤ, pos, List, take, drop, Bool, true, false, nat_lt, Option, None, Some, not, refl, ap, sym, ◌∙◌, arith, if◌then◌else◌}
use Rattle.std.specs.Option.{unwrap_or}
use Rattle.std.proofs.lemmas.List.{drop-take, take-take, drop-drop}
use Rattle.std.proofs.lemmas.Bool.Decides.{nat_tests}
use Rattle.std.proofs.Math.Nat.{mul-le-mul_right}
use Rattle.czi_format.specs.Bytes.{bytes_at}
use Rattle.std.specs.List.{list_any}
use Rattle.std.specs.Ordering.{int_eq}
use Rattle.czi_format.specs.Partial.{◌>>=◌, natural, is_zero}
use Rattle.czi_format.specs.Entry.{Dim, EntryInfo}
use Rattle.czi_format.specs.Text.{stored_size}
use Rattle.czi_image.specs.declared.types.Tile.{Tile}
use Rattle.czi_format.specs.Painting.{Query, first_x, first_y, pixel_types}
use Rattle.czi_tiles.specs.declared.covering.Covering.{Covering}
use Rattle.czi_tiles.specs.Chosen.{tile_dims}
use Rattle.czi_tiles.specs.Covered.{IsCovering}
use Rattle.czi_tiles.specs.Covered.{seen_through}
use Rattle.czi_paint.specs.Patched.{IsPatch, subblock_in}
use Rattle.czi_format.specs.PaintRefusals.{PaintRefusal, compressed, kind, mixed, short_data, needed, stored_pixels, cause_of}
use Rattle.czi_paint.proofs.Overlays.{seen_below, spread}

-- a part of a part
pub part_of : (src : List ℕ) (at size off n : ℕ) → off + n ≤ size → bytes_at (bytes_at src at size) off n ≡ bytes_at src (at + off) n
unfolding bytes_at
part_of src at size off n fits =
    let e : off + (size - off) ≡ size = omega arith in
    ap (λ k. take n (drop off (take k (drop at src)))) (sym e)
    ∙ (ap (take n) (drop-take off (size - off) (drop at src)) ∙ (take-take n (size - off) (drop off (drop at src)) (omega arith) ∙ ap (take n) (drop-drop off at src)))

-- what lies in the pixels of a tile lies in the image
pub in_image : (image : List ℕ) (t : Tile) (off n : ℕ) → off + n ≤ t.pixels → bytes_at (subblock_in image t).pixels off n ≡ bytes_at image (t.begin + t.meta + off) n
in_image image t off n fits =
    let begin : ℕ = t.begin - (t.span.at + 32) in
    let first = part_of (bytes_at image (t.span.at + 32) t.head.allocated) (begin + t.meta) t.pixels off n fits in
    let second = part_of image (t.span.at + 32) t.head.allocated (begin + t.meta + off) n (omega (arith, t.extent, t.begins, t.contents)) in
    let place : t.span.at + 32 + (begin + t.meta + off) ≡ t.begin + t.meta + off = omega (arith, t.begins) in
    first ∙ (second ∙ ap (λ at. bytes_at image at n) place)

pub needed_is : (q : Query) (dims : List Dim) (c : Covering) → IsCovering q dims c → needed q.pixel.size dims ≡ c.width * c.height * q.pixel.size
needed_is q dims c is =
    let side : (o : Option Dim) (d : Dim) (n : ℕ) → o ≡ Some d → stored_size d ≡ pos n → stored_pixels o ≡ n = λ o d n e s.
    ap stored_pixels e ∙ ap (λ (z : ℤ). unwrap_or (natural z) 0) s in
    λ i. side (first_x dims) is.x c.width is.first_x is.width i * side (first_y dims) is.y c.height is.first_y is.height i * q.pixel.size

-- the pixels of a stored row end within those of the tile
row_ends : (c : Covering) (n v size : ℕ) → c.columns.from + c.columns.count ≤ c.width → v < c.height → c.width * c.height * n ≤ size → (v * c.width + (c.columns.from + c.columns.count)) * n ≤ size
row_ends c n v size across low enough =
    let one : (v + 1) * c.width ≤ c.height * c.width = mul-le-mul_right c.width (omega arith) in
    let e : (v + 1) * c.width ≡ v * c.width + c.width = omega arith in
    let swap : c.height * c.width ≡ c.width * c.height = omega arith in
    let more : (v * c.width + (c.columns.from + c.columns.count)) * n ≤ c.width * c.height * n = mul-le-mul_right n (omega (arith, one, e, swap)) in
    omega (arith, more, enough)

abbrev bytes_in : ℕ → List ℕ → ℕ → ℕ → ℕ → Option (List ℕ)
bytes_in n pixels width v u = Some (bytes_at pixels ((v * width + u) * n) n)

module _ (q : Query) (t : Tile) (c : Covering) (is : IsCovering q (tile_dims t) c) (enough : c.width * c.height * q.pixel.size ≤ t.pixels) where
  same_pixel : (image : List ℕ) (i j v u : ℕ) → seen_through c.rows j ≡ Some v → seen_through c.columns i ≡ Some u
      → bytes_at (subblock_in image t).pixels ((v * c.width + u) * q.pixel.size) q.pixel.size ≡ bytes_at image (t.begin + t.meta + (v * c.width + u) * q.pixel.size) q.pixel.size
  same_pixel image i j v u row column =
      let n : ℕ = q.pixel.size in
      let low : v < c.height = omega (arith, seen_below c.rows.first c.rows.count c.rows.from j v row, is.down) in
      let left : u < c.columns.from + c.columns.count = seen_below c.columns.first c.columns.count c.columns.from i u column in
      let ends : (v * c.width + (c.columns.from + c.columns.count)) * n ≤ t.pixels = row_ends c n v t.pixels is.across low enough in
      let more : (v * c.width + u + 1) * n ≤ (v * c.width + (c.columns.from + c.columns.count)) * n = mul-le-mul_right n (omega (arith, left)) in
      let one : (v * c.width + u + 1) * n ≡ (v * c.width + u) * n + 1 * n = spread (v * c.width + u) 1 n in
      in_image image t ((v * c.width + u) * n) n (omega (arith, more, one, ends))

  -- in the one order or in the other
  crossed : (image pixels : List ℕ) (i j : ℕ) (ov ou : Option ℕ) → seen_through c.rows j ≡ ov → seen_through c.columns i ≡ ou → pixels ≡ (subblock_in image t).pixels
      → (ov >>= λ v. ou >>= λ u. Some (bytes_at image (t.begin + t.meta + (v * c.width + u) * q.pixel.size) q.pixel.size))
      ≡ (ou >>= λ u. ov >>= λ v. Some (bytes_at pixels ((v * c.width + u) * q.pixel.size) q.pixel.size))
  crossed image pixels i j None None row column p = refl
  crossed image pixels i j None (Some u) row column p = refl
  crossed image pixels i j (Some v) None row column p = refl
  crossed image pixels i j (Some v) (Some u) row column p =
      ap Some (sym (same_pixel image i j v u row column) ∙ ap (λ bytes. bytes_at bytes ((v * c.width + u) * q.pixel.size) q.pixel.size) (sym p))

  pub patch_is : IsPatch q t (record { columns = c.columns; rows = c.rows; place = t.begin + t.meta; width = c.width })
  patch_is = record {
    shows = λ image i j low below. crossed image (subblock_in image t).pixels i j (seen_through c.rows j) (seen_through c.columns i) refl refl refl ∙ sym (is.shows (subblock_in image t).pixels i j low below);
    fits = is.columns;
    ends = λ v low.
        let h : (v * c.width + (c.columns.from + c.columns.count)) * q.pixel.size ≤ t.pixels = row_ends c q.pixel.size v t.pixels is.across (omega (arith, low, is.down)) enough in
        omega (arith, h);
  }

-- that there are enough bytes
pub enough_bytes : (q : Query) (dims : List Dim) (c : Covering) (size : ℕ) → IsCovering q dims c → nat_lt size (needed q.pixel.size dims) ≡ false → c.width * c.height * q.pixel.size ≤ size
enough_bytes q dims c size is e =
    let same : needed q.pixel.size dims ≡ c.width * c.height * q.pixel.size = needed_is q dims c is in
    let test : nat_lt size (c.width * c.height * q.pixel.size) ≡ false = ap (nat_lt size) (sym same) ∙ e in
    grind (arith, nat_tests)

-- nothing refuses a tile that has too few bytes but that
unrefused : (a b c d : Bool) (w x y z : PaintRefusal) → (if a then Some w else (if b then Some x else (if c then Some y else (if d then Some z else None)))) ≡ None → d ≡ false
unrefused true b c d w x y z e = cc
unrefused false true c d w x y z e = cc
unrefused false false true d w x y z e = cc
unrefused false false false true w x y z e = cc
unrefused false false false false w x y z e = refl

pub long_enough : (q : Query) (place : ℕ) (info : EntryInfo) (size : ℕ) → cause_of q place info size ≡ None → nat_lt size (needed q.pixel.size info.dims) ≡ false
long_enough q place info size e =
    unrefused (not (is_zero info.compression)) (not (list_any (λ t. int_eq t.code info.pixel) pixel_types)) (not (int_eq info.pixel q.pixel.code)) (nat_lt size (needed q.pixel.size info.dims))
    (compressed place) (kind place) (mixed place) (short_data place) e
