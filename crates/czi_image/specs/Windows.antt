-- What is read from the front of a segment, in place of the whole image.
use Rattle.std.specs.Prelude.{◌≡◌, ℕ, ◌+◌, ◌<◌, ◌≤◌, ℤ, pos, List, ◌&&◌, nat_le, length, Option, bytes_eq}
use Rattle.czi_format.specs.Bytes.{bytes_at}
use Rattle.czi_format.specs.Partial as partial
use Rattle.czi_format.specs.Partial.{given, is_zero}
use Rattle.czi_format.specs.Segment.{Segment, header_at}
use Rattle.czi_format.specs.Live.{FileHeader, front_header}

-- no place stands at this position of the image, or fewer than so many bytes stand there
abbrev pub IsTooNear : List ℕ → ℕ → ℤ → Type 0
IsTooNear image least position = (at : ℕ) → position ≡ pos at → length image < at + least

-- so many bytes stand at the place, and these are the first n of them
pub record IsFront (image : List ℕ) (least n : ℕ) (position : ℤ) (at : ℕ) (bytes : List ℕ) : Type 0 where
  pub place : position ≡ pos at
  pub room : at + least ≤ length image
  pub bytes_are : bytes ≡ bytes_at image at n

-- the segment of this id with sound sizes at a place of an image of n bytes; the front of the segment is the window
unfoldable pub sound_in : (front id : List ℕ) → (at n : ℕ) → Option Segment
sound_in front id at n = partial.◌>>=◌ (header_at (bytes_at front 0 32) 0) (λ h.
    given (nat_le (at + 32 + h.allocated) n && bytes_eq (bytes_at front 0 16) id && nat_le h.used h.allocated) (record h { at = at }))

-- what is read in it from the first k bytes of its data
unfoldable pub in_window : {A : Type 0} → (front id : List ℕ) → (at n k : ℕ) → (Segment → List ℕ → Option A) → Option A
in_window front id at n k read = partial.◌>>=◌ (sound_in front id at n) (λ s. read s (bytes_at front 32 k))

-- the file header whose first 112 bytes are the window, in an image of n bytes
unfoldable pub front_within : List ℕ → ℕ → Option FileHeader
front_within front n = partial.◌>>=◌ (front_header front) (λ h. given (nat_le (32 + h.segment.allocated) n) h)
