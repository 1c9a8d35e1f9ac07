-- Images at whose front no file header stands.
use Rattle.std.proofs.Common.{◌≡◌, ℕ, ◌<◌, List, length, Option, None, Some, [], ◌∷◌, get_or, refl, sym, ◌∙◌, ap, arith}
use Rattle.std.proofs.lemmas.Slice.Eq.{bytes_eq-Decides}
use Rattle.czi_format.specs.Bytes.{bytes_at}
use Rattle.czi_format.specs.Segment.{file_id}
use Rattle.czi_format.specs.Live.{FileHeader, file_header}
use Rattle.czi_format.specs.Refusals.{IsRefused, reading, reads_but_overlap, first_rules, not_czi}
use Rattle.czi_format.proofs.Local.{header_fronts}
use Rattle.czi_format.proofs.Readings.{header_is_read}

headless : (image : List ℕ) → ((h : FileHeader) → file_header image ≡ Some h → ⊥) → IsRefused image not_czi
unfolding reading reads_but_overlap first_rules
headless image never = cases (file_header image) refl
  where
    cases : (o : Option FileHeader) → file_header image ≡ o → IsRefused image not_czi
    cases None is = rw is
    cases (Some h) is = absurd (never h is)

-- shorter than a file header's fields
pub short_refused : (image : List ℕ) → length image < 112 → IsRefused image not_czi
short_refused image short = headless image (λ h found. omega (arith, (header_fronts image h found).0.long, short))

first_byte : (image : List ℕ) → bytes_at image 0 16 ≡ file_id → get_or image 0 0 ≡ 0x5A
unfolding bytes_at file_id
first_byte [] same = cc
first_byte (b ∷ rest) same = ap (λ (l : List ℕ). get_or l 0 0) same

-- its first byte is no Z
pub unmarked_refused : (image : List ℕ) → (get_or image 0 0 ≡ 0x5A → ⊥) → IsRefused image not_czi
unmarked_refused image other = headless image (λ h found.
    let f = (header_fronts image h found).0 in
    let id = header_is_read image 0 h.segment f.header in
    other (first_byte image (sym id.id ∙ (bytes_eq-Decides h.segment.id file_id).0 f.id)))
