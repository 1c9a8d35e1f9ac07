-- What a reading that found something says: laws of the two kinds of reading, and of segments.
use Rattle.std.proofs.Common.{◌≡◌, ℕ, ◌+◌, ◌≤◌, ◌<◌, ℤ, pos, negsuc, List, length, Bool, true, false, ◌&&◌, nat_le, Option, Some, None, refl, ap, sym, ◌∙◌, arith, ◌⊎◌, inl, inr, bytes_eq}
use Rattle.std.proofs.lemmas.Bool.{leb-true, le-leb}
use Rattle.std.specs.Option.{option_or}
use Rattle.czi_format.specs.Bytes.{bytes_at, i64_at}
use Rattle.czi_format.specs.Partial as partial
use Rattle.czi_format.specs.Partial.{natural, given}
use Rattle.czi_format.specs.Segment.{Segment, header_at, segment_at, sound_segment}

pub bind_some : {A B : Type 0} (o : Option A) (f : A → Option B) (y : B) → partial.◌>>=◌ o f ≡ Some y → (x : A) × (o ≡ Some x) × (f x ≡ Some y)
bind_some None f y e = cc
bind_some (Some x) f y e = (x, refl, e)

pub given_some : {A : Type 0} (b : Bool) (x y : A) → given b x ≡ Some y → (b ≡ true) × (x ≡ y)
given_some true x y e = (refl, cc)
given_some false x y e = cc

some_is : {A : Type 0} (x y : A) → (let o : Option A = Some x in o) ≡ Some y → x ≡ y
some_is x y e = cc

pub natural_some : (z : ℤ) (n : ℕ) → natural z ≡ Some n → z ≡ pos n
natural_some (pos m) n e = cc
natural_some (negsuc m) n e = cc

pub both_true : (a b : Bool) → (a && b) ≡ true → (a ≡ true) × (b ≡ true)
both_true true b e = (refl, e)
both_true false b e = cc

pub option_or_some : {A : Type 0} (a b : Option A) (x : A) → option_or a b ≡ Some x → (a ≡ Some x) ⊎ (b ≡ Some x)
option_or_some None b x e = inr e
option_or_some (Some y) b x e = inl e

-- A segment stands at a place: its header's fields, and its extent in the image.
pub record Stands (image : List ℕ) (at : ℕ) (s : Segment) : Type 0 where
  pub place : s.at ≡ at
  pub id : s.id ≡ bytes_at image at 16
  pub allocated : i64_at image (at + 16) ≡ pos s.allocated
  pub used : i64_at image (at + 24) ≡ pos s.used
  pub inside : at + 32 + s.allocated ≤ length image

-- a header's fields
pub record IsHeader (image : List ℕ) (at : ℕ) (s : Segment) : Type 0 where
  pub place : s.at ≡ at
  pub id : s.id ≡ bytes_at image at 16
  pub allocated : i64_at image (at + 16) ≡ pos s.allocated
  pub used : i64_at image (at + 24) ≡ pos s.used

pub header_is_read : (image : List ℕ) (at : ℕ) (s : Segment) → header_at image at ≡ Some s → IsHeader image at s
unfolding header_at
header_is_read image at s e =
    let a = bind_some (natural (i64_at image (at + 16))) _ s e in
    let u = bind_some (natural (i64_at image (at + 24))) _ s a.2 in
    let is : record { at = at; id = bytes_at image at 16; allocated = a.0; used = u.0 } ≡ s = some_is _ s u.2 in
    record {
      place = ap (λ (t : Segment). t.at) (sym is);
      id = ap (λ (t : Segment). t.id) (sym is);
      allocated = natural_some _ _ a.1 ∙ ap (λ (t : Segment). pos t.allocated) is;
      used = natural_some _ _ u.1 ∙ ap (λ (t : Segment). pos t.used) is;
    }

pub read_header_is : (image : List ℕ) (s : Segment) → IsHeader image s.at s → header_at image s.at ≡ Some s
unfolding header_at
read_header_is image s is = rw (is.allocated, is.used, ← is.id)

pub segment_stands : (image : List ℕ) (at : ℕ) (s : Segment) → segment_at image at ≡ Some s → Stands image at s
unfolding segment_at
segment_stands image at s e =
    let h = bind_some (header_at image at) _ s e in
    let g = given_some _ h.0 s h.2 in
    let is : IsHeader image at s = header_is_read image at s (h.1 ∙ ap Some g.1) in
    let same : h.0.allocated ≡ s.allocated = ap (λ (t : Segment). t.allocated) g.1 in
    record { place = is.place; id = is.id; allocated = is.allocated; used = is.used; inside = omega (arith, leb-true _ _ g.0, same) }

pub stands_segment : (image : List ℕ) (s : Segment) → Stands image s.at s → segment_at image s.at ≡ Some s
unfolding segment_at
stands_segment image s stands =
    let fits : nat_le (s.at + 32 + s.allocated) (length image) ≡ true = le-leb _ _ stands.inside in
    let found : header_at image s.at ≡ Some s = read_header_is image s (record { place = refl; id = stands.id; allocated = stands.allocated; used = stands.used }) in
    rw (found, fits)

-- A sound segment of this id stands at a position.
pub record IsSoundSegment (image : List ℕ) (id : List ℕ) (position : ℤ) (s : Segment) : Type 0 where
  pub place : position ≡ pos s.at
  pub here : segment_at image s.at ≡ Some s
  pub test : (bytes_eq s.id id && nat_le s.used s.allocated) ≡ true

pub is_sound : (image id : List ℕ) (position : ℤ) (s : Segment) → sound_segment image id position ≡ Some s → IsSoundSegment image id position s
unfolding sound_segment
is_sound image id position s e =
    let a = bind_some (natural position) _ s e in
    let t = bind_some (segment_at image a.0) _ s a.2 in
    let g = given_some _ t.0 s t.2 in
    let found : segment_at image a.0 ≡ Some s = t.1 ∙ ap Some g.1 in
    let stands : Stands image a.0 s = segment_stands image a.0 s found in
    record {
      place = natural_some position a.0 a.1 ∙ ap pos (sym stands.place);
      here = ap (segment_at image) stands.place ∙ found;
      test = ap (λ (x : Segment). bytes_eq x.id id && nat_le x.used x.allocated) (sym g.1) ∙ g.0;
    }

pub sound_is : (image id : List ℕ) (position : ℤ) (s : Segment) → IsSoundSegment image id position s → sound_segment image id position ≡ Some s
unfolding sound_segment
sound_is image id position s sound =
    rw (sound.place, sound.here, sound.test)

none_found : (image : List ℕ) (at : ℕ) → length image < at + 32 → (o : Option Segment) → segment_at image at ≡ o → o ≡ None
none_found image at short None e = refl
none_found image at short (Some s) e = let stands = segment_stands image at s e in absurd (omega (arith, stands.inside))

-- where fewer than 32 bytes are left, no segment stands
pub no_room : (image : List ℕ) (at : ℕ) → length image < at + 32 → segment_at image at ≡ None
no_room image at short = none_found image at short (segment_at image at) refl
