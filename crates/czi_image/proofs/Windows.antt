-- What is read from a window is what is read from the image.
use Rattle.std.proofs.Common.{◌≡◌, ℕ, zero, suc, ◌+◌, ◌≤◌, ◌<◌, ℤ, pos, negsuc, List, length, nat_le, Bool, true, false, ◌&&◌, Option, Some, None, option_map, bytes_eq, refl, ap, sym, ◌∙◌, arith, ⊎_elim}
use Rattle.std.proofs.lemmas.Bool.Decides.{leb_tells}
use Rattle.std.proofs.Math.Dec.{leb}
use Rattle.czi_format.specs.Bytes.{bytes_at, i32_at, i64_at}
use Rattle.czi_format.specs.Partial.{◌>>=◌, natural, given, none_or}
use Rattle.czi_format.specs.Segment.{Segment, header_at, segment_at, sound_segment, in_segment, data_of}
use Rattle.czi_format.proofs.Local.{part_of_part}
use Rattle.czi_format.proofs.Readings.{is_sound, segment_stands, header_is_read}
use Rattle.czi_format.proofs.Heads.{header_moved}
use Rattle.czi_image.specs.Windows.{IsTooNear, IsFront, sound_in, in_window}

-- a field of a window
pub i64_in_window : (image : List ℕ) (at n k : ℕ) → k + 8 ≤ n → i64_at (bytes_at image at n) k ≡ i64_at image (at + k)
unfolding i64_at
i64_in_window image at n k fits = let part : bytes_at (bytes_at image at n) k 8 ≡ bytes_at image (at + k) 8 = part_of_part image at n k 8 fits in cc

pub i32_in_window : (image : List ℕ) (at n k : ℕ) → k + 4 ≤ n → i32_at (bytes_at image at n) k ≡ i32_at image (at + k)
unfolding i32_at
i32_in_window image at n k fits = let part : bytes_at (bytes_at image at n) k 4 ≡ bytes_at image (at + k) 4 = part_of_part image at n k 4 fits in cc

-- the front of a window
pub front_of_window : (image : List ℕ) (at n m : ℕ) → m ≤ n → bytes_at (bytes_at image at n) 0 m ≡ bytes_at image at m
front_of_window image at n m fits = part_of_part image at n 0 m (omega arith) ∙ ap (λ (p : ℕ). bytes_at image p m) (let e : at + 0 ≡ at = omega arith in e)

-- no place stands at a negative position
pub nowhere : (image : List ℕ) (least : ℕ) (position : ℤ) → natural position ≡ None → IsTooNear image least position
nowhere image least (pos n) none = absurd (cc)
nowhere image least (negsuc n) none = λ at is. absurd (cc)

pub place_of : (position : ℤ) (n : ℕ) → natural position ≡ Some n → (at : ℕ) → position ≡ pos at → at ≡ n
place_of (pos m) n is at place = let same : m ≡ n = cc in let other : m ≡ at = cc in sym other ∙ same
place_of (negsuc m) n is at place = cc

-- the tests of a segment in one, and one after another
tests_in_order : (a b c b' : Bool) (s : Segment) (f : Segment → Bool) (g : Segment → Bool) → b ≡ b' → f s ≡ a → g s ≡ (b' && c)
    → given (a && b && c) s ≡ given (f s) s >>= (λ t. given (g t) t)
tests_in_order true b c b' s f g same fs gs = rw (fs, gs, same)
tests_in_order false b c b' s f g same fs gs = rw fs

-- the sound segment of an id at a place
pub sound_in_window : (image id : List ℕ) (at n : ℕ) → 32 ≤ n → sound_in (bytes_at image at n) id at (length image) ≡ sound_segment image id (pos at)
unfolding sound_in sound_segment segment_at
sound_in_window image id at n fits = by_header (header_at (bytes_at (bytes_at image at n) 0 32) 0) (header_moved image (bytes_at (bytes_at image at n) 0 32) at (sym (front_of_window image at n 32 fits)))
  where
    name : bytes_at (bytes_at image at n) 0 16 ≡ bytes_at image at 16
    name = front_of_window image at n 16 (omega arith)

    by_header : (o : Option Segment) → header_at image at ≡ option_map (λ (s : Segment). record s { at = at }) o
        → (o >>= λ h. given (nat_le (at + 32 + h.allocated) (length image) && bytes_eq (bytes_at (bytes_at image at n) 0 16) id && nat_le h.used h.allocated) (record h { at = at }))
        ≡ (header_at image at >>= λ s. given (nat_le (at + 32 + s.allocated) (length image)) s) >>= (λ s. given (bytes_eq s.id id && nat_le s.used s.allocated) s)
    by_header None is = rw is
    by_header (Some h) is =
        let s : Segment = record h { at = at } in
        let own : s.id ≡ bytes_at image at 16 = (header_is_read image at s is).id in
        let same : bytes_eq (bytes_at (bytes_at image at n) 0 16) id ≡ bytes_eq s.id id = ap (λ (x : List ℕ). bytes_eq x id) (name ∙ sym own) in
        rw is (tests_in_order (nat_le (at + 32 + h.allocated) (length image)) (bytes_eq (bytes_at (bytes_at image at n) 0 16) id) (nat_le h.used h.allocated) (bytes_eq s.id id) s
        (λ (t : Segment). nat_le (at + 32 + t.allocated) (length image)) (λ (t : Segment). bytes_eq t.id id && nat_le t.used t.allocated) same refl refl)

-- a segment that was found ends in the image
pub sound_inside : (image id : List ℕ) (at : ℕ) (s : Segment) → sound_segment image id (pos at) ≡ Some s → (s.at ≡ at) × (at + 32 + s.allocated ≤ length image)
sound_inside image id at s found =
    let sound = is_sound image id (pos at) s found in
    let stands = segment_stands image s.at s sound.here in
    let place : at ≡ s.at = cc (sound.place) in
    (sym place, omega (arith, stands.inside, place))

pub each_found : {A : Type 0} (o : Option Segment) (f g : Segment → Option A) → ((s : Segment) → o ≡ Some s → f s ≡ g s) → o >>= f ≡ o >>= g
each_found None f g same = refl
each_found (Some s) f g same = same s refl

pub none_found : {A B : Type 0} (o : Option A) (f : A → Option B) → ((s : A) → o ≡ Some s → f s ≡ None) → o >>= f ≡ None
none_found None f none = refl
none_found (Some s) f none = none s refl

-- What is read in a segment looks at the first k bytes of its data, and finds nothing in less data than that.
pub record ReadsFront {A : Type 0} (k least : ℕ) (read : Segment → List ℕ → Option A) : Type 0 where
  pub small : (s : Segment) (bytes : List ℕ) → s.allocated < least → read s bytes ≡ None
  pub same : (s : Segment) (a b : List ℕ) → bytes_at a 0 k ≡ bytes_at b 0 k → read s a ≡ read s b

-- one law for all kinds of segments
pub read_in_window : {A : Type 0} {k least : ℕ} {read : Segment → List ℕ → Option A} (image id : List ℕ) (at n : ℕ) → ReadsFront k least read → k ≤ least → n ≡ 32 + k
    → in_window (bytes_at image at n) id at (length image) k read ≡ in_segment image id (pos at) read
unfolding in_window in_segment
read_in_window {A} {k} {least} {read} image id at n reads fits wide =
    let sound : sound_in (bytes_at image at n) id at (length image) ≡ sound_segment image id (pos at) = sound_in_window image id at n (omega arith) in
    ap (λ (o : Option Segment). o >>= λ s. read s (bytes_at (bytes_at image at n) 32 k)) sound
    ∙ each_found (sound_segment image id (pos at)) _ _ (λ s is.
    let inside = sound_inside image id at s is in
    ⊎_elim
    (λ (t : (leb least s.allocated ≡ true) × (least ≤ s.allocated)).
    let here : bytes_at (bytes_at (bytes_at image at n) 32 k) 0 k ≡ bytes_at image (at + 32) k
    = ap (λ (l : List ℕ). bytes_at l 0 k) (part_of_part image at n 32 k (omega arith)) ∙ front_of_window image (at + 32) k k (omega arith) in
    let there : bytes_at (data_of image s) 0 k ≡ bytes_at image (at + 32) k
    = front_of_window image (s.at + 32) s.allocated k (omega (arith, t.1)) ∙ ap (λ (p : ℕ). bytes_at image (p + 32) k) inside.0 in
    reads.same s _ _ (here ∙ sym there))
    (λ (t : (leb least s.allocated ≡ false) × (s.allocated < least)). reads.small s _ t.1 ∙ sym (reads.small s _ t.1))
    (leb_tells least s.allocated))

pub nothing_near : {A : Type 0} {k least : ℕ} {read : Segment → List ℕ → Option A} (image id : List ℕ) (room : ℕ) (position : ℤ) → ReadsFront k least read → room ≡ 32 + least
    → IsTooNear image room position → in_segment image id position read ≡ None
unfolding in_segment
nothing_near {A} {k} {least} {read} image id room (pos at) reads wide near =
    none_found (sound_segment image id (pos at)) _ (λ s is.
    let inside = sound_inside image id at s is in
    reads.small s _ (omega (arith, inside.1, near at refl)))
nothing_near {A} {k} {least} {read} image id room (negsuc n) reads wide near = none_found (sound_segment image id (negsuc n)) _ (λ s is. absurd (nowhere image id n s is))
  where
    nowhere : (image id : List ℕ) (n : ℕ) (s : Segment) → sound_segment image id (negsuc n) ≡ Some s → ⊥
    nowhere image id n s is = let place = (is_sound image id (negsuc n) s is).place in cc

-- the same of what was read from the front that stands there
pub read_shown : {A C : Type 0} {k least : ℕ} {read : Segment → List ℕ → Option A} (view : C → A) (o : Option C) (image id front : List ℕ) (room n size at : ℕ) (position : ℤ)
    → ReadsFront k least read → k ≤ least → n ≡ 32 + k → size ≡ length image → IsFront image room n position at front → option_map view o ≡ in_window front id at size k read
    → option_map view o ≡ in_segment image id position read
read_shown {A} {C} {k} {least} {read} view o image id front room n size at position reads fits wide long is found =
    found
    ∙ (ap (λ (l : List ℕ). in_window l id at size k read) is.bytes_are
    ∙ (ap (λ (m : ℕ). in_window (bytes_at image at n) id at m k read) long
    ∙ (read_in_window image id at n reads fits wide
    ∙ ap (λ (z : ℤ). in_segment image id z read) (sym is.place))))

-- none at position 0, and elsewhere what stands there
pub elsewhere : {A C : Type 0} (view : C → A) (z : ℤ) (o : Option C) (x : Option A) → (z ≡ pos 0 → ⊥) → option_map view o ≡ x
    → option_map (option_map view) (option_map (λ (y : C). Some y) o) ≡ none_or z x
elsewhere view (pos zero) o x some is = absurd (some refl)
elsewhere view (pos (suc n)) None x some is = ap (λ y. y >>= (λ z. Some (Some z))) is
elsewhere view (pos (suc n)) (Some y) x some is = ap (λ y. y >>= (λ z. Some (Some z))) is
elsewhere view (negsuc n) None x some is = ap (λ y. y >>= (λ z. Some (Some z))) is
elsewhere view (negsuc n) (Some y) x some is = ap (λ y. y >>= (λ z. Some (Some z))) is
