-- What an image shows depends on its length, its file header and its live segments alone.
use Rattle.std.proofs.Common.{◌≡◌, ℕ, zero, suc, ◌+◌, ◌-◌, ◌≤◌, ◌<◌, min, ℤ, pos, negsuc, List, [], ◌∷◌, ◌++◌, map, take, drop, length, Bool, true, false, ◌||◌, ◌&&◌, ◌==◌, bytes_eq, nat_le, Option, Some, None, option_to_list, option_map, refl, ap, sym, ◌∙◌, arith, subst}
use Rattle.std.proofs.lemmas.List.{drop-take, take-take, drop-drop, length-take, length-drop}
use Rattle.std.proofs.lemmas.Bool.{eqb-true, leb-true, le-leb}
use Rattle.std.specs.List.{AllByRecursion}
use Rattle.czi_format.specs.Bytes.{bytes_at, i32_at, i64_at}
use Rattle.czi_format.specs.Partial.{◌>>=◌, none_or}
use Rattle.czi_format.specs.FirstFault.{one_after_another}
use Rattle.czi_format.specs.Shows.{Reaches, Shows, entries, a1_entries, subblock_at, attachment_at}
use Rattle.czi_format.specs.Document.{Document}
use Rattle.czi_format.specs.Segment.{Segment, header_at, segment_at, sound_segment, extent, data_of, in_segment, file_id, directory_id, subblock_id, metadata_id, attachment_id, attdir_id}
use Rattle.czi_format.specs.Entry.{Entry, A1, entry, entry_len, a1, a1_len}
use Rattle.czi_format.specs.Contents.{sub_head, meta_head, att_size, entry_count}
use Rattle.czi_format.specs.Live.{Live, FileHeader, has_header_sizes, header_fields, front_header, file_header, Directory, directory, attachment_directory, Tile, tile, AttItem, att_item, MetaItem, meta_item, document, subblock_of, attachment_of, metadata_of}
use Rattle.czi_format.specs.Span.{end_of, round32}
use Rattle.czi_format.specs.Walk.{stands_at, next_from, WalksFrom}
use Rattle.czi_format.specs.Same.{SameExtent, SameLive, SameStep, SameWalk}
use Rattle.czi_format.proofs.Readings.{bind_some, given_some, IsHeader, header_is_read, read_header_is, Stands, segment_stands, both_true, stands_segment, IsSoundSegment, is_sound, sound_is}

-- a part of a part
pub part_of_part : (bytes : List ℕ) (at n k m : ℕ) → k + m ≤ n → bytes_at (bytes_at bytes at n) k m ≡ bytes_at bytes (at + k) m
unfolding bytes_at
part_of_part bytes at n k m fits =
    let whole : k + (n - k) ≡ n = omega arith in
    let small : m ≤ n - k = omega arith in
    ap (λ z. take m (drop k (take z (drop at bytes)))) (sym whole)
    ∙ (ap (take m) (drop-take k (n - k) (drop at bytes))
    ∙ (take-take m (n - k) (drop k (drop at bytes)) small
    ∙ ap (take m) (drop-drop k at bytes)))

-- two lists that agree in a part agree in its parts
pub same_part : (a b : List ℕ) (at n k m : ℕ) → bytes_at a at n ≡ bytes_at b at n → k + m ≤ n → bytes_at a (at + k) m ≡ bytes_at b (at + k) m
same_part a b at n k m same fits =
    sym (part_of_part a at n k m fits) ∙ (ap (λ s. bytes_at s k m) same ∙ part_of_part b at n k m fits)

same_front : (a b : List ℕ) (at n m : ℕ) → bytes_at a at n ≡ bytes_at b at n → m ≤ n → bytes_at a at m ≡ bytes_at b at m
same_front a b at n m same fits =
    let front : at + 0 ≡ at = omega arith in
    subst (λ p. bytes_at a p m ≡ bytes_at b p m) front (same_part a b at n 0 m same (omega arith))

pub i32_same : (a b : List ℕ) (at : ℕ) → bytes_at a at 4 ≡ bytes_at b at 4 → i32_at a at ≡ i32_at b at
unfolding i32_at
i32_same a b at same = cc

pub i64_same : (a b : List ℕ) (at : ℕ) → bytes_at a at 8 ≡ bytes_at b at 8 → i64_at a at ≡ i64_at b at
unfolding i64_at
i64_same a b at same = cc

-- the segment at a place depends on the length and the header alone
pub segment_same : (a b : List ℕ) (at : ℕ) → length a ≡ length b → bytes_at a at 32 ≡ bytes_at b at 32 → segment_at a at ≡ segment_at b at
unfolding segment_at header_at
segment_same a b at long same =
    let id : bytes_at a at 16 ≡ bytes_at b at 16 = same_front a b at 32 16 same (omega arith) in
    let allocated : i64_at a (at + 16) ≡ i64_at b (at + 16) = i64_same a b (at + 16) (same_part a b at 32 16 8 same (omega arith)) in
    let used : i64_at a (at + 24) ≡ i64_at b (at + 24) = i64_same a b (at + 24) (same_part a b at 32 24 8 same (omega arith)) in
    simp (id, allocated, used, long)

stands_same : (a b : List ℕ) (at : ℕ) → length a ≡ length b → bytes_at a at 32 ≡ bytes_at b at 32 → stands_at a at ≡ stands_at b at
unfolding stands_at
stands_same a b at long same = let s : segment_at a at ≡ segment_at b at = segment_same a b at long same in simp s

-- the laws of a reading
bind_same : {A B : Type 0} (o p : Option A) (f g : A → Option B) → o ≡ p → ((x : A) → o ≡ Some x → f x ≡ g x) → o >>= f ≡ p >>= g
bind_same None p f g same each = ap (λ z. z >>= g) same
bind_same (Some x) p f g same each = each x refl ∙ ap (λ z. z >>= g) same

-- a part of full length lies in the list
part_inside : (a b : List ℕ) (at n : ℕ) → 0 < n → at + n ≤ length a → bytes_at a at n ≡ bytes_at b at n → at + n ≤ length b
unfolding bytes_at
part_inside a b at n some inside same =
    let here : length (take n (drop at a)) ≡ min n (length (drop at a)) = length-take n (drop at a) in
    let there : length (take n (drop at b)) ≡ min n (length (drop at b)) = length-take n (drop at b) in
    omega (arith, ap length same, here, there, length-drop at a, length-drop at b)

-- a segment whose header and size both images have
stands_same_header : (a b : List ℕ) (s : Segment) → bytes_at a s.at 32 ≡ bytes_at b s.at 32 → s.at + 32 + s.allocated ≤ length b → segment_at a s.at ≡ Some s → segment_at b s.at ≡ Some s
stands_same_header a b s header inside found =
    let stands : Stands a s.at s = segment_stands a s.at s found in
    stands_segment b s (record {
      place = refl;
      id = stands.id ∙ same_front a b s.at 32 16 header (omega arith);
      allocated = sym (i64_same a b (s.at + 16) (same_part a b s.at 32 16 8 header (omega arith))) ∙ stands.allocated;
      used = sym (i64_same a b (s.at + 24) (same_part a b s.at 32 24 8 header (omega arith))) ∙ stands.used;
      inside = inside;
    })

-- a live segment: found in the other image too, with the same data
pub sound_same : (a b : List ℕ) (id : List ℕ) (position : ℤ) (s : Segment) → sound_segment a id position ≡ Some s → SameExtent a b s
    → (sound_segment b id position ≡ Some s) × (data_of a s ≡ data_of b s)
sound_same a b id position s found same =
    let sound : IsSoundSegment a id position s = is_sound a id position s found in
    let stands : Stands a s.at s = segment_stands a s.at s sound.here in
    let inside : s.at + (32 + s.allocated) ≤ length b = part_inside a b s.at (32 + s.allocated) (omega arith) (omega (arith, stands.inside)) same in
    let header : bytes_at a s.at 32 ≡ bytes_at b s.at 32 = same_front a b s.at (32 + s.allocated) 32 same (omega arith) in
    let here : segment_at b s.at ≡ Some s = stands_same_header a b s header (omega (arith, inside)) sound.here in (
      sound_is b id position s (record { place = sound.place; here = here; test = sound.test }),
      same_part a b s.at (32 + s.allocated) 32 s.allocated same (omega arith),
    )

-- A reading answers with the segment that it was given.
unfoldable pub IsItsOwn : {A : Type 0} → (Segment → List ℕ → Option A) → (A → Segment) → Type 0
IsItsOwn {A} read segment_of = (s : Segment) (bytes : List ℕ) (y : A) → read s bytes ≡ Some y → segment_of y ≡ s

-- what is read in a live segment is read there in the other image too
pub found_same : {A : Type 0} (a b id : List ℕ) (position : ℤ) (read : Segment → List ℕ → Option A) (segment_of : A → Segment) (x : A)
    → IsItsOwn read segment_of → SameExtent a b (segment_of x)
    → in_segment a id position read ≡ Some x → in_segment b id position read ≡ Some x
unfolding in_segment IsItsOwn
found_same a b id position read segment_of x its same found =
    let s = bind_some (sound_segment a id position) (λ s. read s (data_of a s)) x found in
    let its_own : segment_of x ≡ s.0 = its s.0 (data_of a s.0) x s.2 in
    let other = sound_same a b id position s.0 s.1 (subst (SameExtent a b) its_own same) in
    ap (λ z. z >>= (λ t. read t (data_of b t))) other.0 ∙ (ap (read s.0) (sym other.1) ∙ s.2)

-- the same headers give the same step, and the same walk
next_same : (a b : List ℕ) (place : ℕ) → length a ≡ length b → SameStep a b place → (o : Option Segment) → stands_at a place ≡ o → next_from a place ≡ next_from b place
next_same a b place long same None e =
    let here : stands_at a place ≡ stands_at b place = stands_same a b place long same.here in
    let beyond : stands_at a (round32 place) ≡ stands_at b (round32 place) = stands_same a b (round32 place) long (same.next e) in
    cc
next_same a b place long same (Some s) e =
    let here : stands_at a place ≡ stands_at b place = stands_same a b place long same.here in
    cc

pub walk_local : (a b : List ℕ) (place : ℕ) (walk : List Segment) → length a ≡ length b → SameWalk a b place walk → WalksFrom a place walk → WalksFrom b place walk
walk_local a b place [] long same walks = sym (next_same a b place long same (stands_at a place) refl) ∙ walks
walk_local a b place (s ∷ rest) long same walks =
    (sym (next_same a b place long same.0 (stands_at a place) refl) ∙ walks.0, walk_local a b (end_of (extent s)) rest long same.1 walks.1)

-- each kind of live segment
pub tile_own : (e : Entry) → IsItsOwn (tile e) (λ t. t.segment)
unfolding tile IsItsOwn
tile_own e s bytes y found = let h = bind_some (sub_head bytes) _ y found in ap (λ (z : Tile). z.segment) (sym (given_some _ _ y h.2).1)

pub att_item_own : (e : A1) → IsItsOwn (att_item e) (λ t. t.segment)
unfolding att_item IsItsOwn
att_item_own e s bytes y found = let h = bind_some (att_size bytes) _ y found in ap (λ (z : AttItem). z.segment) (sym (given_some _ _ y h.2).1)

pub meta_item_own : IsItsOwn meta_item (λ t. t.segment)
unfolding meta_item IsItsOwn
meta_item_own s bytes y found = let h = bind_some (meta_head bytes) _ y found in ap (λ (z : MetaItem). z.segment) (sym (given_some _ _ y h.2).1)

pub directory_own : IsItsOwn directory (λ t. t.segment)
unfolding directory IsItsOwn
directory_own s bytes y found = let h = bind_some (entry_count bytes) _ y found in ap (λ (z : Directory). z.segment) (sym (given_some _ _ y h.2).1)

pub attdir_own : IsItsOwn attachment_directory (λ t. t.segment)
unfolding attachment_directory IsItsOwn
attdir_own s bytes y found = let h = bind_some (entry_count bytes) _ y found in ap (λ (z : Directory). z.segment) (sym (given_some _ _ y h.2).1)

pub All-append : {X : Type 0} (P : X → Type 0) (xs ys : List X) → AllByRecursion P (xs ++ ys) → AllByRecursion P xs × AllByRecursion P ys
All-append P [] ys all = (tt, all)
All-append P (x ∷ xs) ys all = let rest = All-append P xs ys all.1 in ((all.0, rest.0), rest.1)

pub list_same : {X Y : Type 0} (P : Segment → Type 0) (segment_of : Y → Segment) (source : Y → X) (ra rb : X → Option Y)
    → ((y : Y) → P (segment_of y) → ra (source y) ≡ Some y → rb (source y) ≡ Some y)
    → (ys : List Y) → AllByRecursion P (map segment_of ys) → map (λ y. ra (source y)) ys ≡ map Some ys → map (λ y. rb (source y)) ys ≡ map Some ys
list_same P segment_of source ra rb step [] all found = refl
list_same P segment_of source ra rb step (y ∷ ys) all found =
    let first : ra (source y) ≡ Some y = cc in
    let others : map (λ y. ra (source y)) ys ≡ map Some ys = cc in
    let here : rb (source y) ≡ Some y = step y all.0 first in
    let rest : map (λ y. rb (source y)) ys ≡ map Some ys = list_same P segment_of source ra rb step ys all.1 others in
    cc

found_or_same : {Y : Type 0} (P : Segment → Type 0) (segment_of : Y → Segment) (fa fb : Option Y)
    → ((y : Y) → P (segment_of y) → fa ≡ Some y → fb ≡ Some y)
    → (o : Option Y) → AllByRecursion P (option_to_list (option_map segment_of o)) → fa >>= (λ x. Some (Some x)) ≡ Some o → fb >>= (λ x. Some (Some x)) ≡ Some o
found_or_same P segment_of fa fb step None all found = let x = bind_some fa (λ x. Some (Some x)) None found in cc (x.2)
found_or_same P segment_of fa fb step (Some y) all found =
    let x = bind_some fa (λ x. Some (Some x)) (Some y) found in
    let its : fa ≡ Some y = cc (x.1, x.2) in
    let other : fb ≡ Some y = step y all.0 its in
    ap (λ z. z >>= (λ x. Some (Some x))) other

pub option_same : {Y : Type 0} (P : Segment → Type 0) (segment_of : Y → Segment) (z : ℤ) (fa fb : Option Y)
    → ((y : Y) → P (segment_of y) → fa ≡ Some y → fb ≡ Some y)
    → (o : Option Y) → AllByRecursion P (option_to_list (option_map segment_of o)) → none_or z fa ≡ Some o → none_or z fb ≡ Some o
option_same P segment_of (pos zero) fa fb step o all found = found
option_same P segment_of (pos (suc n)) fa fb step o all found = found_or_same P segment_of fa fb step o all found
option_same P segment_of (negsuc n) fa fb step o all found = found_or_same P segment_of fa fb step o all found

pub map_same : {X Y : Type 0} (P : Segment → Type 0) (segment_of : X → Segment) (f g : X → Y) → ((x : X) → P (segment_of x) → f x ≡ g x)
    → (xs : List X) → AllByRecursion P (map segment_of xs) → map f xs ≡ map g xs
map_same P segment_of f g same [] all = refl
map_same P segment_of f g same (x ∷ xs) all =
    let here : f x ≡ g x = same x all.0 in
    let rest : map f xs ≡ map g xs = map_same P segment_of f g same xs all.1 in
    cc

pub data_same : (a b : List ℕ) (s : Segment) → SameExtent a b s → data_of a s ≡ data_of b s
data_same a b s same = same_part a b s.at (32 + s.allocated) 32 s.allocated same (omega arith)

pub entries_same : (a b : List ℕ) (o : Option Directory) → AllByRecursion (SameExtent a b) (option_to_list (option_map (λ (d : Directory). d.segment) o)) → entries a o ≡ entries b o
entries_same a b None all = refl
entries_same a b (Some d) all =
    ap (λ bytes. one_after_another entry entry_len (λ at. at) d.count (d.segment.at + 160) (drop 128 bytes)) (data_same a b d.segment all.0)

pub a1_entries_same : (a b : List ℕ) (o : Option Directory) → AllByRecursion (SameExtent a b) (option_to_list (option_map (λ (d : Directory). d.segment) o)) → a1_entries a o ≡ a1_entries b o
a1_entries_same a b None all = refl
a1_entries_same a b (Some d) all =
    ap (λ bytes. one_after_another a1 a1_len (λ at. at) d.count (d.segment.at + 288) (drop 256 bytes)) (data_same a b d.segment all.0)

pub metadata_same : (a b : List ℕ) (o : Option MetaItem) → AllByRecursion (SameExtent a b) (option_to_list (option_map (λ (m : MetaItem). m.segment) o)) → option_map (metadata_of a) o ≡ option_map (metadata_of b) o
metadata_same a b None all = refl
metadata_same a b (Some m) all = let same : data_of a m.segment ≡ data_of b m.segment = data_same a b m.segment all.0 in cc

-- A file header stands at the front of the bytes, whatever its extent.
pub record Fronts (bytes : List ℕ) (h : FileHeader) : Type 0 where
  pub header : header_at bytes 0 ≡ Some h.segment
  pub long : 112 ≤ length bytes
  pub id : bytes_eq h.segment.id file_id ≡ true
  pub sizes : has_header_sizes h.segment ≡ true
  pub fields : header_fields bytes h.segment ≡ h

pub front_is : (bytes : List ℕ) (h : FileHeader) → front_header bytes ≡ Some h → Fronts bytes h
front_is bytes h found =
    let s = bind_some (header_at bytes 0) _ h found in
    let g = given_some _ _ h s.2 in
    let own : s.0 ≡ h.segment = ap (λ (z : FileHeader). z.segment) g.1 in
    let t = both_true (nat_le 112 (length bytes) && bytes_eq s.0.id file_id) (has_header_sizes s.0) g.0 in
    let u = both_true (nat_le 112 (length bytes)) (bytes_eq s.0.id file_id) t.0 in
    record {
      header = s.1 ∙ ap Some own;
      long = leb-true _ _ u.0;
      id = ap (λ (z : Segment). bytes_eq z.id file_id) (sym own) ∙ u.1;
      sizes = ap has_header_sizes (sym own) ∙ t.1;
      fields = ap (header_fields bytes) (sym own) ∙ g.1;
    }

pub is_front : (bytes : List ℕ) (h : FileHeader) → Fronts bytes h → front_header bytes ≡ Some h
is_front bytes h fronts =
    let long : nat_le 112 (length bytes) ≡ true = le-leb _ _ fronts.long in
    let sizes : has_header_sizes h.segment ≡ true = fronts.sizes in
    let found : front_header bytes ≡ Some (header_fields bytes h.segment) = rw (fronts.header, long, fronts.id, sizes) in
    found ∙ ap Some fronts.fields

pub header_fronts : (a : List ℕ) (h : FileHeader) → file_header a ≡ Some h → Fronts a h × (32 + h.segment.allocated ≤ length a)
unfolding file_header
header_fronts a h found =
    let f = bind_some (front_header a) _ h found in
    let g = given_some _ _ h f.2 in
    (front_is a h (f.1 ∙ ap Some g.1), subst (λ (z : FileHeader). 32 + z.segment.allocated ≤ length a) g.1 (leb-true _ _ g.0))

pub fronts_header : (a : List ℕ) (h : FileHeader) → Fronts a h → 32 + h.segment.allocated ≤ length a → file_header a ≡ Some h
unfolding file_header
fronts_header a h fronts inside =
    let front : front_header a ≡ Some h = is_front a h fronts in
    let fits : nat_le (32 + h.segment.allocated) (length a) ≡ true = le-leb _ _ inside in
    rw (front, fits)

-- the sizes of a file header are sound
sizes_sound : (s : Segment) → has_header_sizes s ≡ true → (80 ≤ s.allocated) × (s.used ≤ s.allocated)
sizes_sound s sizes =
    let b = both_true (nat_le 80 s.allocated) _ sizes in
    let large : 80 ≤ s.allocated = leb-true 80 s.allocated b.0 in
    elim_used (s.used == 0) refl b.1 large
  where
    elim_used : (empty : Bool) → (s.used == 0) ≡ empty → (empty || (nat_le 80 s.used && nat_le s.used s.allocated)) ≡ true → 80 ≤ s.allocated → (80 ≤ s.allocated) × (s.used ≤ s.allocated)
    elim_used true is e large = (large, omega (arith, eqb-true s.used 0 is))
    elim_used false is e large = (large, leb-true _ _ (both_true (nat_le 80 s.used) (nat_le s.used s.allocated) e).1)

-- it begins at 0, and has at least 80 bytes of data
pub header_is : (a : List ℕ) (h : FileHeader) → file_header a ≡ Some h → (sound_segment a file_id (pos 0) ≡ Some h.segment) × (80 ≤ h.segment.allocated)
header_is a h found =
    let f = header_fronts a h found in
    let s : Segment = h.segment in
    let sizes = sizes_sound s f.0.sizes in
    let is : IsHeader a 0 s = header_is_read a 0 s f.0.header in
    let stands : Stands a 0 s = record { place = is.place; id = is.id; allocated = is.allocated; used = is.used; inside = omega (arith, f.1) } in
    let here : segment_at a s.at ≡ Some s = stands_segment a s (subst (λ p. Stands a p s) (sym is.place) stands) in
    let used : nat_le s.used s.allocated ≡ true = le-leb _ _ sizes.1 in
    (sound_is a file_id (pos 0) s (record { place = ap pos (sym is.place); here = here; test = rw (f.0.id, used) }), sizes.0)

header_same : (a b : List ℕ) (h : FileHeader) → file_header a ≡ Some h → bytes_at a 0 100 ≡ bytes_at b 0 100
    → bytes_at a 104 (32 + h.segment.allocated - 104) ≡ bytes_at b 104 (32 + h.segment.allocated - 104) → file_header b ≡ Some h
header_same a b h found front behind =
    let f = header_fronts a h found in
    let s : Segment = h.segment in
    let large : 80 ≤ s.allocated = (sizes_sound s f.0.sizes).0 in
    let is : IsHeader a 0 s = header_is_read a 0 s f.0.header in
    let inside : 104 + (32 + s.allocated - 104) ≤ length b = part_inside a b 104 (32 + s.allocated - 104) (omega (arith, large)) (omega (arith, large, f.1)) behind in
    let allocated : i64_at b 16 ≡ pos s.allocated = sym (i64_same a b 16 (same_part a b 0 100 16 8 front (omega arith))) ∙ is.allocated in
    let used : i64_at b 24 ≡ pos s.used = sym (i64_same a b 24 (same_part a b 0 100 24 8 front (omega arith))) ∙ is.used in
    let id : s.id ≡ bytes_at b 0 16 = is.id ∙ same_part a b 0 100 0 16 front (omega arith) in
    let here : header_at b s.at ≡ Some s = read_header_is b s (subst (λ p. IsHeader b p s) (sym is.place) (record { place = is.place; id = id; allocated = allocated; used = used })) in
    let identity : bytes_at a 32 52 ≡ bytes_at b 32 52 = same_part a b 0 100 32 52 front (omega arith) in
    let part : i32_at a 80 ≡ i32_at b 80 = i32_same a b 80 (same_part a b 0 100 80 4 front (omega arith)) in
    let dir : i64_at a 84 ≡ i64_at b 84 = i64_same a b 84 (same_part a b 0 100 84 8 front (omega arith)) in
    let meta : i64_at a 92 ≡ i64_at b 92 = i64_same a b 92 (same_part a b 0 100 92 8 front (omega arith)) in
    let atts : i64_at a 104 ≡ i64_at b 104 = i64_same a b 104 (same_front a b 104 (32 + s.allocated - 104) 8 behind (omega (arith, large))) in
    let fields : header_fields a s ≡ header_fields b s = λ i. record { segment = s; identity = identity i; part = part i; directory = dir i; metadata = meta i; attachments = atts i } in
    fronts_header b h (record {
      header = subst (λ p. header_at b p ≡ Some s) is.place here;
      long = omega (arith, inside, large);
      id = f.0.id;
      sizes = f.0.sizes;
      fields = sym fields ∙ f.0.fields;
    }) (omega (arith, inside, large))

-- the parts of the live segments but the header, each with the same extents
record SameParts (a b : List ℕ) (live : Live) : Type 0 where
  directory : AllByRecursion (SameExtent a b) (option_to_list (option_map (λ (d : Directory). d.segment) live.directory))
  tiles : AllByRecursion (SameExtent a b) (map (λ (t : Tile). t.segment) live.tiles)
  attdir : AllByRecursion (SameExtent a b) (option_to_list (option_map (λ (d : Directory). d.segment) live.attdir))
  attachments : AllByRecursion (SameExtent a b) (map (λ (t : AttItem). t.segment) live.attachments)
  metadata : AllByRecursion (SameExtent a b) (option_to_list (option_map (λ (m : MetaItem). m.segment) live.metadata))

same_parts : (a b : List ℕ) (live : Live) → SameLive a b live → SameParts a b live
same_parts a b live same =
    let S : Segment → Type 0 = SameExtent a b in
    let meta : List Segment = option_to_list (option_map (λ (m : MetaItem). m.segment) live.metadata) in
    let atts : List Segment = map (λ (t : AttItem). t.segment) live.attachments in
    let attdir : List Segment = option_to_list (option_map (λ (d : Directory). d.segment) live.attdir) in
    let tiles : List Segment = map (λ (t : Tile). t.segment) live.tiles in
    let one = All-append S (option_to_list (option_map (λ (d : Directory). d.segment) live.directory)) (tiles ++ (attdir ++ (atts ++ meta))) same.reached in
    let two = All-append S tiles (attdir ++ (atts ++ meta)) one.1 in
    let three = All-append S attdir (atts ++ meta) two.1 in
    let four = All-append S atts meta three.1 in
    record { directory = one.0; tiles = two.0; attdir = three.0; attachments = four.0; metadata = four.1 }

pub reaches_local : (a b : List ℕ) (live : Live) → SameLive a b live → Reaches a live → Reaches b live
reaches_local a b live same reaches =
    let parts = same_parts a b live same in
    record {
      header = header_same a b live.header reaches.header same.header same.behind;
      part = reaches.part;
      directory = option_same (SameExtent a b) (λ (d : Directory). d.segment) live.header.directory _ _
          (λ d s. found_same a b directory_id live.header.directory directory (λ (d : Directory). d.segment) d directory_own s)
          live.directory parts.directory reaches.directory;
      few = reaches.few;
      entries = sym (entries_same a b live.directory parts.directory) ∙ reaches.entries;
      tiles = list_same (SameExtent a b) (λ (t : Tile). t.segment) (λ t. t.entry) (subblock_at a) (subblock_at b)
          (λ t s. found_same a b subblock_id t.entry.position (tile t.entry) (λ (t : Tile). t.segment) t (tile_own t.entry) s)
          live.tiles parts.tiles reaches.tiles;
      attdir = option_same (SameExtent a b) (λ (d : Directory). d.segment) live.header.attachments _ _
          (λ d s. found_same a b attdir_id live.header.attachments attachment_directory (λ (d : Directory). d.segment) d attdir_own s)
          live.attdir parts.attdir reaches.attdir;
      few_attachments = reaches.few_attachments;
      a1_entries = sym (a1_entries_same a b live.attdir parts.attdir) ∙ reaches.a1_entries;
      attachments = list_same (SameExtent a b) (λ (t : AttItem). t.segment) (λ t. t.entry) (attachment_at a) (attachment_at b)
          (λ t s. found_same a b attachment_id t.entry.position (att_item t.entry) (λ (t : AttItem). t.segment) t (att_item_own t.entry) s)
          live.attachments parts.attachments reaches.attachments;
      metadata = option_same (SameExtent a b) (λ (m : MetaItem). m.segment) live.header.metadata _ _
          (λ m s. found_same a b metadata_id live.header.metadata meta_item (λ (m : MetaItem). m.segment) m meta_item_own s)
          live.metadata parts.metadata reaches.metadata;
      disjoint = reaches.disjoint;
    }

pub document_local : (a b : List ℕ) (live : Live) → SameLive a b live → document a live ≡ document b live
document_local a b live same =
    let parts = same_parts a b live same in
    let subblocks : map (subblock_of a) live.tiles ≡ map (subblock_of b) live.tiles =
    map_same (SameExtent a b) (λ (t : Tile). t.segment) (subblock_of a) (subblock_of b) (λ t s. let d : data_of a t.segment ≡ data_of b t.segment = data_same a b t.segment s in cc) live.tiles parts.tiles in
    let attachments : map (attachment_of a) live.attachments ≡ map (attachment_of b) live.attachments =
    map_same (SameExtent a b) (λ (t : AttItem). t.segment) (attachment_of a) (attachment_of b) (λ t s. let d : data_of a t.segment ≡ data_of b t.segment = data_same a b t.segment s in cc) live.attachments parts.attachments in
    let metadata : option_map (metadata_of a) live.metadata ≡ option_map (metadata_of b) live.metadata = metadata_same a b live.metadata parts.metadata in
    cc

-- an image that agrees with one where that one is read shows the same document
pub shows_local : (a b : List ℕ) (live : Live) (d : Document) → SameLive a b live → Reaches a live → d ≡ document a live → Shows b d
shows_local a b live d same reaches is = (live, reaches_local a b live same reaches, is ∙ document_local a b live same)

-- a field of a piece that was read is the field of the image
pub i32_of_part : (bytes : List ℕ) (at n k : ℕ) → k + 4 ≤ n → i32_at (bytes_at bytes at n) k ≡ i32_at bytes (at + k)
unfolding i32_at
i32_of_part bytes at n k fits = let same : bytes_at (bytes_at bytes at n) k 4 ≡ bytes_at bytes (at + k) 4 = part_of_part bytes at n k 4 fits in cc

pub i64_of_part : (bytes : List ℕ) (at n k : ℕ) → k + 8 ≤ n → i64_at (bytes_at bytes at n) k ≡ i64_at bytes (at + k)
unfolding i64_at
i64_of_part bytes at n k fits = let same : bytes_at (bytes_at bytes at n) k 8 ≡ bytes_at bytes (at + k) 8 = part_of_part bytes at n k 8 fits in cc
