-- The live segments of an image stand in it.
use Rattle.std.proofs.Common.{◌≡◌, ℕ, zero, suc, ◌+◌, ◌≤◌, ℤ, pos, negsuc, List, [], ◌∷◌, ◌++◌, map, length, Option, Some, None, option_map, sym, ap, ◌∙◌, subst, arith}
use Rattle.std.specs.Prelude.{option_to_list}
use Rattle.std.specs.List.{AllByRecursion}
use Rattle.std.proofs.lemmas.Bool.{leb-true}
use Rattle.czi_format.specs.Partial.{none_or}
use Rattle.czi_format.specs.Segment.{Segment, header_at, segment_at, sound_segment, in_segment, data_of, directory_id, attdir_id, metadata_id}
use Rattle.czi_format.specs.Live.{Live, FileHeader, Directory, Tile, AttItem, MetaItem, front_header, file_header, header_fields, directory, attachment_directory, tile, att_item, meta_item, segments}
use Rattle.czi_format.specs.Shows.{Reaches, subblock_at, attachment_at}
use Rattle.czi_format.proofs.Readings.{bind_some, given_some, is_sound, header_is_read}
use Rattle.czi_format.proofs.Local.{IsItsOwn, tile_own, att_item_own, meta_item_own, directory_own, attdir_own}
use Rattle.czi_walk.proofs.Segments.{fits}

-- the segment stands at its place
abbrev pub Here : List ℕ → Segment → Type 0
Here image s = segment_at image s.at ≡ Some s

found_stands : {A : Type 0} (image id : List ℕ) (position : ℤ) (read : Segment → List ℕ → Option A) (segment_of : A → Segment) (x : A) → IsItsOwn read segment_of
    → in_segment image id position read ≡ Some x → Here image (segment_of x)
unfolding in_segment IsItsOwn
found_stands image id position read segment_of x its found =
    let s = bind_some (sound_segment image id position) (λ s. read s (data_of image s)) x found in
    let own : segment_of x ≡ s.0 = its s.0 (data_of image s.0) x s.2 in
    subst (Here image) (sym own) (is_sound image id position s.0 s.1).here

some_of : {A : Type 0} (position : ℤ) (found : Option A) (x : A) → none_or position found ≡ Some (Some x) → found ≡ Some x
some_of (pos zero) found x e = cc
some_of (pos (suc n)) None x e = cc
some_of (pos (suc n)) (Some y) x e = cc
some_of (negsuc n) None x e = cc
some_of (negsuc n) (Some y) x e = cc

option_stands : {A : Type 0} (image id : List ℕ) (position : ℤ) (read : Segment → List ℕ → Option A) (segment_of : A → Segment) (o : Option A) → IsItsOwn read segment_of
    → none_or position (in_segment image id position read) ≡ Some o → AllByRecursion (Here image) (option_to_list (option_map segment_of o))
option_stands image id position read segment_of None its found = tt
option_stands image id position read segment_of (Some x) its found = (found_stands image id position read segment_of x its (some_of position (in_segment image id position read) x found), tt)

list_stands : {A : Type 0} (image : List ℕ) (at_entry : A → Option A) (segment_of : A → Segment) → ((x : A) → at_entry x ≡ Some x → Here image (segment_of x))
    → (xs : List A) → map at_entry xs ≡ map Some xs → AllByRecursion (Here image) (map segment_of xs)
list_stands image at_entry segment_of stands [] found = tt
list_stands image at_entry segment_of stands (x ∷ xs) found =
    let here : at_entry x ≡ Some x = cc in
    let rest : map at_entry xs ≡ map Some xs = cc in
    (stands x here, list_stands image at_entry segment_of stands xs rest)

header_stands : (image : List ℕ) (h : FileHeader) → file_header image ≡ Some h → Here image h.segment
unfolding file_header
header_stands image h found =
    let f = bind_some (front_header image) _ h found in
    let g = given_some _ f.0 h f.2 in
    let s = bind_some (header_at image 0) _ f.0 f.1 in
    let t = given_some _ (header_fields image s.0) f.0 s.2 in
    let own : h.segment ≡ s.0 = ap (λ (x : FileHeader). x.segment) (sym (t.1 ∙ g.1)) in
    let inside : 32 + f.0.segment.allocated ≤ length image = leb-true _ _ g.0 in
    let sizes : f.0.segment.allocated ≡ s.0.allocated = ap (λ (x : FileHeader). x.segment.allocated) (sym t.1) in
    let place : s.0.at ≡ 0 = (header_is_read image 0 s.0 s.1).place in
    let stands : segment_at image 0 ≡ Some s.0 = sym (fits image 0 s.0 (sym s.1) (omega (arith, inside, sizes))) in
    subst (Here image) (sym own) (ap (segment_at image) place ∙ stands)

joined : {X : Type 0} (P : X → Type 0) (xs ys : List X) → AllByRecursion P xs → AllByRecursion P ys → AllByRecursion P (xs ++ ys)
joined P [] ys all more = more
joined P (x ∷ xs) ys all more = (all.0, joined P xs ys all.1 more)

-- each live segment stands in the image
pub live_stand : (image : List ℕ) (live : Live) → Reaches image live → AllByRecursion (Here image) (segments live)
live_stand image live r =
    let dir = option_stands image directory_id live.header.directory directory (λ (d : Directory). d.segment) live.directory directory_own r.directory in
    let tiles = list_stands image (λ (t : Tile). subblock_at image t.entry) (λ (t : Tile). t.segment)
    (λ t e. found_stands image _ t.entry.position (tile t.entry) (λ (x : Tile). x.segment) t (tile_own t.entry) e) live.tiles r.tiles in
    let attdir = option_stands image attdir_id live.header.attachments attachment_directory (λ (d : Directory). d.segment) live.attdir attdir_own r.attdir in
    let atts = list_stands image (λ (a : AttItem). attachment_at image a.entry) (λ (a : AttItem). a.segment)
    (λ a e. found_stands image _ a.entry.position (att_item a.entry) (λ (x : AttItem). x.segment) a (att_item_own a.entry) e) live.attachments r.attachments in
    let meta = option_stands image metadata_id live.header.metadata meta_item (λ (m : MetaItem). m.segment) live.metadata meta_item_own r.metadata in
    (header_stands image live.header r.header, joined (Here image) _ _ dir (joined (Here image) _ _ tiles (joined (Here image) _ _ attdir (joined (Here image) _ _ atts meta))))
