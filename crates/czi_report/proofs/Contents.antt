-- The contents of what is live have their lengths: they lie in their segments.
use Rattle.std.proofs.Common.{◌≡◌, ℕ, zero, suc, ◌+◌, ◌≤◌, ℤ, pos, negsuc, List, [], ◌∷◌, map, length, Option, Some, None, ap, subst, arith}
use Rattle.std.proofs.lemmas.Bool.{leb-true}
use Rattle.std.specs.List.{AllByRecursion}
use Rattle.czi_format.specs.Contents.{sub_head, sub_end, meta_head, meta_end, att_size}
use Rattle.czi_format.specs.Entry.{Entry, A1}
use Rattle.czi_format.specs.Live.{Live, Tile, AttItem, MetaItem, tile, att_item, meta_item}
use Rattle.czi_format.specs.Partial.{none_or}
use Rattle.czi_format.specs.Segment.{Segment, sound_segment, in_segment, data_of, subblock_id, attachment_id, metadata_id}
use Rattle.czi_format.specs.Shows.{Reaches, subblock_at, attachment_at}
use Rattle.czi_format.proofs.Limits.{length-bytes_at}
use Rattle.czi_format.proofs.Local.{IsItsOwn, tile_own, att_item_own, meta_item_own}
use Rattle.czi_format.proofs.Readings.{bind_some, given_some, is_sound, segment_stands}

-- what is read needs so much room, and has it
unfoldable Needs : {A : Type 0} → (Segment → List ℕ → Option A) → (A → Segment) → (A → ℕ) → Type 0
Needs {A} read segment_of room = (s : Segment) (bytes : List ℕ) (y : A) → read s bytes ≡ Some y → room y ≤ (segment_of y).allocated

tile_needs : (e : Entry) → Needs (tile e) (λ t. t.segment) (λ t. sub_end t.head)
unfolding tile Needs
tile_needs e s bytes y found =
    let h = bind_some (sub_head bytes) _ y found in
    let g = given_some _ _ y h.2 in
    subst (λ (t : Tile). sub_end t.head ≤ t.segment.allocated) g.1 (leb-true _ _ g.0)

att_item_needs : (e : A1) → Needs (att_item e) (λ a. a.segment) (λ a. 256 + a.size)
unfolding att_item Needs
att_item_needs e s bytes y found =
    let h = bind_some (att_size bytes) _ y found in
    let g = given_some _ _ y h.2 in
    subst (λ (a : AttItem). 256 + a.size ≤ a.segment.allocated) g.1 (leb-true _ _ g.0)

meta_item_needs : Needs meta_item (λ m. m.segment) (λ m. meta_end m.head)
unfolding meta_item Needs
meta_item_needs s bytes y found =
    let h = bind_some (meta_head bytes) _ y found in
    let g = given_some _ _ y h.2 in
    subst (λ (m : MetaItem). meta_end m.head ≤ m.segment.allocated) g.1 (leb-true _ _ g.0)

found_has : {A : Type 0} (image id : List ℕ) (position : ℤ) (read : Segment → List ℕ → Option A) (segment_of : A → Segment) (room : A → ℕ) (x : A)
    → IsItsOwn read segment_of → Needs read segment_of room → in_segment image id position read ≡ Some x → room x ≤ length (data_of image (segment_of x))
unfolding in_segment IsItsOwn Needs
found_has image id position read segment_of room x its needs found =
    let s = bind_some (sound_segment image id position) (λ s. read s (data_of image s)) x found in
    let own : segment_of x ≡ s.0 = its s.0 (data_of image s.0) x s.2 in
    let stands = segment_stands image s.0.at s.0 (is_sound image id position s.0 s.1).here in
    let long : length (data_of image s.0) ≡ s.0.allocated = length-bytes_at image (s.0.at + 32) s.0.allocated (omega (arith, stands.inside)) in
    let size : (segment_of x).allocated ≡ s.0.allocated = ap (λ (t : Segment). t.allocated) own in
    let whole : length (data_of image (segment_of x)) ≡ length (data_of image s.0) = ap (λ (t : Segment). length (data_of image t)) own in
    omega (arith, needs s.0 (data_of image s.0) x s.2, long, size, whole)

each_has : {Y : Type 0} (P : Y → Type 0) (read : Y → Option Y) → ((y : Y) → read y ≡ Some y → P y) → (ys : List Y) → map read ys ≡ map Some ys → AllByRecursion P ys
each_has P read each [] e = tt
each_has P read each (y ∷ ys) e =
    let first : read y ≡ Some y = cc in
    let rest : map read ys ≡ map Some ys = cc in
    (each y first, each_has P read each ys rest)

found_some : {Y : Type 0} (z : ℤ) (f : Option Y) (y : Y) → none_or z f ≡ Some (Some y) → f ≡ Some y
found_some (pos zero) f y e = cc
found_some (pos (suc n)) None y e = cc
found_some (pos (suc n)) (Some x) y e = cc
found_some (negsuc n) None y e = cc
found_some (negsuc n) (Some x) y e = cc

module _ (image : List ℕ) (live : Live) (reaches : Reaches image live) where
  pub tiles_have : AllByRecursion (λ (t : Tile). sub_end t.head ≤ length (data_of image t.segment)) live.tiles
  tiles_have = each_has (λ (t : Tile). sub_end t.head ≤ length (data_of image t.segment)) (λ (t : Tile). subblock_at image t.entry)
      (λ t found. found_has image subblock_id t.entry.position (tile t.entry) (λ (t : Tile). t.segment) (λ (t : Tile). sub_end t.head) t (tile_own t.entry) (tile_needs t.entry) found) live.tiles reaches.tiles

  pub attachments_have : AllByRecursion (λ (a : AttItem). 256 + a.size ≤ length (data_of image a.segment)) live.attachments
  attachments_have = each_has (λ (a : AttItem). 256 + a.size ≤ length (data_of image a.segment)) (λ (a : AttItem). attachment_at image a.entry)
      (λ a found. found_has image attachment_id a.entry.position (att_item a.entry) (λ (a : AttItem). a.segment) (λ (a : AttItem). 256 + a.size) a (att_item_own a.entry) (att_item_needs a.entry) found) live.attachments reaches.attachments

  pub metadata_has : (m : MetaItem) → live.metadata ≡ Some m → meta_end m.head ≤ length (data_of image m.segment)
  metadata_has m is =
      let found = found_some live.header.metadata (in_segment image metadata_id live.header.metadata meta_item) m (subst (λ (o : Option MetaItem). none_or live.header.metadata (in_segment image metadata_id live.header.metadata meta_item) ≡ Some o) is reaches.metadata) in
      found_has image metadata_id live.header.metadata meta_item (λ (m : MetaItem). m.segment) (λ (m : MetaItem). meta_end m.head) m meta_item_own meta_item_needs found
