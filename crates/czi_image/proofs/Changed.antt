-- A changed index, and what it says of an image.
use Rattle.std.proofs.Common.{◌≡◌, ℕ, pos, ℤ, List, [], ◌∷◌, map, Option, Some, None, option_map, ap, sym, subst, refl, ◌∙◌, ◌+◌, ◌-◌, ◌≤◌, ◌&&◌, ◌==◌, nat_lt, if◌then◌else◌, arith}
use Rattle.std.specs.List.{AllByRecursion}
use Rattle.czi_format.specs.Entry.{Entry, A1}
use Rattle.czi_format.specs.Span.{Span, round32}
use Rattle.czi_format.specs.Segment.{Segment, extent}
use Rattle.czi_format.specs.Live.{Directory, Live}
use Rattle.czi_format.specs.Layout.{Layout, Place}
use Rattle.czi_machine.specs.Change.{Act, changed, kept, mapped, mapped_setting, set, Setting, same, to}
use Rattle.czi_machine.specs.LiveChange.{changed_live, pointer}
use Rattle.czi_machine.proofs.Changing.{map-changed}
use Rattle.czi_num.specs.Span.{span_of}
use Rattle.czi_num.specs.declared.span.Span.{Span as CodeSpan}
use Rattle.czi_seg.specs.declared.file_header.FileHeader.{FileHeader as CodeFileHeader}
use Rattle.czi_image.specs.Applied.{IsChanged, IsSame, directory_after, pointer_after, place_after, layout_after}
use Rattle.czi_image.specs.Change.{acts_of, directory_set, setting_of, live_change_of, directory_in, attdir_in, entries_after, a1s_after}
use Rattle.czi_image.specs.Holds.{Holds, IsHeader, LiesAs, lies_at, extent_of, header_place, directory_place, tile_place, att_item_place, meta_item_place}
use Rattle.czi_image.specs.Spans.{directory_span}
use Rattle.czi_image.specs.View.{tile_of, att_item_of, meta_item_of}
use Rattle.czi_image.specs.declared.change.Change.{Change as CodeChange}
use Rattle.czi_image.specs.declared.change.DirectoryChange.{DirectoryChange}
use Rattle.czi_image.specs.declared.change.DirectoryChange.TheVariants.{Kept, Patched, New}
use Rattle.czi_image.specs.declared.index.Index.{Index}
use Rattle.czi_image.specs.declared.types.DirItem.{DirItem}

all_same : {X : Type 0} {Y : Type 0} (f : X → Y) (xs : List X) → AllByRecursion (λ x. f x ≡ f x) xs
all_same f [] = tt
all_same f (x ∷ xs) = (refl, all_same f xs)

-- what the items of a changed list show
pub map_changed : {X Y : Type 0} (f : X → Y) (c : List (Act X)) (xs : List X) (ys : List Y) → map f xs ≡ ys → map f (changed c xs) ≡ changed (mapped f c) ys
map_changed {Y = Y} f c xs ys is = map-changed f f c xs (all_same f (kept c xs)) ∙ ap (λ (zs : List Y). changed (mapped f c) zs) is

map_set : {X Y : Type 0} (f : X → Y) (c : Setting X) (x : Option X) (y : Option Y) → option_map f x ≡ y → option_map f (set c x) ≡ set (mapped_setting f c) y
map_set f same x y is = is
map_set f (to None) x y is = refl
map_set f (to (Some z)) x y is = refl

-- the metadata's pointer
map_pointer : {X Y : Type 0} (f : X → Y) (segment : Y → Segment) (c : Setting X) (old new : ℤ) → old ≡ new → pointer (λ x. segment (f x)) c old ≡ pointer segment (mapped_setting f c) new
map_pointer f segment same old new is = is
map_pointer f segment (to None) old new is = refl
map_pointer f segment (to (Some x)) old new is = refl

-- where a directory lies afterwards, and the pointer to it
lies_after : (make : Span → Directory) (c : DirectoryChange) (d : Option DirItem) (was : Option Directory) → ((i : DirItem) → extent (make (directory_span i)).segment ≡ directory_span i) → lies_at d ≡ extent_of was
    → lies_at (directory_after c d) ≡ extent_of (set (directory_set make c d) was)
lies_after make Kept d was own is = is
lies_after make Patched None was own is = is
lies_after make Patched (Some d) was own is = ap (λ (s : Span). let o : Option Span = Some s in o) (sym (own d))
lies_after make (New d) old was own is = ap (λ (s : Span). let o : Option Span = Some s in o) (sym (own d))

points_after : (make : Span → Directory) (c : DirectoryChange) (d : Option DirItem) (old new : ℤ) → ((i : DirItem) → extent (make (directory_span i)).segment ≡ directory_span i) → old ≡ new
    → pointer_after c d old ≡ pointer (λ (x : Directory). x.segment) (directory_set make c d) new
points_after make Kept d old new own is = is
points_after make Patched None old new own is = is
points_after make Patched (Some d) old new own is = ap (λ (s : Span). pos s.at) (sym (own d))
points_after make (New d) was old new own is = ap (λ (s : Span). pos s.at) (sym (own d))

-- a directory in a span has its extent
long_enough : (n : ℕ) → 32 ≤ n → 32 + (n - 32) ≡ n
long_enough n h = omega arith

directory_own : (es : List Entry) (i : DirItem) → extent (directory_in (directory_span i) es).segment ≡ directory_span i
directory_own es i = ap (λ (n : ℕ). let s : Span = record { at = i.span.at; len = n } in s) (long_enough i.span.len i.long)

attdir_own : (es : List A1) (i : DirItem) → extent (attdir_in (directory_span i) es).segment ≡ directory_span i
attdir_own es i = ap (λ (n : ℕ). let s : Span = record { at = i.span.at; len = n } in s) (long_enough i.span.len i.long)

pub holds_changed : (c : CodeChange) (free : List CodeSpan) (n : ℕ) (old new : Index) (live : Live) → IsChanged c free n old new → Holds live old → Holds (changed_live (live_change_of c old) live) new
holds_changed c free n old new live is holds =
    let es : List Entry = entries_after c old in
    let as' : List A1 = a1s_after c old in
    let make : Span → Directory = λ s. directory_in s es in
    let make' : Span → Directory = λ s. attdir_in s as' in
    record {
      header = record {
        allocated = ap (λ (h : CodeFileHeader). h.allocated) is.header ∙ holds.header.allocated;
        identity = ap (λ (h : CodeFileHeader). h.identity) is.header ∙ holds.header.identity;
        part = holds.header.part;
        directory = ap (λ (h : CodeFileHeader). h.directory) is.header ∙ points_after make c.directory old.directory _ _ (directory_own es) holds.header.directory;
        metadata = ap (λ (h : CodeFileHeader). h.metadata) is.header ∙ map_pointer meta_item_of (λ m. m.segment) (setting_of c.metadata) _ _ holds.header.metadata;
        attachments = ap (λ (h : CodeFileHeader). h.attachments) is.header ∙ points_after make' c.attdir old.attdir _ _ (attdir_own as') holds.header.attachments;
        pending = ap (λ (h : CodeFileHeader). h.pending) is.header ∙ holds.header.pending;
      };
      directory = ap lies_at is.directory ∙ lies_after make c.directory old.directory live.directory (directory_own es) holds.directory;
      tiles = ap (map tile_of) is.tiles ∙ map_changed tile_of (acts_of c.tiles.items) old.tiles.items live.tiles holds.tiles;
      attdir = ap lies_at is.attdir ∙ lies_after make' c.attdir old.attdir live.attdir (attdir_own as') holds.attdir;
      attachments = ap (map att_item_of) is.attachments ∙ map_changed att_item_of (acts_of c.attachments.items) old.attachments.items live.attachments holds.attachments;
      metadata = ap (option_map meta_item_of) is.metadata ∙ map_set meta_item_of (setting_of c.metadata) old.metadata live.metadata holds.metadata;
    }

places_after : (c : DirectoryChange) (d : Option DirItem) (p : Option Place) → option_map directory_place d ≡ p → option_map directory_place (directory_after c d) ≡ place_after c p
places_after Kept d p is = is
places_after Patched d p is = is
places_after (New d) old p is = refl

walks_after : (a b a' b' n : ℕ) → a ≡ a' → b ≡ b' → (if (round32 b == round32 a) && nat_lt a n then n else b) ≡ (if (round32 b' == round32 a') && nat_lt a' n then n else b')
walks_after a b a' b' n p q = λ i. if (round32 (q i) == round32 (p i)) && nat_lt (p i) n then n else q i

pub lies_changed : (c : CodeChange) (free : List CodeSpan) (n : ℕ) (old new : Index) (l : Layout) → IsChanged c free n old new → LiesAs l old → LiesAs (layout_after c (map span_of free) n l) new
lies_changed c free n old new l is lies = record {
  length = is.length;
  header = ap header_place is.header ∙ lies.header;
  directory = ap (option_map directory_place) is.directory ∙ places_after c.directory old.directory l.directory lies.directory;
  attdir = ap (option_map directory_place) is.attdir ∙ places_after c.attdir old.attdir l.attdir lies.attdir;
  metadata = ap (option_map meta_item_place) is.metadata ∙ map_set meta_item_place (setting_of c.metadata) old.metadata l.metadata lies.metadata;
  subblocks = ap (map tile_place) is.tiles ∙ map_changed tile_place (acts_of c.tiles.items) old.tiles.items l.subblocks lies.subblocks;
  attachments = ap (map att_item_place) is.attachments ∙ map_changed att_item_place (acts_of c.attachments.items) old.attachments.items l.attachments lies.attachments;
  walk_end = is.walk_end ∙ walks_after old.length old.walk_end l.length l.walk_end n lies.length lies.walk_end;
  deleted = ap (map span_of) is.extents;
  unknown = is.unknown ∙ lies.unknown;
}

pub holds_still : (old new : Index) (live : Live) → IsSame old new → Holds live old → Holds live new
holds_still old new live is holds = record {
  header = subst (IsHeader live.header) (sym is.header) holds.header;
  directory = ap lies_at is.directory ∙ holds.directory;
  tiles = ap (map tile_of) is.tiles ∙ holds.tiles;
  attdir = ap lies_at is.attdir ∙ holds.attdir;
  attachments = ap (map att_item_of) is.attachments ∙ holds.attachments;
  metadata = ap (option_map meta_item_of) is.metadata ∙ holds.metadata;
}

pub lies_still : (old new : Index) (l : Layout) → IsSame old new → LiesAs l old → LiesAs l new
lies_still old new l is lies = record {
  length = is.length ∙ lies.length;
  header = ap header_place is.header ∙ lies.header;
  directory = ap (option_map directory_place) is.directory ∙ lies.directory;
  attdir = ap (option_map directory_place) is.attdir ∙ lies.attdir;
  metadata = ap (option_map meta_item_place) is.metadata ∙ lies.metadata;
  subblocks = ap (map tile_place) is.tiles ∙ lies.subblocks;
  attachments = ap (map att_item_place) is.attachments ∙ lies.attachments;
  walk_end = is.walk_end ∙ lies.walk_end;
  deleted = ap (map span_of) is.extents ∙ lies.deleted;
  unknown = is.unknown ∙ lies.unknown;
}
