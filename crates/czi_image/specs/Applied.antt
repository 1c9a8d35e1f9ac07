-- An index after a change, and what it says of an image.
use Rattle.std.specs.Prelude.{◌≡◌, ℕ, suc, ◌+◌, ◌*◌, ◌≤◌, ◌^◌, pos, List, map, length, Bool, ◌&&◌, nat_lt, ℤ, Option, Some, None, if◌then◌else◌, vec_len, vec_capacity}
use Rattle.std.specs.List.{AllByRecursion}
use Rattle.czi_format.specs.Layout.{Layout, Place}
use Rattle.czi_format.specs.Live.{Live}
use Rattle.czi_format.specs.Span.{Span, AreDisjoint, end_of}
use Rattle.czi_format.specs.Walk.{goes_on}
use Rattle.czi_format.specs.declared.numbers.TheConstants.{LONGEST_ENTRY}
use Rattle.czi_machine.specs.Change.{changed, mapped, mapped_setting, set}
use Rattle.czi_machine.specs.Places.{walk_goes_on}
use Rattle.czi_machine.specs.LiveChange.{changed_live, pointer}
use Rattle.czi_num.specs.Span.{span_of}
use Rattle.czi_num.specs.declared.span.Span.{Span as CodeSpan}
use Rattle.czi_image.specs.Change.{AreWithin, acts_of, setting_of, live_change_of}
use Rattle.czi_image.specs.Holds.{Holds, LiesAs, directory_place, tile_place, att_item_place, meta_item_place}
use Rattle.czi_image.specs.Spans.{AreFree, live_spans}
use Rattle.czi_image.specs.Summary.{entries_len}
use Rattle.czi_image.specs.View.{meta_item_of, tile_of}
use Rattle.czi_image.specs.declared.change.Change.{Change}
use Rattle.czi_image.specs.declared.change.DirectoryChange.{DirectoryChange}
use Rattle.czi_image.specs.declared.change.DirectoryChange.TheVariants.{Kept, Patched, New}
use Rattle.czi_image.specs.declared.index.Index.{Index}
use Rattle.czi_image.specs.declared.types.DirItem.{DirItem}
use Rattle.czi_image.specs.declared.types.MetaItem.{MetaItem}

-- the directory, and its pointer, after a change
abbrev pub directory_after : DirectoryChange → Option DirItem → Option DirItem
directory_after Kept old = old
directory_after Patched old = old
directory_after (New d) old = Some d

abbrev pub own_position : Option DirItem → ℤ → ℤ
own_position None old = old
own_position (Some d) old = pos d.span.at

abbrev pub pointer_after : DirectoryChange → Option DirItem → ℤ → ℤ
pointer_after Kept was old = old
pointer_after Patched was old = own_position was old
pointer_after (New d) was old = pos d.span.at

-- the live extents after a change
abbrev pub live_after : Change → Index → List Span
live_after c x = live_spans x.header (directory_after c.directory x.directory) (changed (acts_of c.tiles.items) x.tiles.items) (directory_after c.attdir x.attdir) (changed (acts_of c.attachments.items) x.attachments.items) (set (setting_of c.metadata) x.metadata)

-- the walk goes on behind the length
abbrev pub walks_on : Index → Bool
walks_on x = goes_on x.walk_end x.length

abbrev pub walk_end_after : Index → ℕ → ℕ
walk_end_after x n = if walks_on x && nat_lt x.length n then n else x.walk_end

-- The change comes to places that there are. What is then live lies within the length, no two of it meet, and none of it
-- meets an extent; the lists are within their limits.
pub record CanChange (c : Change) (extents : List Span) (n : ℕ) (x : Index) : Type 0 where
  pub tiles : AreWithin c.tiles.items (length x.tiles.items)
  pub attachments : AreWithin c.attachments.items (length x.attachments.items)
  pub few_tiles : length (changed (acts_of c.tiles.items) x.tiles.items) ≤ 2 ^ 20
  pub few_attachments : length (changed (acts_of c.attachments.items) x.attachments.items) ≤ 2 ^ 12
  pub longer : x.length ≤ n
  pub small : n ≤ 2 ^ 62
  pub inside : AllByRecursion (λ s. end_of s ≤ n) (live_after c x)
  pub disjoint : AreDisjoint (live_after c x)
  pub free : AreFree n (live_after c x) extents

-- there is room for as many more items as there are acts, and for so many extents
pub record HasRoom (c : Change) (count : ℕ) (x : Index) : Type 0 where
  pub tiles : vec_len x.tiles + length c.tiles.items ≤ vec_capacity x.tiles
  pub numbers : vec_len x.summary.numbers + length c.tiles.items ≤ vec_capacity x.summary.numbers
  pub attachments : vec_len x.attachments + length c.attachments.items ≤ vec_capacity x.attachments
  pub extents : count ≤ vec_capacity x.extents

-- there is memory for so many subblocks with the numbers of their keys, so many attachments and so many extents in all
pub record HasCapacity (subblocks attached free : ℕ) (x : Index) : Type 0 where
  pub tiles : subblocks ≤ vec_capacity x.tiles
  pub numbers : subblocks ≤ vec_capacity x.summary.numbers
  pub attachments : attached ≤ vec_capacity x.attachments
  pub extents : free ≤ vec_capacity x.extents

-- no list of the new index has less memory than that of the old one
pub record KeepsRoom (old new : Index) : Type 0 where
  pub tiles : vec_capacity old.tiles ≤ vec_capacity new.tiles
  pub numbers : vec_capacity old.summary.numbers ≤ vec_capacity new.summary.numbers
  pub attachments : vec_capacity old.attachments ≤ vec_capacity new.attachments
  pub extents : vec_capacity old.extents ≤ vec_capacity new.extents

-- The new index is the old one after a change, with these free extents and this length.
pub record IsChanged (c : Change) (free : List CodeSpan) (n : ℕ) (old new : Index) : Type 0 where
  pub header : new.header ≡ record old.header {
    directory = pointer_after c.directory old.directory old.header.directory;
    metadata = pointer (λ (m : MetaItem). (meta_item_of m).segment) (setting_of c.metadata) old.header.metadata;
    attachments = pointer_after c.attdir old.attdir old.header.attachments;
  }
  pub length : new.length ≡ n
  pub directory : new.directory ≡ directory_after c.directory old.directory
  pub tiles : new.tiles.items ≡ changed (acts_of c.tiles.items) old.tiles.items
  pub attdir : new.attdir ≡ directory_after c.attdir old.attdir
  pub attachments : new.attachments.items ≡ changed (acts_of c.attachments.items) old.attachments.items
  pub metadata : new.metadata ≡ set (setting_of c.metadata) old.metadata
  pub extents : new.extents.items ≡ free
  pub unknown : new.unknown ≡ old.unknown
  pub walk_end : new.walk_end ≡ walk_end_after old n

-- The new index has at most so many subblocks and attachments more, and at most the longest entry more for each such subblock.
pub record GrowsBy (subblocks attached : ℕ) (old new : Index) : Type 0 where
  pub tiles : length new.tiles.items ≤ length old.tiles.items + subblocks
  pub attachments : length new.attachments.items ≤ length old.attachments.items + attached
  pub entries : entries_len (map tile_of new.tiles.items) ≤ entries_len (map tile_of old.tiles.items) + LONGEST_ENTRY * subblocks

-- The new index is the old one; only how much memory its lists have may differ.
pub record IsSame (old new : Index) : Type 0 where
  pub header : new.header ≡ old.header
  pub length : new.length ≡ old.length
  pub directory : new.directory ≡ old.directory
  pub tiles : new.tiles.items ≡ old.tiles.items
  pub attdir : new.attdir ≡ old.attdir
  pub attachments : new.attachments.items ≡ old.attachments.items
  pub metadata : new.metadata ≡ old.metadata
  pub extents : new.extents.items ≡ old.extents.items
  pub unknown : new.unknown ≡ old.unknown
  pub walk_end : new.walk_end ≡ old.walk_end

-- where everything lies after a change
abbrev pub place_after : DirectoryChange → Option Place → Option Place
place_after Kept old = old
place_after Patched old = old
place_after (New d) old = Some (directory_place d)

abbrev pub layout_after : Change → List Span → ℕ → Layout → Layout
layout_after c deleted n l = record {
  length = n;
  header = l.header;
  directory = place_after c.directory l.directory;
  attdir = place_after c.attdir l.attdir;
  metadata = set (mapped_setting meta_item_place (setting_of c.metadata)) l.metadata;
  subblocks = changed (mapped tile_place (acts_of c.tiles.items)) l.subblocks;
  attachments = changed (mapped att_item_place (acts_of c.attachments.items)) l.attachments;
  walk_end = if walk_goes_on l && nat_lt l.length n then n else l.walk_end;
  deleted = deleted;
  unknown = l.unknown;
}

-- a changed index holds what the change makes of what is live
abbrev pub HoldsChanged : Type 0
HoldsChanged = (c : Change) (free : List CodeSpan) (n : ℕ) (old new : Index) (live : Live) → IsChanged c free n old new → Holds live old → Holds (changed_live (live_change_of c old) live) new

-- and it has the layout afterwards
abbrev pub LiesChanged : Type 0
LiesChanged = (c : Change) (free : List CodeSpan) (n : ℕ) (old new : Index) (l : Layout) → IsChanged c free n old new → LiesAs l old → LiesAs (layout_after c (map span_of free) n l) new

-- an index that is the same holds and has the same
abbrev pub HoldsStill : Type 0
HoldsStill = (old new : Index) (live : Live) → IsSame old new → Holds live old → Holds live new

abbrev pub LiesStill : Type 0
LiesStill = (old new : Index) (l : Layout) → IsSame old new → LiesAs l old → LiesAs l new

-- each act of a change brings one item at most
abbrev pub GrowsWithActs : Type 0
GrowsWithActs = (subblocks attached : ℕ) (c : Change) (free : List CodeSpan) (n : ℕ) (old new : Index) → length c.tiles.items ≤ subblocks → length c.attachments.items ≤ attached → IsChanged c free n old new → GrowsBy subblocks attached old new

-- memory that there was is still there where room is kept
abbrev pub CapacityLasts : Type 0
CapacityLasts = (subblocks attached free : ℕ) (old new : Index) → KeepsRoom old new → HasCapacity subblocks attached free old → HasCapacity subblocks attached free new

-- where each list has at most one act, memory for one change more leaves memory for those to come
abbrev pub CapacityLeft : Type 0
CapacityLeft = (more free : ℕ) (c : Change) (extents : List CodeSpan) (n : ℕ) (old new : Index) → length c.tiles.items ≤ 1 → length c.attachments.items ≤ 1 → IsChanged c extents n old new → KeepsRoom old new
    → HasCapacity (length old.tiles.items + suc more) (length old.attachments.items + suc more) free old → HasCapacity (length new.tiles.items + more) (length new.attachments.items + more) free new

-- memory for all that there is and for one more with each act is room for a change
abbrev pub CapacitySuffices : Type 0
CapacitySuffices = (subblocks attached free : ℕ) (c : Change) (count : ℕ) (x : Index) → length x.tiles.items + length c.tiles.items ≤ subblocks → length x.attachments.items + length c.attachments.items ≤ attached → count ≤ free → HasCapacity subblocks attached free x → HasRoom c count x
