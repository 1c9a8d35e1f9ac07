-- A plan that can be carried out, whatever it is for.
use Rattle.std.specs.Prelude.{◌≡◌, ◌⊎◌, ℕ, ◌+◌, ◌≤◌, ◌<◌, ◌^◌, List, [], ◌++◌, not, Option, map, filter, length, option_map, option_to_list}
use Rattle.std.specs.List.{AllByRecursion}
use Rattle.czi_format.specs.Space.{without, deleted_after}
use Rattle.czi_format.specs.Span.{Span, span_le, sorted}
use Rattle.czi_format.specs.Layout.{Place}
use Rattle.czi_image.specs.Applied.{CanChange}
use Rattle.czi_image.specs.Change.{acts_of, setting_of}
use Rattle.czi_image.specs.Holds.{directory_place, tile_place, att_item_place, meta_item_place}
use Rattle.czi_image.specs.declared.change.Change.{Change}
use Rattle.czi_image.specs.Spans.{live_spans}
use Rattle.czi_image.specs.declared.change.DirectoryChange.{DirectoryChange}
use Rattle.czi_image.specs.declared.change.DirectoryChange.TheVariants.{Kept, Patched, New}
use Rattle.czi_image.specs.declared.index.Index.{Index}
use Rattle.czi_image.specs.declared.types.DirItem.{DirItem}
use Rattle.czi_links.specs.Record.{Bytes, AreRising, EndWithin, encoded_len}
use Rattle.czi_machine.specs.Change.{omitted, set_omitted}
use Rattle.czi_machine.specs.Cover.{cover}
use Rattle.czi_machine.specs.Holes.{holes}
use Rattle.czi_machine.specs.Places.{can_be_used}
use Rattle.czi_machine.specs.State.{spans_of}
use Rattle.czi_machine.specs.Written.{piece_span}
use Rattle.czi_num.specs.Span.{span_of}
use Rattle.czi_region.specs.Pieces.{IsPiece}
use Rattle.czi_region.specs.declared.block.Piece.{Piece as Range}
use Rattle.czi_region.specs.declared.block.Region.{Region}
use Rattle.czi_space.specs.State.{MapState}
use Rattle.czi_plan.specs.Geometry.{AreUsed, AreFreed}
use Rattle.czi_plan.specs.Pieces.{AreNear, last_end, pieces_of, writes_of}
use Rattle.czi_plan.specs.declared.plan.EditPlan.{EditPlan}
use Rattle.czi_links.specs.declared.numbers.TheConstants.{FIRST_PLACE, SLOT_LEN}
use Rattle.czi_format.specs.declared.numbers.TheConstants.{HEADER_FRONT}

-- each place of it lies in a DELETED extent, past its header and outside the held spans, or at or past the length
abbrev pub LiesFree : MapState → Bytes → Type 0
LiesFree m w = (q : ℕ) → w.place ≤ q → q < w.place + length w.bytes → (1 ≤ cover (holes m.held m.extents) q) ⊎ (m.length ≤ q)

abbrev pub used_of : EditPlan → List Span
used_of p = map span_of p.used.items

abbrev pub freed_of : EditPlan → List Span
freed_of p = map span_of p.freed.items

-- places that can be used again, and those that can't
abbrev pub usable_of : List Place → List Span
usable_of places = spans_of (filter can_be_used places)

abbrev pub dead_of : List Place → List Span
dead_of places = spans_of (filter (λ (p : Place). not (can_be_used p)) places)

-- the items that leave, by list
abbrev pub left_items : Change → Index → List Place
left_items c x = map tile_place (omitted (acts_of c.tiles.items) x.tiles.items)
    ++ (map att_item_place (omitted (acts_of c.attachments.items) x.attachments.items) ++ option_to_list (option_map meta_item_place (set_omitted (setting_of c.metadata) x.metadata)))

-- and then the directories for which there are new ones
abbrev pub left_directory : DirectoryChange → Option DirItem → List Place
left_directory Kept old = []
left_directory Patched old = []
left_directory (New d) old = option_to_list (option_map directory_place old)

abbrev pub left_places : Change → Index → List Place
left_places c x = left_items c x ++ (left_directory c.directory x.directory ++ left_directory c.attdir x.attdir)

-- the DELETED extents afterwards
abbrev pub extents_after : EditPlan → List Span → List Span
extents_after p extents = deleted_after (used_of p) (freed_of p) extents

-- It is brief: at most two spans are used, and two freed, and at most one act is done with each list.
pub record IsBrief (p : EditPlan) : Type 0 where
  pub used : length p.used.items ≤ 2
  pub freed : length p.freed.items ≤ 2
  pub tiles : length p.change.tiles.items ≤ 1
  pub attachments : length p.change.attachments.items ≤ 1

pub record IsPlan (x : Index) (m : MapState) (region : Region) (p : EditPlan) : Type 0 where
  -- the writes are pieces of the region, go where nothing is needed, and leave no long gap
  pub staged : AllByRecursion (λ (w : ℕ × Range). IsPiece region w.1) p.writes.items
  pub free : AllByRecursion (LiesFree m) (writes_of region p)
  pub far : AllByRecursion (λ (w : Bytes). HEADER_FRONT ≤ w.place) (writes_of region p)
  pub near : AreNear m.length (writes_of region p)
  pub reach : p.length ≤ last_end m.length (writes_of region p)
  pub fits : last_end m.length (writes_of region p) ≤ 2 ^ 62
  -- the links rise, end within the length, and their record fits a slot of the journal
  pub rising : AreRising FIRST_PLACE p.links.links
  pub within : EndWithin p.length p.links.links
  pub brief : encoded_len p.links.links ≤ SLOT_LEN
  pub once : (q : ℕ) → cover (map piece_span (pieces_of region p)) q ≤ 1
  -- what is used can be taken out of the map, and then what is freed be put into it, in order of place
  pub takes : AreUsed m.length (used_of p) m.extents
  pub frees : AreFreed m.length (freed_of p) (without (used_of p) m.extents)
  pub in_order : sorted span_le (freed_of p) ≡ freed_of p
  -- that is what leaves and can be used again
  pub freed : freed_of p ≡ sorted span_le (usable_of (left_places p.change x))
  -- of the items that leave those that can be used again are held
  pub held : map span_of p.held.items ≡ usable_of (left_items p.change x)
  -- nothing live lies in what is used, and the index can be changed
  pub apart : (q : ℕ) → cover (live_spans x.header x.directory x.tiles.items x.attdir x.attachments.items x.metadata) q + cover (used_of p) q ≤ 1
  pub can : CanChange p.change (extents_after p m.extents) p.length x
