-- A subblock that an edit brings, and where it comes in the order of the directory.
use Rattle.std.specs.Prelude.{◌≡◌, ℕ, ◌+◌, ◌<◌, ◌≤◌, List, length, max}
use Rattle.czi_doc.specs.View.{info_of}
use Rattle.czi_doc.specs.declared.items.EntryInfo.{EntryInfo as CodeEntryInfo}
use Rattle.czi_format.specs.Document.{Subblock}
use Rattle.czi_format.specs.Entry.{info_len}
use Rattle.czi_format.specs.Segment.{subblock_id}
use Rattle.czi_image.specs.View.{tile_of}
use Rattle.czi_image.specs.declared.change.Act.{Act as CodeAct}
use Rattle.czi_image.specs.declared.change.Act.TheVariants.{Put, Into}
use Rattle.czi_image.specs.declared.types.Tile.{Tile}
use Rattle.czi_num.specs.declared.span.Span.{Span as CodeSpan}
use Rattle.czi_plan.specs.Changing.{entries_in, new_sizes, tiles_before, tiles_behind, tiles_leaving}
use Rattle.czi_plan.specs.Directory.{back_in, middle_in}
use Rattle.czi_plan.specs.Kind.{Kind}
use Rattle.czi_plan.specs.Listing.{AreSizes, entries_len}
use Rattle.czi_plan.specs.declared.tiles.Sizes.{Sizes}
use Rattle.czi_plan.specs.declared.subblock.NewSubblock.{NewSubblock}
use Rattle.czi_plan.specs.declared.bringing.Seat.{Seat}
use Rattle.czi_plan.specs.declared.bringing.Seat.TheVariants.{Before, Over}
use Rattle.czi_format.specs.declared.numbers.TheConstants.{CONTENTS}

-- the subblock with these contents
abbrev pub subblock_in : CodeEntryInfo → (meta pixels tail : List ℕ) → Subblock
subblock_in info meta pixels tail = record { info = info_of info; meta = meta; pixels = pixels; tail = tail }

abbrev pub subblock_of : NewSubblock → Subblock
subblock_of n = subblock_in n.info.now n.meta.now n.pixels.now n.tail.now

-- how long its data is without padding
abbrev pub used_of_new : Subblock → ℕ
used_of_new s = max CONTENTS (16 + info_len s.info) + length s.meta + length s.pixels + length s.tail

-- what it does at its place
abbrev pub act_at : {X : Type 0} → Seat → X → CodeAct X
act_at (Over i) x = Put i x
act_at (Before i) x = Into i x

-- how long the parts of the directory's data are after an act that brings entries as long as those of these
abbrev pub AreSizesOf : {C E S : Type 0} → Kind C E S → Sizes → CodeAct S → List C → Type 0
AreSizesOf {E = E} k s b items = (come : List E) → entries_len k come ≡ new_sizes k b
    → AreSizes k s (entries_in k (tiles_before b items)) (middle_in k.len come (entries_in k (tiles_leaving b items)) (entries_in k (tiles_behind b items))) (back_in k.len come (entries_in k (tiles_leaving b items)) (entries_in k (tiles_behind b items)))

-- the place is one of a list of so many, which has room where it may have so many at most
abbrev pub IsSeat : Seat → ℕ → ℕ → Type 0
IsSeat (Over i) n most = i < n
IsSeat (Before i) n most = (i ≤ n) × (n < most)

-- The tile of a subblock that lies in a span.
pub record IsTileOf (s : Subblock) (span : CodeSpan) (t : Tile) : Type 0 where
  pub info : info_of t.info ≡ s.info
  pub span_is : t.span ≡ span
  pub id : (tile_of t).segment.id ≡ subblock_id
  pub begin : t.begin ≡ t.span.at + 32 + max CONTENTS (16 + info_len s.info)
  pub meta : t.meta ≡ length s.meta
  pub pixels : t.pixels ≡ length s.pixels
  pub tail : t.tail ≡ length s.tail
  pub used : t.head.used ≡ used_of_new s
