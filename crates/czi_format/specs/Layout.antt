-- The layout of an image that shows a document: where everything lies.
use Rattle.std.specs.Prelude.{◌≡◌, ℕ, List, map, filter, length, Bool, not, ◌&&◌, ◌==◌, Option, option_map, IsTrue, bytes_eq}
use Rattle.std.specs.List.{list_any, AllByRecursion}
use Rattle.czi_format.specs.Span.{Span, is_aligned, meets}
use Rattle.czi_format.specs.Segment.{Segment, extent, deleted_id}
use Rattle.czi_format.specs.Live.{Live, segments}
use Rattle.czi_format.specs.Shows.{Reaches}
use Rattle.czi_format.specs.Walk.{IsWalk, walk_end}

-- the extent of a live segment, and whether the walk stands on the segment
pub record Place : Type 0 where
  pub span : Span
  pub walked : Bool

pub record Layout : Type 0 where
  pub length : ℕ
  pub header : Place
  pub directory : Option Place
  pub attdir : Option Place
  pub metadata : Option Place
  pub subblocks : List Place
  pub attachments : List Place
  pub walk_end : ℕ
  pub deleted : List Span
  pub unknown : List Span

-- the walk stands on a segment
abbrev pub is_walked : List Segment → Segment → Bool
is_walked walk s = list_any (λ w. w.at == s.at) walk

abbrev pub place_of : List Segment → Segment → Place
place_of walk s = record { span = extent s; walked = is_walked walk s }

-- a DELETED segment that begins and ends at multiples of 32 and meets no live segment
abbrev pub is_free : List Segment → Segment → Bool
is_free live w = bytes_eq w.id deleted_id && is_aligned (extent w) && not (list_any (λ s. meets (extent w) (extent s)) live)

-- neither live nor DELETED
abbrev pub is_unknown : List Segment → Segment → Bool
is_unknown live w = not (bytes_eq w.id deleted_id) && not (list_any (λ s. s.at == w.at) live)

-- the layout of what the pointers reach in an image of this length with this walk
abbrev pub layout : ℕ → Live → List Segment → Layout
layout n live walk = record {
  length = n;
  header = place_of walk live.header.segment;
  directory = option_map (λ d. place_of walk d.segment) live.directory;
  attdir = option_map (λ d. place_of walk d.segment) live.attdir;
  metadata = option_map (λ m. place_of walk m.segment) live.metadata;
  subblocks = map (λ t. place_of walk t.segment) live.tiles;
  attachments = map (λ a. place_of walk a.segment) live.attachments;
  walk_end = walk_end 0 walk;
  deleted = map extent (filter (is_free (segments live)) walk);
  unknown = map extent (filter (is_unknown (segments live)) walk);
}

-- The image shows a document with this layout.
abbrev pub HasLayout : List ℕ → Layout → Type 0
HasLayout image l = (live : Live) × (walk : List Segment) × Reaches image live × IsWalk image walk × (l ≡ layout (length image) live walk)

-- The image shows a document, its walk ends at its end, each segment of the walk begins and ends at a multiple of 32,
-- and the walk stands on every live segment.
pub record IsSteady (image : List ℕ) : Type 0 where
  pub live : Live
  pub walk : List Segment
  pub reaches : Reaches image live
  pub walks : IsWalk image walk
  pub whole : walk_end 0 walk ≡ length image
  pub aligned : AllByRecursion (λ w. IsTrue (is_aligned (extent w))) walk
  pub walked : AllByRecursion (λ s. IsTrue (is_walked walk s)) (segments live)
