-- What an index says of an image: what the pointers of the file header reach, and where everything lies.
use Rattle.std.specs.Prelude.{◌≡◌, ℕ, ◌+◌, ◌<◌, ◌≤◌, pos, List, map, length, slice_index, Option, option_map, true}
use Rattle.czi_format.specs.Span.{Span}
use Rattle.czi_format.specs.Segment.{Segment, extent}
use Rattle.czi_format.specs.Live.{FileHeader, Directory, Live, update_pending}
use Rattle.czi_format.specs.Layout.{Place, Layout, layout}
use Rattle.czi_format.specs.Shows.{Reaches}
use Rattle.czi_format.specs.Walk.{IsWalk}
use Rattle.czi_num.specs.Span.{span_of}
use Rattle.czi_seg.specs.declared.file_header.FileHeader.{FileHeader as CodeFileHeader}
use Rattle.czi_image.specs.declared.types.Tile.{Tile as CodeTile}
use Rattle.czi_image.specs.declared.types.AttItem.{AttItem as CodeAttItem}
use Rattle.czi_image.specs.declared.types.MetaItem.{MetaItem as CodeMetaItem}
use Rattle.czi_image.specs.declared.types.DirItem.{DirItem}
use Rattle.czi_image.specs.declared.index.Index.{Index}
use Rattle.czi_image.specs.Spans.{header_span, directory_span, tile_span, att_item_span, meta_item_span}
use Rattle.czi_image.specs.View.{tile_of, att_item_of, meta_item_of}
use Rattle.czi_format.specs.declared.numbers.TheConstants.{UPDATE_PENDING}

-- the file header of a first part, with no update pending
pub record IsHeader (header : FileHeader) (h : CodeFileHeader) : Type 0 where
  pub allocated : h.allocated ≡ header.segment.allocated
  pub identity : h.identity ≡ header.identity
  pub part : header.part ≡ pos 0
  pub directory : h.directory ≡ header.directory
  pub metadata : h.metadata ≡ header.metadata
  pub attachments : h.attachments ≡ header.attachments
  pub pending : h.pending ≡ pos 0

-- where a directory lies
abbrev pub lies_at : Option DirItem → Option Span
lies_at item = option_map directory_span item

abbrev pub extent_of : Option Directory → Option Span
extent_of dir = option_map (λ (d : Directory). extent d.segment) dir

-- The index holds what the pointers reach: the fields, the places of the contents, and the items' headers.
pub record Holds (live : Live) (x : Index) : Type 0 where
  pub header : IsHeader live.header x.header
  pub directory : lies_at x.directory ≡ extent_of live.directory
  pub tiles : map tile_of x.tiles.items ≡ live.tiles
  pub attdir : lies_at x.attdir ≡ extent_of live.attdir
  pub attachments : map att_item_of x.attachments.items ≡ live.attachments
  pub metadata : option_map meta_item_of x.metadata ≡ live.metadata

-- places, as the index has them
abbrev pub header_place : CodeFileHeader → Place
header_place h = record { span = header_span h; walked = true }

abbrev pub directory_place : DirItem → Place
directory_place d = record { span = directory_span d; walked = d.walked }

abbrev pub tile_place : CodeTile → Place
tile_place t = record { span = tile_span t; walked = t.walked }

abbrev pub att_item_place : CodeAttItem → Place
att_item_place a = record { span = att_item_span a; walked = a.walked }

abbrev pub meta_item_place : CodeMetaItem → Place
meta_item_place m = record { span = meta_item_span m; walked = m.walked }

-- The index has this layout; of the unknown segments it has the number.
pub record LiesAs (l : Layout) (x : Index) : Type 0 where
  pub length : x.length ≡ l.length
  pub header : header_place x.header ≡ l.header
  pub directory : option_map directory_place x.directory ≡ l.directory
  pub attdir : option_map directory_place x.attdir ≡ l.attdir
  pub metadata : option_map meta_item_place x.metadata ≡ l.metadata
  pub subblocks : map tile_place x.tiles.items ≡ l.subblocks
  pub attachments : map att_item_place x.attachments.items ≡ l.attachments
  pub walk_end : x.walk_end ≡ l.walk_end
  pub deleted : map span_of x.extents.items ≡ l.deleted
  pub unknown : x.unknown ≡ Rattle.std.specs.Prelude.length l.unknown

-- the four bytes of UpdatePending are 0
abbrev pub IsSettled : List ℕ → Type 0
IsSettled image = (k : ℕ) → UPDATE_PENDING ≤ k → k < UPDATE_PENDING + 4 → slice_index image k ≡ 0

-- The image shows a document and no update is pending; the index holds what its pointers reach, and its layout.
pub record Indexes (image : List ℕ) (x : Index) : Type 0 where
  pub live : Live
  pub walk : List Segment
  pub reaches : Reaches image live
  pub idle : update_pending image ≡ pos 0
  pub settled : IsSettled image
  pub walks : IsWalk image walk
  pub holds : Holds live x
  pub lies : LiesAs (layout (Rattle.std.specs.Prelude.length image) live walk) x
