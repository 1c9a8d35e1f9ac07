-- The two lists of which an image has a directory: the subblocks, and the attachments.
use Rattle.std.specs.Prelude.{◌≡◌, ℕ, ◌+◌, ◌*◌, ◌≤◌, List, [], ◌∷◌, length, Option}
use Rattle.czi_format.specs.Data.{attachment_data, attdir_data, directory_data, subblock_data}
use Rattle.czi_format.specs.Document.{Attachment, Subblock}
use Rattle.czi_format.specs.Entry.{A1, Entry, IsA1, IsEntry, a1_bytes, a1_len, entry_bytes, entry_len}
use Rattle.czi_format.specs.Layout.{Place}
use Rattle.czi_format.specs.Segment.{Segment, attachment_id, attdir_id, directory_id, subblock_id}
use Rattle.czi_format.specs.Span.{Span}
use Rattle.czi_image.specs.Holds.{att_item_place, tile_place}
use Rattle.czi_image.specs.View.{att_item_of, tile_of}
use Rattle.czi_image.specs.declared.change.Act.{Act as CodeAct}
use Rattle.czi_image.specs.declared.change.Change.{Change as CodeChange}
use Rattle.czi_image.specs.declared.change.DirectoryChange.{DirectoryChange}
use Rattle.czi_image.specs.declared.change.DirectoryChange.TheVariants.{Kept}
use Rattle.czi_image.specs.declared.change.Setting.TheVariants.{Same}
use Rattle.czi_image.specs.declared.index.Index.{Index}
use Rattle.czi_image.specs.declared.types.AttItem.{AttItem}
use Rattle.czi_image.specs.declared.types.DirItem.{DirItem}
use Rattle.czi_image.specs.declared.types.Tile.{Tile}
use Rattle.czi_machine.specs.Places.{attachment_need, subblock_need}
use Rattle.czi_machine.specs.Puts.{IsAttachment, IsSubblock}
use Rattle.czi_format.specs.declared.numbers.TheConstants.{A1_LEN, ATTDIR_FRONT, ATTDIR_POSITION, DIRECTORY_FRONT, DIRECTORY_POSITION, MOST_ATTACHMENTS, MOST_SUBBLOCKS}

-- A list of items C with entries E, that hold what S says.
pub record Kind (C E S : Type 0) : Type 1 where
  -- the items and the directory that an index has, and how many items at most
  pub items : Index → List C
  pub directory : Index → Option DirItem
  pub most : ℕ
  -- where an item lies, its segment and the id of such segments, and its entry
  pub place : C → Place
  pub segment : C → Segment
  pub item_id : List ℕ
  pub entry : C → E
  -- the place of the directory's pointer in the file header, its id, how much of its data stands before the entries, and the data
  pub pointer : ℕ
  pub id : List ℕ
  pub head : ℕ
  pub data_of : List E → ℕ → List ℕ
  -- how long an entry is, its bytes, and that it can be written
  pub len : E → ℕ
  pub bytes : E → List ℕ
  pub Is : E → Type 0
  -- what a new item needs, how long its entry is, its data, and that the item says what it holds
  pub need : S → ℕ
  pub len_of : S → ℕ
  pub contents : C → S → ℕ → List ℕ
  pub Says : C → S → Type 0
  -- what becomes of the other directory, and that a change of the index is an act on this list, and its directory
  pub other : CodeChange → DirectoryChange
  pub Does : CodeChange → CodeAct C → DirectoryChange → Type 0

-- a change of the subblocks, and of the attachments
pub record ActsOnTiles (c : CodeChange) (a : CodeAct Tile) (d : DirectoryChange) : Type 0 where
  pub directory : c.directory ≡ d
  pub tiles : c.tiles.items ≡ a ∷ []
  pub attdir : c.attdir ≡ Kept
  pub attachments : c.attachments.items ≡ []
  pub metadata : c.metadata ≡ Same

pub record ActsOnAttachments (c : CodeChange) (a : CodeAct AttItem) (d : DirectoryChange) : Type 0 where
  pub directory : c.directory ≡ Kept
  pub tiles : c.tiles.items ≡ []
  pub attdir : c.attdir ≡ d
  pub attachments : c.attachments.items ≡ a ∷ []
  pub metadata : c.metadata ≡ Same

abbrev pub of_subblocks : Kind Tile Entry Subblock
of_subblocks = record {
  items = λ x. x.tiles.items;
  directory = λ x. x.directory;
  most = MOST_SUBBLOCKS;
  place = tile_place;
  segment = λ t. (tile_of t).segment;
  item_id = subblock_id;
  entry = λ t. (tile_of t).entry;
  pointer = DIRECTORY_POSITION;
  id = directory_id;
  head = DIRECTORY_FRONT;
  data_of = directory_data;
  len = entry_len;
  bytes = entry_bytes;
  Is = IsEntry;
  need = subblock_need;
  len_of = λ s. 32 + 20 * length s.info.dims;
  contents = λ t s padding. subblock_data (tile_of t).entry s padding;
  Says = λ t s. IsSubblock (tile_of t) s;
  other = λ c. c.attdir;
  Does = ActsOnTiles;
}

abbrev pub of_attachments : Kind AttItem A1 Attachment
of_attachments = record {
  items = λ x. x.attachments.items;
  directory = λ x. x.attdir;
  most = MOST_ATTACHMENTS;
  place = att_item_place;
  segment = λ i. (att_item_of i).segment;
  item_id = attachment_id;
  entry = λ i. (att_item_of i).entry;
  pointer = ATTDIR_POSITION;
  id = attdir_id;
  head = ATTDIR_FRONT;
  data_of = attdir_data;
  len = a1_len;
  bytes = a1_bytes;
  Is = IsA1;
  need = attachment_need;
  len_of = λ a. A1_LEN;
  contents = λ i a padding. attachment_data (att_item_of i).entry a.bytes padding;
  Says = λ i a. IsAttachment (att_item_of i) a;
  other = λ c. c.directory;
  Does = ActsOnAttachments;
}

-- where an item lies
abbrev pub span_in : {C E S : Type 0} → Kind C E S → C → Span
span_in k i = (k.place i).span

-- a segment of a kind, with sound sizes
abbrev pub IsOfKind : List ℕ → Segment → Type 0
IsOfKind id s = (s.id ≡ id) × (s.used ≤ s.allocated)
