-- Where what was found ends.
use Rattle.std.specs.Prelude.{ℕ, ◌+◌, ◌*◌, ◌^◌, ◌≤◌, length, IfSome}
use Rattle.std.specs.List.{AllByRecursion}
use Rattle.czi_image.specs.declared.directory.Directory.{Directory}
use Rattle.czi_image.specs.declared.types.Tile.{Tile}
use Rattle.czi_image.specs.declared.types.AttItem.{AttItem}
use Rattle.czi_image.specs.declared.types.MetaItem.{MetaItem}
use Rattle.czi_image.specs.declared.tiles.Tiles.{Tiles}
use Rattle.czi_image.specs.declared.attachments.Attachments.{Attachments}
use Rattle.czi_image.specs.declared.reading.Live.{Live}
use Rattle.czi_format.specs.declared.numbers.TheConstants.{DIRECTORY_FRONT, ATTDIR_FRONT, A1_LEN}

-- the directory has 128 bytes of data at least and ends within this length
pub record IsWithin (size : ℕ) (d : Directory) : Type 0 where
  pub roomy : DIRECTORY_FRONT ≤ d.segment.head.allocated
  pub inside : d.segment.span.at + 32 + d.segment.head.allocated ≤ size

-- the attachment directory's entries end within it, and it ends within this length
pub record HoldsEntries (size : ℕ) (d : Directory) : Type 0 where
  pub roomy : ATTDIR_FRONT + A1_LEN * d.count ≤ d.segment.head.allocated
  pub inside : d.segment.span.at + 32 + d.segment.head.allocated ≤ size

-- it ends within this length
abbrev pub DirectoryEnds : ℕ → Directory → Type 0
DirectoryEnds size d = d.segment.span.at + d.segment.span.len ≤ size

abbrev pub TileEnds : ℕ → Tile → Type 0
TileEnds size t = t.span.at + t.span.len ≤ size

abbrev pub AttItemEnds : ℕ → AttItem → Type 0
AttItemEnds size a = a.span.at + a.span.len ≤ size

abbrev pub MetaItemEnds : ℕ → MetaItem → Type 0
MetaItemEnds size m = m.span.at + m.span.len ≤ size

-- all of them do, and there are no more than may be
pub record TilesWithin (size : ℕ) (t : Tiles) : Type 0 where
  pub directory : IfSome t.directory (DirectoryEnds size)
  pub tiles : AllByRecursion (TileEnds size) t.tiles.items
  pub few : length t.tiles.items ≤ 2 ^ 20

pub record AttachmentsWithin (size : ℕ) (a : Attachments) : Type 0 where
  pub directory : IfSome a.directory (DirectoryEnds size)
  pub items : AllByRecursion (AttItemEnds size) a.items.items
  pub few : length a.items.items ≤ 2 ^ 12

pub record LiveWithin (size : ℕ) (l : Live) : Type 0 where
  pub header : l.header.span.len ≤ size
  pub directory : IfSome l.directory (DirectoryEnds size)
  pub tiles : AllByRecursion (TileEnds size) l.tiles.items
  pub few : length l.tiles.items ≤ 2 ^ 20
  pub attdir : IfSome l.attdir (DirectoryEnds size)
  pub attachments : AllByRecursion (AttItemEnds size) l.attachments.items
  pub few_attachments : length l.attachments.items ≤ 2 ^ 12
  pub metadata : IfSome l.metadata (MetaItemEnds size)
