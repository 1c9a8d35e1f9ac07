-- What was read, as the format's definitions see it.
use Rattle.std.specs.Prelude.{◌+◌, ◌-◌, pos, map, option_map}
use Rattle.czi_format.specs.Segment.{Segment}
use Rattle.czi_format.specs.Live.{FileHeader, Directory, Tile, AttItem, MetaItem, Live}
use Rattle.czi_format.specs.Refusals.{Tiles, Attachments}
use Rattle.czi_doc.specs.View.{info_of, att_of}
use Rattle.czi_seg.specs.View.{header_of}
use Rattle.czi_seg.specs.declared.file_header.FileHeader.{FileHeader as CodeFileHeader}
use Rattle.czi_seg.specs.declared.header.SegHeader.{SegHeader}
use Rattle.czi_image.specs.declared.found.Segment.{Segment as CodeSegment}
use Rattle.czi_image.specs.declared.found.Header.{Header as CodeHeader}
use Rattle.czi_image.specs.declared.directory.Directory.{Directory as CodeDirectory}
use Rattle.czi_image.specs.declared.tiles.Tiles.{Tiles as CodeTiles}
use Rattle.czi_image.specs.declared.attachments.Attachments.{Attachments as CodeAttachments}
use Rattle.czi_image.specs.declared.reading.Live.{Live as CodeLive}
use Rattle.czi_image.specs.declared.types.Tile.{Tile as CodeTile}
use Rattle.czi_image.specs.declared.types.AttItem.{AttItem as CodeAttItem}
use Rattle.czi_image.specs.declared.types.MetaItem.{MetaItem as CodeMetaItem}

abbrev pub segment_of : CodeSegment → Segment
segment_of s = header_of s.span.at s.head

-- a file header of a first part
abbrev pub header_fields_of : CodeFileHeader → SegHeader → FileHeader
header_fields_of file head = record {
  segment = header_of 0 head;
  identity = file.identity;
  part = pos 0;
  directory = file.directory;
  metadata = file.metadata;
  attachments = file.attachments;
}

abbrev pub file_header_of : CodeHeader → FileHeader
file_header_of h = header_fields_of h.file h.head

abbrev pub directory_of : CodeDirectory → Directory
directory_of d = record { segment = segment_of d.segment; count = d.count }

abbrev pub tile_of : CodeTile → Tile
tile_of t = record {
  entry = record { info = info_of t.info; position = pos t.span.at };
  segment = header_of t.span.at t.head;
  head = record { begin = t.begin - (t.span.at + 32); meta = t.meta; pixels = t.pixels; tail = t.tail };
}

abbrev pub att_item_of : CodeAttItem → AttItem
att_item_of a = record {
  entry = record { info = att_of a.info; position = pos a.span.at };
  segment = header_of a.span.at a.head;
  size = a.size;
}

abbrev pub meta_item_of : CodeMetaItem → MetaItem
meta_item_of m = record { segment = header_of m.span.at m.head; head = record { xml = m.xml; tail = m.tail } }

abbrev pub tiles_of : CodeTiles → Tiles
tiles_of t = record { directory = option_map directory_of t.directory; tiles = map tile_of t.tiles.items }

abbrev pub attachments_of : CodeAttachments → Attachments
attachments_of a = record { directory = option_map directory_of a.directory; items = map att_item_of a.items.items }

abbrev pub live_of : CodeLive → Live
live_of l = record {
  header = file_header_of l.header;
  directory = option_map directory_of l.directory;
  tiles = map tile_of l.tiles.items;
  attdir = option_map directory_of l.attdir;
  attachments = map att_item_of l.attachments.items;
  metadata = option_map meta_item_of l.metadata;
}
