-- The live segments that were read, as items: the extent of each with its header.
use Rattle.std.specs.Prelude.{◌≡◌, List, ◌∷◌, ◌++◌, map, option_map, option_to_list}
use Rattle.std.specs.List.Sorted.{IsPermutation}
use Rattle.czi_format.specs.Span.{span_le, sorted}
use Rattle.czi_num.specs.declared.span.Span.{Span}
use Rattle.czi_seg.specs.declared.header.SegHeader.{SegHeader}
use Rattle.czi_spans.specs.Apart.{first_of}
use Rattle.czi_image.specs.declared.found.Header.{Header}
use Rattle.czi_image.specs.declared.directory.Directory.{Directory}
use Rattle.czi_image.specs.declared.types.Tile.{Tile}
use Rattle.czi_image.specs.declared.types.AttItem.{AttItem}
use Rattle.czi_image.specs.declared.types.MetaItem.{MetaItem}
use Rattle.czi_image.specs.declared.reading.Live.{Live}

abbrev pub header_item : Header → Span × SegHeader
header_item h = (h.span, h.head)

abbrev pub directory_item : Directory → Span × SegHeader
directory_item d = (d.segment.span, d.segment.head)

abbrev pub tile_item : Tile → Span × SegHeader
tile_item t = (t.span, t.head)

abbrev pub att_item_item : AttItem → Span × SegHeader
att_item_item a = (a.span, a.head)

abbrev pub meta_item_item : MetaItem → Span × SegHeader
meta_item_item m = (m.span, m.head)

abbrev pub items_of : Live → List (Span × SegHeader)
items_of l = header_item l.header
    ∷ (option_to_list (option_map directory_item l.directory)
    ++ (map tile_item l.tiles.items
    ++ (option_to_list (option_map directory_item l.attdir)
    ++ (map att_item_item l.attachments.items
    ++ option_to_list (option_map meta_item_item l.metadata)))))

-- the items in order of place, and of length at one place
pub record AreSorted (old new : List (Span × SegHeader)) : Type 0 where
  pub spans : map first_of new ≡ sorted span_le (map first_of old)
  pub items : IsPermutation old new
