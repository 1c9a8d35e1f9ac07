-- Items of which it is told whether a walk stands on their segments.
use Rattle.std.specs.Prelude.{List}
use Rattle.czi_format.specs.Segment.{Segment}
use Rattle.czi_format.specs.Live.{Tile, AttItem, MetaItem}
use Rattle.czi_format.specs.Layout.{Place, place_of}
use Rattle.czi_image.specs.declared.types.Tile.{Tile as CodeTile}
use Rattle.czi_image.specs.declared.types.AttItem.{AttItem as CodeAttItem}
use Rattle.czi_image.specs.declared.types.MetaItem.{MetaItem as CodeMetaItem}
use Rattle.czi_image.specs.View.{tile_of, att_item_of, meta_item_of}
use Rattle.czi_image.specs.Holds.{tile_place, att_item_place, meta_item_place}

-- what was read of a subblock, and its place
abbrev pub tile_and_place : CodeTile → Tile × Place
tile_and_place t = (tile_of t, tile_place t)

-- the same, its place marked by a walk
abbrev pub marked_tile : List Segment → CodeTile → Tile × Place
marked_tile walk t = (tile_of t, place_of walk (tile_of t).segment)

abbrev pub att_item_and_place : CodeAttItem → AttItem × Place
att_item_and_place a = (att_item_of a, att_item_place a)

abbrev pub marked_att_item : List Segment → CodeAttItem → AttItem × Place
marked_att_item walk a = (att_item_of a, place_of walk (att_item_of a).segment)

abbrev pub meta_item_and_place : CodeMetaItem → MetaItem × Place
meta_item_and_place m = (meta_item_of m, meta_item_place m)

abbrev pub marked_meta_item : List Segment → CodeMetaItem → MetaItem × Place
marked_meta_item walk m = (meta_item_of m, place_of walk (meta_item_of m).segment)
