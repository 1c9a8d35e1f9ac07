-- What an index holds and where it lies, from what was read and marked.
use Rattle.std.proofs.Common.{◌≡◌, suc, ◌+◌, List, [], ◌∷◌, ◌++◌, map, length, Option, Some, None, option_map, refl, ap, sym, ◌∙◌}
use Rattle.std.proofs.lemmas.List.{map-append}
use Rattle.std.specs.Prelude.{option_to_list}
use Rattle.czi_format.specs.Span.{Span}
use Rattle.czi_format.specs.Segment.{Segment, extent}
use Rattle.czi_format.specs.Live.{Live, Directory, Tile, AttItem, MetaItem, segments}
use Rattle.czi_format.specs.Layout.{Place, place_of}
use Rattle.czi_num.specs.declared.span.Span.{Span as CodeSpan}
use Rattle.czi_num.specs.Span.{span_of}
use Rattle.czi_seg.specs.declared.file_header.FileHeader.{FileHeader as CodeFileHeader}
use Rattle.czi_seg.specs.declared.header.SegHeader.{SegHeader}
use Rattle.czi_seg.specs.View.{header_of}
use Rattle.czi_image.specs.declared.directory.Directory.{Directory as CodeDirectory}
use Rattle.czi_image.specs.declared.types.Tile.{Tile as CodeTile}
use Rattle.czi_image.specs.declared.types.AttItem.{AttItem as CodeAttItem}
use Rattle.czi_image.specs.declared.types.MetaItem.{MetaItem as CodeMetaItem}
use Rattle.czi_image.specs.declared.types.DirItem.{DirItem}
use Rattle.czi_image.specs.declared.reading.Live.{Live as CodeLive}
use Rattle.czi_image.specs.Holds.{lies_at, extent_of, directory_place as index_place, tile_place, att_item_place, meta_item_place}
use Rattle.czi_image.specs.Marked.{tile_and_place, marked_tile, att_item_and_place, marked_att_item, meta_item_and_place, marked_meta_item}
use Rattle.czi_image.specs.Spans.{header_span, directory_span, tile_span, att_item_span, meta_item_span, live_spans}
use Rattle.czi_image.specs.View.{segment_of, directory_of, tile_of, att_item_of, meta_item_of, live_of}

-- the marks leave what was read, and tell the places
pub marks : {C X : Type 0} (view : C → X) (place : C → Place) (mark : X → Place) (old new : List C) → map {B = X × Place} (λ c. (view c, place c)) new ≡ map {B = X × Place} (λ c. (view c, mark (view c))) old
    → (map view new ≡ map view old) × (map place new ≡ map mark (map view old)) × (length new ≡ length old)
marks {X = X} view place mark [] [] same = (refl, refl, refl)
marks {X = X} view place mark [] (n ∷ ns) same = cc
marks {X = X} view place mark (o ∷ os) [] same = cc
marks {X = X} view place mark (o ∷ os) (n ∷ ns) same =
    let old_pair : X × Place = (view o, mark (view o)) in
    let new_pair : X × Place = (view n, place n) in
    let head : new_pair ≡ old_pair = cc in
    let tail : map {B = X × Place} (λ c. (view c, place c)) ns ≡ map {B = X × Place} (λ c. (view c, mark (view c))) os = cc in
    let rest = marks view place mark os ns tail in
    (λ j. (head j).0 ∷ rest.0 j, λ j. (head j).1 ∷ rest.1 j, ap suc rest.2)

pub marks_option : {C X : Type 0} (view : C → X) (place : C → Place) (mark : X → Place) (old new : Option C) → option_map {U = X × Place} (λ c. (view c, place c)) new ≡ option_map {U = X × Place} (λ c. (view c, mark (view c))) old
    → (option_map view new ≡ option_map view old) × (option_map place new ≡ option_map mark (option_map view old))
marks_option {X = X} view place mark None None same = (refl, refl)
marks_option {X = X} view place mark None (Some n) same = cc
marks_option {X = X} view place mark (Some o) None same = cc
marks_option {X = X} view place mark (Some o) (Some n) same =
    let old_pair : X × Place = (view o, mark (view o)) in
    let new_pair : X × Place = (view n, place n) in
    let pair : new_pair ≡ old_pair = cc in
    (λ j. Some (pair j).0, λ j. Some (pair j).1)

pub marks_directory : (walk : List Segment) (dir : Option CodeDirectory) (item : Option DirItem) → option_map index_place item ≡ option_map (λ (d : CodeDirectory). place_of walk (segment_of d.segment)) dir
    → (lies_at item ≡ extent_of (option_map directory_of dir)) × (option_map index_place item ≡ option_map (λ (d : Directory). place_of walk d.segment) (option_map directory_of dir))
marks_directory walk None None same = (refl, refl)
marks_directory walk None (Some n) same = cc
marks_directory walk (Some d) None same = cc
marks_directory walk (Some d) (Some n) same =
    let place : index_place n ≡ place_of walk (segment_of d.segment) = cc in
    (λ j. Some (place j).span, λ j. Some (place j))

both : {X Y : Type 0} (f : X → Y) (xs ys : List X) (us vs : List Y) → us ≡ map f xs → vs ≡ map f ys → us ++ vs ≡ map f (xs ++ ys)
both f xs ys us vs p q = (λ j. p j ++ q j) ∙ sym (map-append f xs ys)

spans_of_directory : (item : Option DirItem) (dir : Option Directory) → lies_at item ≡ extent_of dir → option_to_list (option_map directory_span item) ≡ map extent (option_to_list (option_map (λ (d : Directory). d.segment) dir))
spans_of_directory item dir lies = ap option_to_list lies ∙ of_option dir
  where
    of_option : (dir : Option Directory) → option_to_list (extent_of dir) ≡ map extent (option_to_list (option_map (λ (d : Directory). d.segment) dir))
    of_option None = refl
    of_option (Some d) = refl

span_is : (span : CodeSpan) (head : SegHeader) → span.len ≡ 32 + head.allocated → span_of span ≡ extent (header_of span.at head)
span_is span head len = λ j. record { at = span.at; len = len j }

spans_of_list : {C X : Type 0} (span : C → Span) (view : C → X) (segment : X → Segment) → ((c : C) → span c ≡ extent (segment (view c))) → (cs : List C) → map span cs ≡ map extent (map segment (map view cs))
spans_of_list span view segment same [] = refl
spans_of_list span view segment same (c ∷ cs) = let rest = spans_of_list span view segment same cs in λ j. same c j ∷ rest j

spans_of_some : {C X : Type 0} (span : C → Span) (view : C → X) (segment : X → Segment) → ((c : C) → span c ≡ extent (segment (view c))) → (o : Option C)
    → option_to_list (option_map span o) ≡ map extent (option_to_list (option_map segment (option_map view o)))
spans_of_some span view segment same None = refl
spans_of_some span view segment same (Some c) = λ j. same c j ∷ []

-- the extents that an index keeps are those of the live segments
pub held_spans : (live : Live) (header : CodeFileHeader) (directory : Option DirItem) (tiles : List CodeTile) (attdir : Option DirItem) (attachments : List CodeAttItem) (metadata : Option CodeMetaItem)
    → live.header.segment.at ≡ 0 → header.allocated ≡ live.header.segment.allocated → lies_at directory ≡ extent_of live.directory → map tile_of tiles ≡ live.tiles
    → lies_at attdir ≡ extent_of live.attdir → map att_item_of attachments ≡ live.attachments → option_map meta_item_of metadata ≡ live.metadata
    → live_spans header directory tiles attdir attachments metadata ≡ map extent (segments live)
held_spans live header directory tiles attdir attachments metadata place allocated dir tiles_are atts atts_are meta_is =
    let first : header_span header ≡ extent live.header.segment = λ j. record { at = sym place j; len = 32 + allocated j } in
    let of_tiles : map tile_span tiles ≡ map extent (map (λ (t : Tile). t.segment) live.tiles) =
    spans_of_list tile_span tile_of (λ (t : Tile). t.segment) (λ t. span_is t.span t.head t.extent) tiles ∙ ap (λ (ts : List Tile). map extent (map (λ (t : Tile). t.segment) ts)) tiles_are in
    let of_atts : map att_item_span attachments ≡ map extent (map (λ (a : AttItem). a.segment) live.attachments) =
    spans_of_list att_item_span att_item_of (λ (a : AttItem). a.segment) (λ a. span_is a.span a.head a.extent) attachments ∙ ap (λ (as' : List AttItem). map extent (map (λ (a : AttItem). a.segment) as')) atts_are in
    let of_meta : option_to_list (option_map meta_item_span metadata) ≡ map extent (option_to_list (option_map (λ (m : MetaItem). m.segment) live.metadata)) =
    spans_of_some meta_item_span meta_item_of (λ (m : MetaItem). m.segment) (λ m. span_is m.span m.head m.extent) metadata ∙ ap (λ (o : Option MetaItem). map extent (option_to_list (option_map (λ (m : MetaItem). m.segment) o))) meta_is in
    let rest = both extent _ _ _ _ (spans_of_directory directory live.directory dir) (both extent _ _ _ _ of_tiles (both extent _ _ _ _ (spans_of_directory attdir live.attdir atts) (both extent _ _ _ _ of_atts of_meta))) in
    λ j. first j ∷ rest j

-- What an index keeps of what was read: the same items, with their places.
pub record Kept (l : CodeLive) (walk : List Segment) (dir : Option DirItem) (ts : List CodeTile) (att : Option DirItem) (as' : List CodeAttItem) (meta : Option CodeMetaItem) : Type 0 where
  pub directory : lies_at dir ≡ extent_of (live_of l).directory
  pub tiles : map tile_of ts ≡ (live_of l).tiles
  pub attdir : lies_at att ≡ extent_of (live_of l).attdir
  pub attachments : map att_item_of as' ≡ (live_of l).attachments
  pub metadata : option_map meta_item_of meta ≡ (live_of l).metadata
  pub directory_place : option_map index_place dir ≡ option_map (λ (d : Directory). place_of walk d.segment) (live_of l).directory
  pub tile_places : map tile_place ts ≡ map (λ (t : Tile). place_of walk t.segment) (live_of l).tiles
  pub attdir_place : option_map index_place att ≡ option_map (λ (d : Directory). place_of walk d.segment) (live_of l).attdir
  pub att_item_places : map att_item_place as' ≡ map (λ (a : AttItem). place_of walk a.segment) (live_of l).attachments
  pub metadata_place : option_map meta_item_place meta ≡ option_map (λ (m : MetaItem). place_of walk m.segment) (live_of l).metadata
  pub so_many : length ts ≡ length l.tiles.items
  pub so_many_attachments : length as' ≡ length l.attachments.items
  pub spans : live_spans l.header.file dir ts att as' meta ≡ map extent (segments (live_of l))

pub kept : (l : CodeLive) (walk : List Segment) (directory : Option DirItem) (tiles : List CodeTile) (attdir : Option DirItem) (attachments : List CodeAttItem) (metadata : Option CodeMetaItem)
    → option_map index_place directory ≡ option_map (λ (d : CodeDirectory). place_of walk (segment_of d.segment)) l.directory
    → map tile_and_place tiles ≡ map (marked_tile walk) l.tiles.items
    → option_map index_place attdir ≡ option_map (λ (d : CodeDirectory). place_of walk (segment_of d.segment)) l.attdir
    → map att_item_and_place attachments ≡ map (marked_att_item walk) l.attachments.items
    → option_map meta_item_and_place metadata ≡ option_map (marked_meta_item walk) l.metadata
    → Kept l walk directory tiles attdir attachments metadata
kept l walk directory tiles attdir attachments metadata dir_is tiles_are attdir_is atts_are meta_is =
    let dir = marks_directory walk l.directory directory dir_is in
    let of_tiles = marks tile_of tile_place (λ (t : Tile). place_of walk t.segment) l.tiles.items tiles tiles_are in
    let att = marks_directory walk l.attdir attdir attdir_is in
    let of_atts = marks att_item_of att_item_place (λ (a : AttItem). place_of walk a.segment) l.attachments.items attachments atts_are in
    let of_meta = marks_option meta_item_of meta_item_place (λ (m : MetaItem). place_of walk m.segment) l.metadata metadata meta_is in
    record {
      directory = dir.0;
      tiles = of_tiles.0;
      attdir = att.0;
      attachments = of_atts.0;
      metadata = of_meta.0;
      directory_place = dir.1;
      tile_places = of_tiles.1;
      attdir_place = att.1;
      att_item_places = of_atts.1;
      metadata_place = of_meta.1;
      so_many = of_tiles.2;
      so_many_attachments = of_atts.2;
      spans = held_spans (live_of l) l.header.file directory tiles attdir attachments metadata refl l.header.allocated dir.0 of_tiles.0 att.0 of_atts.0 of_meta.0;
    }
