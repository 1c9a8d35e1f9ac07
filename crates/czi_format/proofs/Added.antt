-- An image with one subblock more: what its pointers reach.
use Rattle.std.proofs.Common.{◌≡◌, ℕ, ◌≤◌, ◌^◌, List, [], ◌∷◌, ◌++◌, map, Some, Ok, option_map, option_to_list, refl, ap, sym, ◌∙◌}
use Rattle.std.specs.List.{AllByRecursion}
use Rattle.czi_format.specs.Partial.{none_or}
use Rattle.czi_format.specs.Span.{AreDisjoint}
use Rattle.czi_format.specs.Segment.{extent, in_segment, directory_id, attachment_id, attdir_id, metadata_id, subblock_id}
use Rattle.czi_format.specs.Live.{Live, FileHeader, file_header, Directory, directory, attachment_directory, Tile, tile, AttItem, att_item, MetaItem, meta_item, segments, document, subblock_of, attachment_of, metadata_of}
use Rattle.czi_format.specs.Shows.{Reaches, entries, subblock_at, attachment_at}
use Rattle.czi_format.specs.Same.{SameExtent}
use Rattle.czi_format.proofs.Local.{list_same, option_same, map_same, found_same, a1_entries_same, metadata_same, data_same, tile_own, att_item_own, meta_item_own, attdir_own}

map-append : {X Y : Type 0} (f : X → Y) (xs ys : List X) → map f (xs ++ ys) ≡ map f xs ++ map f ys
map-append f [] ys = refl
map-append f (x ∷ xs) ys = ap (λ l. f x ∷ l) (map-append f xs ys)

-- The other image differs in the directory and its pointer, and has one subblock more.
pub record Adds (image other : List ℕ) (live : Live) (h : FileHeader) (dir : Directory) (t : Tile) : Type 0 where
  pub header : file_header other ≡ Some h
  pub kept : h ≡ record live.header { directory = h.directory }
  pub directory : none_or h.directory (in_segment other directory_id h.directory directory) ≡ Some (Some dir)
  pub few : dir.count ≤ 2 ^ 20
  pub entries : entries other (Some dir) ≡ Ok (map (λ (t : Tile). t.entry) live.tiles ++ t.entry ∷ [])
  pub added : subblock_at other t.entry ≡ Some t
  pub tiles : AllByRecursion (SameExtent image other) (map (λ (t : Tile). t.segment) live.tiles)
  pub attdir : AllByRecursion (SameExtent image other) (option_to_list (option_map (λ (d : Directory). d.segment) live.attdir))
  pub attachments : AllByRecursion (SameExtent image other) (map (λ (t : AttItem). t.segment) live.attachments)
  pub metadata : AllByRecursion (SameExtent image other) (option_to_list (option_map (λ (m : MetaItem). m.segment) live.metadata))

abbrev pub with_tile : Live → FileHeader → Directory → Tile → Live
with_tile live header dir t = record live { header = header; directory = Some dir; tiles = live.tiles ++ t ∷ [] }

map-append-some : (other : List ℕ) (ts : List Tile) (t : Tile) → map (λ (t : Tile). subblock_at other t.entry) ts ≡ map Some ts → subblock_at other t.entry ≡ Some t
    → map (λ (t : Tile). subblock_at other t.entry) (ts ++ t ∷ []) ≡ map Some (ts ++ t ∷ [])
map-append-some other [] t e f = cc
map-append-some other (x ∷ ts) t e f =
    let first : subblock_at other x.entry ≡ Some x = cc in
    let others : map (λ (t : Tile). subblock_at other t.entry) ts ≡ map Some ts = cc in
    let rest : map (λ (t : Tile). subblock_at other t.entry) (ts ++ t ∷ []) ≡ map Some (ts ++ t ∷ []) = map-append-some other ts t others f in
    cc

-- it shows the document with the subblock at the end
pub reaches_add : (image other : List ℕ) (live : Live) (h : FileHeader) (dir : Directory) (t : Tile)
    → Reaches image live → Adds image other live h dir t → AreDisjoint (map extent (segments (with_tile live h dir t))) → Reaches other (with_tile live h dir t)
reaches_add image other live h dir t reaches adds apart =
    let atts : h.attachments ≡ live.header.attachments = ap (λ (z : FileHeader). z.attachments) adds.kept in
    let meta : h.metadata ≡ live.header.metadata = ap (λ (z : FileHeader). z.metadata) adds.kept in
    let part : h.part ≡ live.header.part = ap (λ (z : FileHeader). z.part) adds.kept in
    record {
      header = adds.header;
      part = part ∙ reaches.part;
      directory = adds.directory;
      few = adds.few;
      entries = adds.entries ∙ ap Ok (sym (map-append (λ (t : Tile). t.entry) live.tiles (t ∷ [])));
      tiles = map-append-some other live.tiles t
          (list_same (SameExtent image other) (λ (t : Tile). t.segment) (λ t. t.entry) (subblock_at image) (subblock_at other)
          (λ t s. found_same image other subblock_id t.entry.position (tile t.entry) (λ (t : Tile). t.segment) t (tile_own t.entry) s)
          live.tiles adds.tiles reaches.tiles)
          adds.added;
      attdir = rw atts (option_same (SameExtent image other) (λ (d : Directory). d.segment) live.header.attachments _ _
          (λ d s. found_same image other attdir_id live.header.attachments attachment_directory (λ (d : Directory). d.segment) d attdir_own s)
          live.attdir adds.attdir reaches.attdir);
      few_attachments = reaches.few_attachments;
      a1_entries = sym (a1_entries_same image other live.attdir adds.attdir) ∙ reaches.a1_entries;
      attachments = list_same (SameExtent image other) (λ (t : AttItem). t.segment) (λ t. t.entry) (attachment_at image) (attachment_at other)
          (λ t s. found_same image other attachment_id t.entry.position (att_item t.entry) (λ (t : AttItem). t.segment) t (att_item_own t.entry) s)
          live.attachments adds.attachments reaches.attachments;
      metadata = rw meta (option_same (SameExtent image other) (λ (m : MetaItem). m.segment) live.header.metadata _ _
          (λ m s. found_same image other metadata_id live.header.metadata meta_item (λ (m : MetaItem). m.segment) m meta_item_own s)
          live.metadata adds.metadata reaches.metadata);
      disjoint = apart;
    }

pub document_add : (image other : List ℕ) (live : Live) (h : FileHeader) (dir : Directory) (t : Tile) → Adds image other live h dir t
    → document other (with_tile live h dir t) ≡ record (document image live) { subblocks = (document image live).subblocks ++ subblock_of other t ∷ [] }
document_add image other live h dir t adds =
    let identity : h.identity ≡ live.header.identity = ap (λ (z : FileHeader). z.identity) adds.kept in
    let subblocks : map (subblock_of image) live.tiles ≡ map (subblock_of other) live.tiles =
    map_same (SameExtent image other) (λ (t : Tile). t.segment) (subblock_of image) (subblock_of other) (λ t s. let d = data_same image other t.segment s in cc (d)) live.tiles adds.tiles in
    let attachments : map (attachment_of image) live.attachments ≡ map (attachment_of other) live.attachments =
    map_same (SameExtent image other) (λ (t : AttItem). t.segment) (attachment_of image) (attachment_of other) (λ t s. let d = data_same image other t.segment s in cc (d)) live.attachments adds.attachments in
    let metadata : option_map (metadata_of image) live.metadata ≡ option_map (metadata_of other) live.metadata = metadata_same image other live.metadata adds.metadata in
    let all : map (subblock_of other) (live.tiles ++ t ∷ []) ≡ map (subblock_of image) live.tiles ++ subblock_of other t ∷ [] =
    map-append (subblock_of other) live.tiles (t ∷ []) ∙ ap (λ l. l ++ subblock_of other t ∷ []) (sym subblocks) in
    λ i. record { identity = identity i; subblocks = all i; attachments = sym attachments i; metadata = sym metadata i }
