-- Two images, byte by byte, with the document that each shows and its layout.
use Rattle.std.proofs.Common.{◌≡◌, ℕ, ℤ, pos, List, [], ◌∷◌, ◌++◌, length, replicate, true, Some, None, refl, arith, codes, false}
use Prim.Native.String.{String}
use Rattle.std.specs.Int.{to_le_bytes, w32, w64}
use Rattle.czi_format.specs.Bytes.{bytes_at, byte_at, i32_at, i64_at, padded}
use Rattle.czi_format.specs.Segment.{Segment, header_at, segment_at, sound_segment, in_segment, file_id, directory_id, attdir_id, attachment_id, metadata_id, subblock_id, deleted_id}
use Rattle.czi_format.specs.Entry.{Dim, EntryInfo, dim, dims, entry, AttInfo, a1}
use Rattle.czi_format.specs.Contents.{sub_head, meta_head, att_size, entry_count}
use Rattle.czi_format.specs.Document.{Document}
use Rattle.czi_format.specs.Live.{Live, FileHeader, file_header, Directory, directory, attachment_directory, Tile, tile, att_item, meta_item}
use Rattle.czi_format.specs.Shows.{Reaches, Shows}
use Rattle.czi_format.specs.Walk.{stands_at, IsWalk, is_name}
use Rattle.czi_format.specs.Key.{key}
use Rattle.czi_format.specs.Layout.{Layout, HasLayout}
use Rattle.czi_format.specs.Empty as Empty
use Rattle.czi_format.specs.Empty.{empty_layout}
use Rattle.czi_format.proofs.Empties.{empty_directory, empty_live, empty_walk}

pub segment_header : String → ℕ → ℕ → List ℕ
segment_header id allocated used = padded 16 id ++ (to_le_bytes w64 allocated ++ to_le_bytes w64 used)

pub guid : List ℕ
guid = 0x33 ∷ 0x22 ∷ 0x11 ∷ 0x00 ∷ 0x55 ∷ 0x44 ∷ 0x77 ∷ 0x66 ∷ 0x88 ∷ 0x99 ∷ 0xaa ∷ 0xbb ∷ 0xcc ∷ 0xdd ∷ 0xee ∷ 0xff ∷ []

pub identity : List ℕ
identity = to_le_bytes w32 1 ++ (replicate 12 0 ++ (guid ++ (guid ++ replicate 4 0)))

-- a file header of 512 bytes of data that points to a directory
pub file : ℕ → List ℕ
file dir = segment_header "ZISRAWFILE" 512 512 ++ (identity ++ (to_le_bytes w64 dir ++ replicate 452 0))

pub empty_image : List ℕ
empty_image = file 544 ++ (segment_header "ZISRAWDIRECTORY" 128 128 ++ replicate 128 0)

pub file_segment : Segment
file_segment = record { at = 0; id = padded 16 "ZISRAWFILE"; allocated = 512; used = 512 }

pub header_to : ℤ → FileHeader
header_to dir = record { segment = file_segment; identity = identity; part = pos 0; directory = dir; metadata = pos 0; attachments = pos 0 }

-- it is the empty document's
empty_is : empty_image ≡ Empty.empty_image guid
unfolding empty_image Empty.empty_image segment_header identity guid file directory_id file_id
empty_is = refl

-- one tile of 4 by 2 bytes: C 0, X 0 to 3, Y 0 to 1
dim_bytes : String → ℕ → List ℕ
dim_bytes name size = padded 4 name ++ (to_le_bytes w32 0 ++ (to_le_bytes w32 size ++ (replicate 4 0 ++ to_le_bytes w32 size)))

tile_entry : List ℕ
tile_entry = codes "DV" ++ (to_le_bytes w32 0 ++ (to_le_bytes w64 704 ++ (replicate 14 0 ++ (to_le_bytes w32 3 ++ (dim_bytes "C" 1 ++ (dim_bytes "X" 4 ++ dim_bytes "Y" 2))))))

tile_data : List ℕ
tile_data = replicate 8 0 ++ (to_le_bytes w64 8 ++ (tile_entry ++ (replicate 148 0 ++ (codes "ABCDEFGH" ++ replicate 24 0))))

pub tile_image : List ℕ
tile_image = file 1024 ++ (segment_header "DELETED" 128 0 ++ (replicate 128 0
    ++ (segment_header "ZISRAWSUBBLOCK" 288 264 ++ (tile_data
    ++ (segment_header "ZISRAWDIRECTORY" 224 220 ++ (to_le_bytes w32 1 ++ (replicate 124 0 ++ (tile_entry ++ replicate 4 0))))))))

tile_long : length tile_image ≡ 1280
unfolding tile_image tile_data tile_entry dim_bytes segment_header identity guid file
tile_long = refl

tile_dim : String → ℕ → Dim
tile_dim name size = record { name = padded 4 name; start = pos 0; size = pos size; coord = replicate 4 0; stored = pos size }

tile_info : EntryInfo
tile_info = record { pixel = pos 0; compression = pos 0; pyramid = 0; spare = replicate 5 0; dims = tile_dim "C" 1 ∷ tile_dim "X" 4 ∷ tile_dim "Y" 2 ∷ [] }

the_tile : Tile
the_tile = record {
  entry = record { info = tile_info; position = pos 704 };
  segment = record { at = 704; id = padded 16 "ZISRAWSUBBLOCK"; allocated = 288; used = 264 };
  head = record { begin = 256; meta = 0; pixels = 8; tail = 0 };
}

tile_directory : Directory
tile_directory = record { segment = record { at = 1024; id = padded 16 "ZISRAWDIRECTORY"; allocated = 224; used = 220 }; count = 1 }

tile_live : Live
tile_live = record { header = header_to (pos 1024); directory = Some tile_directory; tiles = the_tile ∷ []; attdir = None; attachments = []; metadata = None }

tile_reaches : Reaches tile_image tile_live
unfolding tile_image tile_data tile_entry dim_bytes tile_dim tile_info the_tile tile_directory tile_live header_to file_segment segment_header identity guid file bytes_at byte_at i32_at i64_at segment_at header_at sound_segment in_segment file_id directory_id subblock_id entry_count file_header directory tile entry dims dim sub_head
tile_reaches = record {
  header = refl;
  part = refl;
  directory = refl;
  few = omega arith;
  entries = refl;
  tiles = refl;
  attdir = refl;
  few_attachments = omega arith;
  a1_entries = refl;
  attachments = refl;
  metadata = refl;
  disjoint = ((refl, (refl, tt)), ((refl, tt), (tt, tt)));
}

pub tile_document : Document
tile_document = record { identity = identity; subblocks = record { info = tile_info; meta = []; pixels = codes "ABCDEFGH"; tail = [] } ∷ []; attachments = []; metadata = None }

pub tile_shows : Shows tile_image tile_document
unfolding tile_image tile_data tile_entry dim_bytes tile_document tile_live the_tile header_to segment_header identity guid file bytes_at
tile_shows = (tile_live, tile_reaches, refl)

tile_walk : List Segment
tile_walk = file_segment ∷ record { at = 544; id = padded 16 "DELETED"; allocated = 128; used = 0 } ∷ the_tile.segment ∷ tile_directory.segment ∷ []

pub tile_layout : Layout
tile_layout = record {
  length = 1280;
  header = record { span = record { at = 0; len = 544 }; walked = true };
  directory = Some (record { span = record { at = 1024; len = 256 }; walked = true });
  attdir = None;
  metadata = None;
  subblocks = record { span = record { at = 704; len = 320 }; walked = true } ∷ [];
  attachments = [];
  walk_end = 1280;
  deleted = record { at = 544; len = 160 } ∷ [];
  unknown = [];
}

pub tile_has_layout : HasLayout tile_image tile_layout
unfolding tile_image tile_data tile_entry dim_bytes tile_live tile_layout tile_walk the_tile tile_directory header_to file_segment segment_header identity guid file bytes_at byte_at i32_at i64_at segment_at header_at file_id directory_id subblock_id deleted_id stands_at
tile_has_layout = (tile_live, tile_walk, tile_reaches, (refl, (refl, (refl, (refl, refl)))), refl)

-- the same image with 100 bytes of 0xFF behind it: the walk ends at 704
pub tail_image : List ℕ
tail_image = empty_image ++ replicate 100 0xFF

tail_reaches : Reaches tail_image (empty_live guid)
unfolding tail_image empty_image empty_live header_to file_segment empty_directory segment_header identity guid file bytes_at byte_at i32_at i64_at segment_at header_at sound_segment in_segment file_id directory_id entry_count file_header directory
tail_reaches = record {
  header = refl;
  part = refl;
  directory = refl;
  few = omega arith;
  entries = refl;
  tiles = refl;
  attdir = refl;
  few_attachments = omega arith;
  a1_entries = refl;
  attachments = refl;
  metadata = refl;
  disjoint = ((refl, tt), (tt, tt));
}

tail_has_layout : HasLayout tail_image (record empty_layout { length = 804 })
unfolding tail_image empty_image empty_live empty_walk header_to file_segment empty_directory segment_header identity guid file bytes_at byte_at i32_at i64_at segment_at header_at file_id directory_id deleted_id stands_at
tail_has_layout = (empty_live guid, empty_walk, tail_reaches, (refl, (refl, refl)), refl)

-- names of segments
named : is_name (padded 16 "DELETED") ≡ true
named = refl

nameless : is_name (replicate 16 0) ≡ false
nameless = refl

interrupted : is_name (0x41 ∷ 0 ∷ 0x41 ∷ replicate 13 0) ≡ false
interrupted = refl

full_name : is_name (replicate 16 0x7E) ≡ true
full_name = refl

-- a walk over an extent that ends off the multiples of 32, and a foreign segment whose used size is larger than its allocated one
foreign_image : List ℕ
foreign_image = segment_header "ODD" 1 0 ++ (replicate 32 0 ++ segment_header "OTHER" 0 9)

foreign_walk : IsWalk foreign_image (record { at = 0; id = padded 16 "ODD"; allocated = 1; used = 0 } ∷ record { at = 64; id = padded 16 "OTHER"; allocated = 0; used = 9 } ∷ [])
unfolding foreign_image segment_header bytes_at i64_at segment_at header_at stands_at
foreign_walk = (refl, (refl, refl))

-- the order of the dimensions doesn't matter
same_key : key (tile_dim "C" 1 ∷ tile_dim "X" 4 ∷ tile_dim "Y" 2 ∷ []) ≡ key (tile_dim "Y" 2 ∷ tile_dim "C" 1 ∷ tile_dim "X" 4 ∷ [])
unfolding key tile_dim
same_key = refl

-- one attachment, and metadata
a1_spelled : List ℕ
a1_spelled = codes "A1" ++ (replicate 10 0 ++ (to_le_bytes w64 704 ++ (replicate 4 0 ++ (guid ++ (padded 8 "TXT" ++ padded 80 "EventList")))))

full_image : List ℕ
full_image = segment_header "ZISRAWFILE" 512 512 ++ (identity ++ (to_le_bytes w64 544 ++ (to_le_bytes w64 1440 ++ (replicate 4 0 ++ (to_le_bytes w64 1024 ++ (replicate 432 0
    ++ (segment_header "ZISRAWDIRECTORY" 128 128 ++ (replicate 128 0
    ++ (segment_header "ZISRAWATTACH" 288 261 ++ (to_le_bytes w32 5 ++ (replicate 12 0 ++ (a1_spelled ++ (replicate 112 0 ++ (codes "hello" ++ (replicate 27 0
    ++ (segment_header "ZISRAWATTDIR" 384 384 ++ (to_le_bytes w32 1 ++ (replicate 252 0 ++ (a1_spelled
    ++ (segment_header "ZISRAWMETADATA" 288 261 ++ (to_le_bytes w32 3 ++ (to_le_bytes w32 2 ++ (replicate 248 0 ++ (codes "<a>zz" ++ replicate 27 0))))))))))))))))))))))))

full_info : AttInfo
full_info = record { guid = guid; kind = padded 8 "TXT"; name = padded 80 "EventList" }

full_live : Live
full_live = record {
  header = record { segment = file_segment; identity = identity; part = pos 0; directory = pos 544; metadata = pos 1440; attachments = pos 1024 };
  directory = Some empty_directory;
  tiles = [];
  attdir = Some (record { segment = record { at = 1024; id = padded 16 "ZISRAWATTDIR"; allocated = 384; used = 384 }; count = 1 });
  attachments = record { entry = record { info = full_info; position = pos 704 }; segment = record { at = 704; id = padded 16 "ZISRAWATTACH"; allocated = 288; used = 261 }; size = 5 } ∷ [];
  metadata = Some (record { segment = record { at = 1440; id = padded 16 "ZISRAWMETADATA"; allocated = 288; used = 261 }; head = record { xml = 3; tail = 2 } });
}

full_document : Document
full_document = record {
  identity = identity;
  subblocks = [];
  attachments = record { info = full_info; bytes = codes "hello" } ∷ [];
  metadata = Some (record { xml = codes "<a>"; tail = codes "zz" });
}

full_shows : Shows full_image full_document
unfolding full_document full_image full_info full_live a1_spelled file_segment empty_directory segment_header identity guid bytes_at byte_at i32_at i64_at segment_at header_at sound_segment in_segment file_id directory_id attdir_id attachment_id metadata_id entry_count file_header directory attachment_directory att_item meta_item meta_head att_size a1
full_shows = (
  full_live,
  record {
    header = refl;
    part = refl;
    directory = refl;
    few = omega arith;
    entries = refl;
    tiles = refl;
    attdir = refl;
    few_attachments = omega arith;
    a1_entries = refl;
    attachments = refl;
    metadata = refl;
    disjoint = ((refl, (refl, (refl, (refl, tt)))), ((refl, (refl, (refl, tt))), ((refl, (refl, tt)), ((refl, tt), (tt, tt)))));
  },
  refl,
)
