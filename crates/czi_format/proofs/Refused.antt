-- An image for each rule, and the refusal that it gets.
use Rattle.std.proofs.Common.{ℕ, ◌+◌, ℤ, pos, negsuc, List, [], ◌++◌, length, replicate, refl, codes}
use Prim.Native.String.{String}
use Rattle.std.specs.Int.{to_le_bytes, cast_unsigned, w32, w64}
use Rattle.czi_format.specs.Bytes.{bytes_at, byte_at, i32_at, i64_at, padded}
use Rattle.czi_format.specs.Segment.{header_at, segment_at, sound_segment, in_segment, file_id, directory_id, subblock_id, metadata_id, attachment_id, attdir_id}
use Rattle.czi_format.specs.Entry.{dim, dims, entry, a1}
use Rattle.czi_format.specs.Contents.{sub_head, meta_head, att_size, entry_count}
use Rattle.czi_format.specs.Live.{file_header, directory, attachment_directory, tile, att_item, meta_item}
use Rattle.czi_format.specs.Refusals.{reading, reads_but_overlap, first_rules, tile_rules, attachment_rules, metadata_rule, IsRefused, not_czi, multi_part, pending, bad_directory, too_many, bad_entry, bad_segment, bad_attachment, overlap}

head : String → ℕ → List ℕ
head id size = padded 16 id ++ (to_le_bytes w64 size ++ to_le_bytes w64 size)

int32 : ℤ → List ℕ
int32 z = to_le_bytes w32 (cast_unsigned w32 z)

int64 : ℤ → List ℕ
int64 z = to_le_bytes w64 (cast_unsigned w64 z)

-- part, directory, metadata, UpdatePending, attachment directory
file : ℤ → ℤ → ℤ → ℤ → ℤ → List ℕ
file part dir meta update att = head "ZISRAWFILE" 96 ++ (replicate 48 7 ++ (int32 part ++ (int64 dir ++ (int64 meta ++ (int32 update ++ (int64 att ++ replicate 16 0))))))

-- a directory of so many entries
directory_of : ℤ → List ℕ → List ℕ
directory_of count entries = head "ZISRAWDIRECTORY" (128 + length entries) ++ (int32 count ++ (replicate 124 0 ++ entries))

attachments_of : ℤ → List ℕ → List ℕ
attachments_of count entries = head "ZISRAWATTDIR" (256 + length entries) ++ (int32 count ++ (replicate 252 0 ++ entries))

-- an entry of one dimension
dv : ℤ → ℤ → List ℕ
dv part position = codes "DV" ++ (int32 (pos 0) ++ (int64 position ++ (int32 part ++ (replicate 10 0 ++ (int32 (pos 1) ++ replicate 20 0)))))

a1_of : ℤ → List ℕ
a1_of position = codes "A1" ++ (replicate 10 0 ++ (int64 position ++ replicate 108 0))

tile_of : ℤ → List ℕ
tile_of pixels = head "ZISRAWSUBBLOCK" 256 ++ (replicate 8 0 ++ (int64 pixels ++ replicate 240 0))

refused_empty : IsRefused [] not_czi
unfolding reading reads_but_overlap first_rules file_header sound_segment segment_at header_at i64_at bytes_at file_id
refused_empty = refl

refused_short : IsRefused (replicate 111 0) not_czi
unfolding head file directory_of attachments_of dv a1_of tile_of int32 int64 reading reads_but_overlap first_rules tile_rules attachment_rules metadata_rule file_header sound_segment segment_at header_at in_segment directory attachment_directory tile att_item meta_item sub_head meta_head att_size entry_count entry a1 dims dim i32_at i64_at byte_at bytes_at file_id directory_id subblock_id metadata_id attachment_id attdir_id
refused_short = refl

refused_id : IsRefused (head "ZISRAWFILF" 96 ++ replicate 96 0) not_czi
unfolding head file directory_of attachments_of dv a1_of tile_of int32 int64 reading reads_but_overlap first_rules tile_rules attachment_rules metadata_rule file_header sound_segment segment_at header_at in_segment directory attachment_directory tile att_item meta_item sub_head meta_head att_size entry_count entry a1 dims dim i32_at i64_at byte_at bytes_at file_id directory_id subblock_id metadata_id attachment_id attdir_id
refused_id = refl

refused_cut : IsRefused (head "ZISRAWFILE" 96 ++ replicate 95 0) not_czi
unfolding head file directory_of attachments_of dv a1_of tile_of int32 int64 reading reads_but_overlap first_rules tile_rules attachment_rules metadata_rule file_header sound_segment segment_at header_at in_segment directory attachment_directory tile att_item meta_item sub_head meta_head att_size entry_count entry a1 dims dim i32_at i64_at byte_at bytes_at file_id directory_id subblock_id metadata_id attachment_id attdir_id
refused_cut = refl

refused_small : IsRefused (head "ZISRAWFILE" 79 ++ replicate 79 0) not_czi
unfolding head file directory_of attachments_of dv a1_of tile_of int32 int64 reading reads_but_overlap first_rules tile_rules attachment_rules metadata_rule file_header sound_segment segment_at header_at in_segment directory attachment_directory tile att_item meta_item sub_head meta_head att_size entry_count entry a1 dims dim i32_at i64_at byte_at bytes_at file_id directory_id subblock_id metadata_id attachment_id attdir_id
refused_small = refl

refused_part : IsRefused (file (negsuc 0) (pos 0) (pos 0) (pos 1) (pos 0)) (multi_part (negsuc 0))
unfolding head file directory_of attachments_of dv a1_of tile_of int32 int64 reading reads_but_overlap first_rules tile_rules attachment_rules metadata_rule file_header sound_segment segment_at header_at in_segment directory attachment_directory tile att_item meta_item sub_head meta_head att_size entry_count entry a1 dims dim i32_at i64_at byte_at bytes_at file_id directory_id subblock_id metadata_id attachment_id attdir_id
refused_part = refl

refused_pending : IsRefused (file (pos 0) (pos 5) (pos 0) (pos 1) (pos 0)) (pending (pos 1))
unfolding head file directory_of attachments_of dv a1_of tile_of int32 int64 reading reads_but_overlap first_rules tile_rules attachment_rules metadata_rule file_header sound_segment segment_at header_at in_segment directory attachment_directory tile att_item meta_item sub_head meta_head att_size entry_count entry a1 dims dim i32_at i64_at byte_at bytes_at file_id directory_id subblock_id metadata_id attachment_id attdir_id
refused_pending = refl

refused_negative : IsRefused (file (pos 0) (negsuc 0) (pos 0) (pos 0) (pos 0)) (bad_directory (negsuc 0))
unfolding head file directory_of attachments_of dv a1_of tile_of int32 int64 reading reads_but_overlap first_rules tile_rules attachment_rules metadata_rule file_header sound_segment segment_at header_at in_segment directory attachment_directory tile att_item meta_item sub_head meta_head att_size entry_count entry a1 dims dim i32_at i64_at byte_at bytes_at file_id directory_id subblock_id metadata_id attachment_id attdir_id
refused_negative = refl

refused_nowhere : IsRefused (file (pos 0) (pos 128) (pos 0) (pos 0) (pos 0)) (bad_directory (pos 128))
unfolding head file directory_of attachments_of dv a1_of tile_of int32 int64 reading reads_but_overlap first_rules tile_rules attachment_rules metadata_rule file_header sound_segment segment_at header_at in_segment directory attachment_directory tile att_item meta_item sub_head meta_head att_size entry_count entry a1 dims dim i32_at i64_at byte_at bytes_at file_id directory_id subblock_id metadata_id attachment_id attdir_id
refused_nowhere = refl

refused_count : IsRefused (file (pos 0) (pos 128) (pos 0) (pos 0) (pos 0) ++ directory_of (negsuc 0) []) (bad_directory (pos 128))
unfolding head file directory_of attachments_of dv a1_of tile_of int32 int64 reading reads_but_overlap first_rules tile_rules attachment_rules metadata_rule file_header sound_segment segment_at header_at in_segment directory attachment_directory tile att_item meta_item sub_head meta_head att_size entry_count entry a1 dims dim i32_at i64_at byte_at bytes_at file_id directory_id subblock_id metadata_id attachment_id attdir_id
refused_count = refl

refused_many : IsRefused (file (pos 0) (pos 128) (pos 0) (pos 0) (pos 0) ++ directory_of (pos 1048577) []) (too_many (pos 128) 1048577)
unfolding head file directory_of attachments_of dv a1_of tile_of int32 int64 reading reads_but_overlap first_rules tile_rules attachment_rules metadata_rule file_header sound_segment segment_at header_at in_segment directory attachment_directory tile att_item meta_item sub_head meta_head att_size entry_count entry a1 dims dim i32_at i64_at byte_at bytes_at file_id directory_id subblock_id metadata_id attachment_id attdir_id
refused_many = refl

refused_entry : IsRefused (file (pos 0) (pos 128) (pos 0) (pos 0) (pos 0) ++ directory_of (pos 2) (dv (pos 0) (pos 0) ++ dv (pos 1) (pos 0))) (bad_entry (pos 340))
unfolding head file directory_of attachments_of dv a1_of tile_of int32 int64 reading reads_but_overlap first_rules tile_rules attachment_rules metadata_rule file_header sound_segment segment_at header_at in_segment directory attachment_directory tile att_item meta_item sub_head meta_head att_size entry_count entry a1 dims dim i32_at i64_at byte_at bytes_at file_id directory_id subblock_id metadata_id attachment_id attdir_id
refused_entry = refl

refused_entry_end : IsRefused (file (pos 0) (pos 128) (pos 0) (pos 0) (pos 0) ++ directory_of (pos 2) (dv (pos 0) (pos 0) ++ replicate 51 0)) (bad_entry (pos 340))
unfolding head file directory_of attachments_of dv a1_of tile_of int32 int64 reading reads_but_overlap first_rules tile_rules attachment_rules metadata_rule file_header sound_segment segment_at header_at in_segment directory attachment_directory tile att_item meta_item sub_head meta_head att_size entry_count entry a1 dims dim i32_at i64_at byte_at bytes_at file_id directory_id subblock_id metadata_id attachment_id attdir_id
refused_entry_end = refl

refused_segment : IsRefused (file (pos 0) (pos 128) (pos 0) (pos 0) (pos 0) ++ directory_of (pos 1) (dv (pos 0) (pos 0))) (bad_segment (pos 0))
unfolding head file directory_of attachments_of dv a1_of tile_of int32 int64 reading reads_but_overlap first_rules tile_rules attachment_rules metadata_rule file_header sound_segment segment_at header_at in_segment directory attachment_directory tile att_item meta_item sub_head meta_head att_size entry_count entry a1 dims dim i32_at i64_at byte_at bytes_at file_id directory_id subblock_id metadata_id attachment_id attdir_id
refused_segment = refl

refused_contents : IsRefused (file (pos 0) (pos 128) (pos 0) (pos 0) (pos 0) ++ (directory_of (pos 1) (dv (pos 0) (pos 340)) ++ tile_of (pos 1))) (bad_segment (pos 340))
unfolding head file directory_of attachments_of dv a1_of tile_of int32 int64 reading reads_but_overlap first_rules tile_rules attachment_rules metadata_rule file_header sound_segment segment_at header_at in_segment directory attachment_directory tile att_item meta_item sub_head meta_head att_size entry_count entry a1 dims dim i32_at i64_at byte_at bytes_at file_id directory_id subblock_id metadata_id attachment_id attdir_id
refused_contents = refl

refused_attdir : IsRefused (file (pos 0) (pos 0) (pos 0) (pos 0) (pos 128) ++ attachments_of (pos 1) []) (bad_attachment (pos 128))
unfolding head file directory_of attachments_of dv a1_of tile_of int32 int64 reading reads_but_overlap first_rules tile_rules attachment_rules metadata_rule file_header sound_segment segment_at header_at in_segment directory attachment_directory tile att_item meta_item sub_head meta_head att_size entry_count entry a1 dims dim i32_at i64_at byte_at bytes_at file_id directory_id subblock_id metadata_id attachment_id attdir_id
refused_attdir = refl

refused_a1 : IsRefused (file (pos 0) (pos 0) (pos 0) (pos 0) (pos 128) ++ attachments_of (pos 1) (replicate 128 0)) (bad_attachment (pos 416))
unfolding head file directory_of attachments_of dv a1_of tile_of int32 int64 reading reads_but_overlap first_rules tile_rules attachment_rules metadata_rule file_header sound_segment segment_at header_at in_segment directory attachment_directory tile att_item meta_item sub_head meta_head att_size entry_count entry a1 dims dim i32_at i64_at byte_at bytes_at file_id directory_id subblock_id metadata_id attachment_id attdir_id
refused_a1 = refl

refused_attachment : IsRefused (file (pos 0) (pos 0) (pos 0) (pos 0) (pos 128) ++ attachments_of (pos 1) (a1_of (negsuc 4))) (bad_attachment (negsuc 4))
unfolding head file directory_of attachments_of dv a1_of tile_of int32 int64 reading reads_but_overlap first_rules tile_rules attachment_rules metadata_rule file_header sound_segment segment_at header_at in_segment directory attachment_directory tile att_item meta_item sub_head meta_head att_size entry_count entry a1 dims dim i32_at i64_at byte_at bytes_at file_id directory_id subblock_id metadata_id attachment_id attdir_id
refused_attachment = refl

refused_metadata : IsRefused (file (pos 0) (pos 0) (pos 128) (pos 0) (pos 0) ++ head "ZISRAWMETADATA" 255 ++ replicate 255 0) (bad_segment (pos 128))
unfolding head file directory_of attachments_of dv a1_of tile_of int32 int64 reading reads_but_overlap first_rules tile_rules attachment_rules metadata_rule file_header sound_segment segment_at header_at in_segment directory attachment_directory tile att_item meta_item sub_head meta_head att_size entry_count entry a1 dims dim i32_at i64_at byte_at bytes_at file_id directory_id subblock_id metadata_id attachment_id attdir_id
refused_metadata = refl

refused_overlap : IsRefused (file (pos 0) (pos 128) (pos 0) (pos 0) (pos 0) ++ (directory_of (pos 2) (dv (pos 0) (pos 392) ++ dv (pos 0) (pos 392)) ++ tile_of (pos 0))) (overlap (record { at = 392; len = 288 }) (record { at = 392; len = 288 }))
unfolding head file directory_of attachments_of dv a1_of tile_of int32 int64 reading reads_but_overlap first_rules tile_rules attachment_rules metadata_rule file_header sound_segment segment_at header_at in_segment directory attachment_directory tile att_item meta_item sub_head meta_head att_size entry_count entry a1 dims dim i32_at i64_at byte_at bytes_at file_id directory_id subblock_id metadata_id attachment_id attdir_id
refused_overlap = refl
