-- Ids and headers of the code, as the format's definitions see them.
use Rattle.std.specs.Prelude.{ℕ, List, bytes_eq, if◌then◌else◌}
use Rattle.czi_format.specs.Segment.{Segment, file_id, directory_id, subblock_id, metadata_id, attachment_id, attdir_id, deleted_id}
use Rattle.czi_seg.specs.declared.id.SegId.{SegId}
use Rattle.czi_seg.specs.declared.id.SegId.TheVariants.{File, Directory, Subblock, Metadata, Attachment, AttDir, Deleted, Other}
use Rattle.czi_seg.specs.declared.header.SegHeader.{SegHeader}

abbrev pub id_bytes : SegId → List ℕ
id_bytes File = file_id
id_bytes Directory = directory_id
id_bytes Subblock = subblock_id
id_bytes Metadata = metadata_id
id_bytes Attachment = attachment_id
id_bytes AttDir = attdir_id
id_bytes Deleted = deleted_id
id_bytes (Other id) = id

-- the id with these bytes: one of the seven that the format names, or another one
unfoldable pub seg_id : List ℕ → SegId
seg_id id =
    if bytes_eq id file_id then File
    else if bytes_eq id directory_id then Directory
    else if bytes_eq id subblock_id then Subblock
    else if bytes_eq id metadata_id then Metadata
    else if bytes_eq id attachment_id then Attachment
    else if bytes_eq id attdir_id then AttDir
    else if bytes_eq id deleted_id then Deleted
    else Other id

-- the header, at a place
abbrev pub header_of : ℕ → SegHeader → Segment
header_of at h = record { at = at; id = id_bytes h.id; allocated = h.allocated; used = h.used }
