-- The empty document with a GUID, byte by byte: a file header, and behind it a directory without entries.
use Rattle.std.specs.Prelude.{ℕ, pos, List, [], ◌++◌, replicate, Some, None, true}
use Rattle.czi_format.specs.Bytes.{i32_bytes}
use Rattle.czi_format.specs.Segment.{Segment, extent, header_bytes, directory_id}
use Rattle.czi_format.specs.Contents.{directory_head}
use Rattle.czi_format.specs.Document.{Document}
use Rattle.czi_format.specs.Live.{FileHead, file_segment, file_header_bytes}
use Rattle.czi_format.specs.Layout.{Layout}
use Rattle.czi_format.specs.declared.numbers.TheConstants.{DIRECTORY_FRONT, EMPTY_LEN, FILE_HEADER_LEN}

-- Its identity: version 1.0, eight reserved bytes, the GUID as PrimaryFileGuid and as FileGuid, and FilePart 0.
abbrev pub empty_identity : List ℕ → List ℕ
empty_identity guid = i32_bytes (pos 1) ++ (replicate 12 0 ++ (guid ++ (guid ++ i32_bytes (pos 0))))

abbrev pub empty_head : List ℕ → FileHead
empty_head guid = record { identity = empty_identity guid; directory = pos FILE_HEADER_LEN; metadata = pos 0; pending = pos 0; attachments = pos 0 }

-- the directory's segment: EntryCount and the reserved bytes, and no entry
abbrev pub empty_segment : Segment
empty_segment = record { at = FILE_HEADER_LEN; id = directory_id; allocated = DIRECTORY_FRONT; used = DIRECTORY_FRONT }

-- all 704 bytes, where the GUID has 16
unfoldable pub empty_image : List ℕ → List ℕ
empty_image guid = file_header_bytes (empty_head guid) ++ (header_bytes empty_segment ++ directory_head 0)

abbrev pub empty_document : List ℕ → Document
empty_document guid = record { identity = empty_identity guid; subblocks = []; attachments = []; metadata = None }

-- the file header, the directory, and nothing else
abbrev pub empty_layout : Layout
empty_layout = record {
  length = EMPTY_LEN;
  header = record { span = extent file_segment; walked = true };
  directory = Some (record { span = extent empty_segment; walked = true });
  attdir = None;
  metadata = None;
  subblocks = [];
  attachments = [];
  walk_end = EMPTY_LEN;
  deleted = [];
  unknown = [];
}
