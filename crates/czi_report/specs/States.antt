-- The texts of `list`, `info`, `map` and `check` of a state: of a document, and of the layout that says where it lies.
use Rattle.std.specs.Prelude.{◌≡◌, ℕ, ◌+◌, ◌-◌, List, ◌++◌, length, codes, Option, Some, None, option_map}
use Rattle.std.specs.List.{zip}
use Rattle.czi_format.specs.Document.{Subblock, Attachment, Metadata, Document}
use Rattle.czi_format.specs.Layout.{Place, Layout}
use Rattle.czi_format.specs.Live.{Live}
use Rattle.czi_format.specs.Span.{Span, sorted, span_le}
use Rattle.czi_machine.specs.Laws.{LiesInImage}
use Rattle.czi_machine.specs.Places.{live_places, space_of}
use Rattle.czi_machine.specs.Sound.{usable_held}
use Rattle.czi_machine.specs.State.{State, spans_of}
use Rattle.czi_report.specs.Text.{items_text, number_line, tile_line_of, guid_line, directory_line, tile_info_line_of, attachment_line_of, metadata_line_of, no_metadata_line, list_text, info_text, map_text, check_text}

-- one subblock in `list`, beside its extent
abbrev pub listed_line : ℕ → Span × Subblock → List ℕ
listed_line i x = tile_line_of i x.0.at x.1.info

-- `list`: the subblocks, each beside its extent
unfoldable pub list_of : Document → Layout → List ℕ
list_of d l = items_text (codes "tiles ") listed_line (zip (spans_of l.subblocks) d.subblocks)

-- where a directory lies
abbrev pub span_of_place : Option Place → Option Span
span_of_place place = option_map (λ (p : Place). p.span) place

-- one subblock in `info`, with the lengths of its metadata, its pixels and its attachment
abbrev pub subblock_line : ℕ → Span × Subblock → List ℕ
subblock_line i x = tile_info_line_of i x.0 (length x.1.meta) (length x.1.pixels) (length x.1.tail)

-- one attachment
abbrev pub attached_line : ℕ → Span × Attachment → List ℕ
attached_line i x = attachment_line_of i x.0 x.1.info (length x.1.bytes)

-- the metadata, where they lie
abbrev pub metadata_at : Option Span → Option Metadata → List ℕ
metadata_at None m = no_metadata_line
metadata_at (Some s) None = no_metadata_line
metadata_at (Some s) (Some m) = metadata_line_of s (length m.xml) (length m.tail)

-- `info`: the length, the GUID, where both directories lie, each subblock, each attachment and the metadata, with their extents
unfoldable pub info_of : Document → Layout → List ℕ
info_of d l = number_line (codes "length ") l.length
    ++ (guid_line d.identity
    ++ (directory_line (codes "directory ") (span_of_place l.directory)
    ++ (items_text (codes "tiles ") subblock_line (zip (spans_of l.subblocks) d.subblocks)
    ++ (directory_line (codes "attdir ") (span_of_place l.attdir)
    ++ (items_text (codes "attachments ") attached_line (zip (spans_of l.attachments) d.attachments)
    ++ metadata_at (span_of_place l.metadata) d.metadata)))))

-- `map`: the length, the free runs, and the spans that undos may bring back, in order of place. A held span that isn't walked or
-- aligned lies in no DELETED extent, and isn't counted.
abbrev pub map_of : State → List ℕ
map_of s = map_text s.layout.length (space_of s).runs (sorted span_le (usable_held s))

-- `check`: the live segments with the file header, the DELETED extents, the unknown segments, and what the length has past the
-- walk's end
abbrev pub check_of : Layout → List ℕ
check_of l = check_text (1 + length (live_places l)) (length l.deleted) (length l.unknown) (l.length - l.walk_end)

-- The reply to `list` over an image is that of each state that lies in it.
abbrev pub ListsState : Type 0
ListsState = (image : List ℕ) (live : Live) (s : State) → LiesInImage image live s → list_text live ≡ list_of s.document s.layout

-- And so is the reply to `info`.
abbrev pub DetailsState : Type 0
DetailsState = (image : List ℕ) (live : Live) (s : State) → LiesInImage image live s → info_text (length image) live ≡ info_of s.document s.layout
