-- The pieces of lines, and the texts of `list`, `info`, `map` and `check`: each line ends with a line feed.
use Rattle.std.specs.Prelude.{ℕ, ℤ, ◌+◌, List, [], ◌∷◌, ◌++◌, length, codes, Option, Some, None}
use Rattle.std.specs.Fmt.{decimal, signed_decimal}
use Rattle.uuid.specs.Text.{hyphenated_text, lower}
use Rattle.czi_format.specs.Bytes.{bytes_at, stored_order}
use Rattle.czi_format.specs.Span.{Span}
use Rattle.czi_format.specs.Segment.{extent}
use Rattle.czi_format.specs.Entry.{EntryInfo, AttInfo}
use Rattle.czi_format.specs.Live.{Tile, AttItem, MetaItem, Live}
use Rattle.czi_format.specs.Text.{bytes_text, up_to_zero, dims_text}
use Rattle.czi_image.specs.Holds.{extent_of}

abbrev pub line_feed : List ℕ
line_feed = 10 ∷ []

-- a place, and how many bytes lie there
unfoldable pub span_text : Span → List ℕ
span_text s = decimal s.at ++ (codes " " ++ decimal s.len)

-- a line of a word and a text
unfoldable pub text_line : List ℕ → List ℕ → List ℕ
text_line word text = word ++ (text ++ line_feed)

-- of a word and a number
abbrev pub number_line : List ℕ → ℕ → List ℕ
number_line word n = text_line word (decimal n)

-- of a word and two numbers
abbrev pub numbers_line : List ℕ → ℕ → ℕ → List ℕ
numbers_line word first second = word ++ (decimal first ++ (codes " " ++ (decimal second ++ line_feed)))

-- and of a word and a place of the image
abbrev pub place_line : List ℕ → ℤ → List ℕ
place_line word place = text_line word (signed_decimal place)

-- a GUID in the stored order of its bytes, as text
abbrev pub guid_text : List ℕ → List ℕ
guid_text guid = hyphenated_text lower (stored_order guid)

-- one subblock in `list`: its number, its place and its info
unfoldable pub tile_line_of : ℕ → ℕ → EntryInfo → List ℕ
tile_line_of i at info = codes "tile " ++ (decimal i ++ (codes " " ++ (decimal at ++ (codes " pixel=" ++ (signed_decimal info.pixel
    ++ (codes " comp=" ++ (signed_decimal info.compression ++ (codes " dims=" ++ (dims_text info.dims ++ line_feed)))))))))

abbrev pub tile_line : ℕ → Tile → List ℕ
tile_line i t = tile_line_of i t.segment.at t.entry.info

-- a line for each, numbered from i on
abbrev pub lines : {X : Type 0} → (ℕ → X → List ℕ) → ℕ → List X → List ℕ
lines line i [] = []
lines line i (x ∷ xs) = line i x ++ lines line (i + 1) xs

-- how many items there are, behind a word, and a line for each
unfoldable pub items_text : {X : Type 0} → List ℕ → (ℕ → X → List ℕ) → List X → List ℕ
items_text word line items = number_line word (length items) ++ lines line 0 items

-- `list`: the subblocks
abbrev pub list_text : Live → List ℕ
list_text live = items_text (codes "tiles ") tile_line live.tiles

-- the FileGuid: it stands at 32 of the identity
unfoldable pub guid_line : List ℕ → List ℕ
guid_line identity = codes "guid " ++ (guid_text (bytes_at identity 32 16) ++ line_feed)

-- where a directory lies, or none
unfoldable pub directory_line : List ℕ → Option Span → List ℕ
directory_line word None = word ++ (codes "none" ++ line_feed)
directory_line word (Some s) = word ++ (span_text s ++ line_feed)

-- one subblock in `info`: its number, its extent, and how long its metadata, its pixels and its attachment are
unfoldable pub tile_info_line_of : ℕ → Span → ℕ → ℕ → ℕ → List ℕ
tile_info_line_of i s meta pixels tail = codes "tile " ++ (decimal i ++ (codes " " ++ (span_text s ++ (codes " meta=" ++ (decimal meta
    ++ (codes " data=" ++ (decimal pixels ++ (codes " att=" ++ (decimal tail ++ line_feed)))))))))

abbrev pub tile_info_line : ℕ → Tile → List ℕ
tile_info_line i t = tile_info_line_of i (extent t.segment) t.head.meta t.head.pixels t.head.tail

-- one attachment: its number, its extent, its info and its length
unfoldable pub attachment_line_of : ℕ → Span → AttInfo → ℕ → List ℕ
attachment_line_of i s info size = codes "attachment " ++ (decimal i ++ (codes " " ++ (span_text s
    ++ (codes " guid=" ++ (guid_text info.guid
    ++ (codes " type=" ++ (bytes_text (up_to_zero info.kind)
    ++ (codes " name=" ++ (bytes_text (up_to_zero info.name)
    ++ (codes " data=" ++ (decimal size ++ line_feed)))))))))))

abbrev pub attachment_line : ℕ → AttItem → List ℕ
attachment_line i a = attachment_line_of i (extent a.segment) a.entry.info a.size

-- the metadata: their extent, and how long the XML and the attachment are
unfoldable pub metadata_line_of : Span → ℕ → ℕ → List ℕ
metadata_line_of s xml tail = codes "metadata " ++ (span_text s ++ (codes " xml=" ++ (decimal xml ++ (codes " att=" ++ (decimal tail ++ line_feed)))))

unfoldable pub no_metadata_line : List ℕ
no_metadata_line = codes "metadata none" ++ line_feed

abbrev pub metadata_line : Option MetaItem → List ℕ
metadata_line None = no_metadata_line
metadata_line (Some m) = metadata_line_of (extent m.segment) m.head.xml m.head.tail

-- `info` of an image of n bytes: its length, its GUID, where both directories lie, each subblock, each attachment, the metadata
unfoldable pub info_text : ℕ → Live → List ℕ
info_text n live = number_line (codes "length ") n
    ++ (guid_line live.header.identity
    ++ (directory_line (codes "directory ") (extent_of live.directory)
    ++ (items_text (codes "tiles ") tile_info_line live.tiles
    ++ (directory_line (codes "attdir ") (extent_of live.attdir)
    ++ (items_text (codes "attachments ") attachment_line live.attachments
    ++ metadata_line live.metadata)))))

-- where one of a list of spans lies, behind a word
abbrev pub span_line : List ℕ → ℕ → Span → List ℕ
span_line word i s = text_line word (span_text s)

-- `map`: the length, the free runs and the held spans
unfoldable pub map_text : ℕ → List Span → List Span → List ℕ
map_text n runs held = number_line (codes "length ") n
    ++ (items_text (codes "runs ") (span_line (codes "run ")) runs
    ++ items_text (codes "held ") (span_line (codes "held ")) held)

-- `check`: how many live segments, DELETED extents and unknown segments there are, and how many bytes lie past the walk's end
unfoldable pub check_text : ℕ → ℕ → ℕ → ℕ → List ℕ
check_text live deleted unknown tail = codes "check live=" ++ (decimal live ++ (codes " runs=" ++ (decimal deleted
    ++ (codes " unknown=" ++ (decimal unknown ++ (codes " tail=" ++ (decimal tail ++ line_feed)))))))
