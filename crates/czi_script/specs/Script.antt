-- Edit scripts: a list of commands, each of which is one line that ends with a line feed. Where a line says so, the bytes of a
-- payload follow, and one line feed more. A line is a word and fields ` name=value`, each after one space.
use Rattle.std.specs.Prelude.{◌≡◌, ◌≢◌, ◌⊎◌, ℕ, ◌+◌, ◌-◌, find, ◌^◌, ◌<◌, ◌≤◌, ℤ, List, [], ◌∷◌, ◌++◌, take, drop, length, replicate, Bool, not, ◌==◌, nat_lt, IsTrue, IsFalse, codes, bytes_eq, FitsSigned, Option, Some, None, is_some, option_map, if◌then◌else◌}
use Rattle.std.specs.Int.{w32}
use Rattle.std.specs.List.{AllByRecursion, list_any, prefix_len}
use Rattle.std.specs.Ordering.{int_eq}
use Rattle.czi_format.specs.Partial.{◌>>=◌, given}
use Rattle.uuid.specs.Text.{parsed}
use Rattle.czi_format.specs.Bytes.{stored_order}
use Rattle.czi_format.specs.Entry.{AttInfo, Dim, EntryInfo}
use Rattle.czi_format.specs.declared.numbers.TheConstants.{DATA_LIMIT, TEXT_LIMIT}
use Rattle.czi_doc.specs.DimText.{IsDimText, IsNatural, IsNumber}
use Rattle.czi_doc.specs.PlaneText.{IsPlaneText}
use Rattle.czi_format.specs.Key.{Axis}
use Rattle.czi_format.specs.Painting.{PixelType, Query, pixel_types}
use Rattle.czi_script.specs.BytesText.{IsBytesText, IsPaddedText}
use Rattle.czi_script.specs.declared.kind.Kind.{Kind}
use Rattle.czi_script.specs.declared.kind.Kind.TheVariants.{Cut, Long, Word, Later, Field, Value, Tail}

-- What a script asks for: to add a subblock with these metadata, pixel data and attachment, or to put it in the place of the
-- one that its dimensions name; to remove the subblock that these dimensions name; to attach these bytes, or to put them in the
-- place of the attachment with their name; to detach the one with this name; to set the metadata to this XML and attachment; to
-- undo the last of these that isn't undone yet; to paint this region; to list the subblocks, to tell of the image, to map its free space, or to count its segments. Nothing is asked for by a command
-- with a payload of which a piece has so many bytes, which is past this limit.
pub data Command : Type 0 where
  Add : EntryInfo → List ℕ → List ℕ → List ℕ → Command
  Replace : EntryInfo → List ℕ → List ℕ → List ℕ → Command
  Remove : List Dim → Command
  Attach : AttInfo → List ℕ → Command
  Reattach : AttInfo → List ℕ → Command
  Detach : List ℕ → Command
  SetMeta : List ℕ → List ℕ → Command
  Undo : Command
  Region : Query → Command
  Listing : Command
  Info : Command
  Map : Command
  Check : Command
  Past : ℕ → ℕ → Command

-- whether something is added, or put in the place of another
pub data Verb : Type 0 where
  Adds : Verb
  Replaces : Verb

-- a command that its line says whole
pub data Plain : Type 0 where
  Removes : List Dim → Plain
  Detaches : List ℕ → Plain
  Undoes : Plain
  Paints : Query → Plain
  Lists : Plain
  Tells : Plain
  Maps : Plain
  Checks : Plain

-- What follows a line: a subblock's metadata, pixel data and attachment, the bytes of an attachment, or the XML and the
-- attachment of the metadata, and how many bytes each of these has.
pub data Payload : Type 0 where
  Tile : Verb → EntryInfo → ℕ → ℕ → ℕ → Payload
  Attachment : Verb → AttInfo → ℕ → Payload
  Metadata : ℕ → ℕ → Payload

-- What a line says: a whole command, or what follows it.
pub data Head : Type 0 where
  Alone : Plain → Head
  Brings : Payload → Head

-- none of the bytes is b
abbrev pub HasNo : ℕ → List ℕ → Type 0
HasNo b bytes = AllByRecursion (λ x. x ≢ b) bytes

-- the first line of the bytes ends with a line feed among their first 4096
pub record FirstLine (line bytes : List ℕ) : Type 0 where
  pub more : List ℕ
  pub whole : bytes ≡ line ++ 10 ∷ more
  pub free : HasNo 10 line
  pub short : length line < 4096

-- how many bytes stand before the first b
abbrev pub len_before : ℕ → List ℕ → ℕ
len_before b bytes = prefix_len (λ x. not (x == b)) bytes

-- the bytes of a line up to its first space, or all of them, and the others
abbrev pub word : List ℕ → List ℕ
word line = take (len_before 32 line) line

abbrev pub behind_word : List ℕ → List ℕ
behind_word line = drop (len_before 32 line) line

-- A field of a line: what stands in front of its value, and what is its value where it is left out, if it may be.
pub record FieldForm : Type 0 where
  pub mark : List ℕ
  pub missing : Option (List ℕ)

abbrev pub needed : List ℕ → FieldForm
needed mark = record { mark = mark; missing = None }

abbrev pub zero_if_missing : List ℕ → FieldForm
zero_if_missing mark = record { mark = mark; missing = Some (codes "0") }

-- What stands for the value of a field that is left out, where no value is meant: a space, which no value has.
abbrev pub left_out : List ℕ
left_out = codes " "

abbrev pub if_given : List ℕ → FieldForm
if_given mark = record { mark = mark; missing = Some left_out }

-- a line: its word, and its fields in their order
pub record LineForm : Type 0 where
  pub name : List ℕ
  pub fields : List FieldForm

abbrev pub tile_fields : List FieldForm
tile_fields = needed (codes " pixel=") ∷ zero_if_missing (codes " comp=") ∷ zero_if_missing (codes " pyramid=") ∷ needed (codes " dims=") ∷ needed (codes " meta=") ∷ needed (codes " data=") ∷ needed (codes " att=") ∷ []

abbrev pub attachment_fields : List FieldForm
attachment_fields = needed (codes " guid=") ∷ needed (codes " type=") ∷ needed (codes " name=") ∷ needed (codes " data=") ∷ []

abbrev pub metadata_fields : List FieldForm
metadata_fields = needed (codes " xml=") ∷ needed (codes " att=") ∷ []

abbrev pub region_fields : List FieldForm
region_fields = needed (codes " pixel=") ∷ needed (codes " layer=") ∷ needed (codes " x=") ∷ needed (codes " y=") ∷ needed (codes " w=") ∷ needed (codes " h=") ∷ if_given (codes " scene=") ∷ if_given (codes " plane=") ∷ []

-- the lines that are built, and the words of the format's other lines
abbrev pub lines : List LineForm
lines = record { name = codes "add"; fields = tile_fields }
    ∷ record { name = codes "replace"; fields = tile_fields }
    ∷ record { name = codes "remove"; fields = needed (codes " dims=") ∷ [] }
    ∷ record { name = codes "attach"; fields = attachment_fields }
    ∷ record { name = codes "reattach"; fields = attachment_fields }
    ∷ record { name = codes "detach"; fields = needed (codes " name=") ∷ [] }
    ∷ record { name = codes "meta"; fields = metadata_fields }
    ∷ record { name = codes "undo"; fields = [] }
    ∷ record { name = codes "region"; fields = region_fields }
    ∷ record { name = codes "list"; fields = [] }
    ∷ record { name = codes "info"; fields = [] }
    ∷ record { name = codes "map"; fields = [] }
    ∷ record { name = codes "check"; fields = [] }
    ∷ []

abbrev pub later_words : List (List ℕ)
later_words = codes "repack" ∷ []

abbrev pub is_among : List (List ℕ) → List ℕ → Bool
is_among words w = list_any (bytes_eq w) words

-- the fields of the line with this word
abbrev pub fields_for : List LineForm → List ℕ → Option (List FieldForm)
fields_for [] w = None
fields_for (l ∷ ls) w = if bytes_eq w l.name then Some l.fields else fields_for ls w

-- a value, and what stands behind it: a value ends in front of the next space
pub record Split : Type 0 where
  pub value : List ℕ
  pub rest : List ℕ

abbrev pub value_at : List ℕ → List ℕ → Option Split
value_at mark text = given (bytes_eq (take (length mark) text) mark) (record { value = word (drop (length mark) text); rest = behind_word (drop (length mark) text) })

-- The values of these fields, where the text is these fields and nothing else.
abbrev pub with_value : List ℕ → Option (List (List ℕ)) → Option (List (List ℕ))
with_value value values = values >>= λ vs. Some (value ∷ vs)

abbrev pub from_field : Option Split → Option (List ℕ) → (List ℕ → Option (List (List ℕ))) → List ℕ → Option (List (List ℕ))
from_field (Some s) missing others text = with_value s.value (others s.rest)
from_field None (Some value) others text = with_value value (others text)
from_field None None others text = None

abbrev pub values_at : List FieldForm → List ℕ → Option (List (List ℕ))
values_at [] text = given (length text == 0) []
values_at (f ∷ fs) text = from_field (value_at f.mark text) f.missing (values_at fs) text

abbrev pub values_of : List ℕ → Option (List (List ℕ))
values_of line = fields_for lines (word line) >>= λ fields. values_at fields (behind_word line)

-- a signed number of 32 bits, and one of 64 bits without a sign
abbrev pub IsSigned : List ℕ → ℤ → Type 0
IsSigned text n = IsNumber text n × FitsSigned w32 n

abbrev pub IsSize : List ℕ → ℕ → Type 0
IsSize text n = IsNatural text n × (n < 2 ^ 64)

-- The values of a subblock's line. The spare bytes of its entry are zero.
pub record TileValues (info : EntryInfo) (meta pixels tail : ℕ) (values : List (List ℕ)) : Type 0 where
  pub pixel_text : List ℕ
  pub comp_text : List ℕ
  pub pyramid_text : List ℕ
  pub dims_text : List ℕ
  pub meta_text : List ℕ
  pub data_text : List ℕ
  pub att_text : List ℕ
  pub texts : values ≡ pixel_text ∷ comp_text ∷ pyramid_text ∷ dims_text ∷ meta_text ∷ data_text ∷ att_text ∷ []
  pub is_pixel : IsSigned pixel_text info.pixel
  pub is_comp : IsSigned comp_text info.compression
  pub is_pyramid : IsNatural pyramid_text info.pyramid × (info.pyramid < 2 ^ 8)
  pub is_dims : IsDimText dims_text info.dims
  pub is_meta : IsSize meta_text meta
  pub is_data : IsSize data_text pixels
  pub is_att : IsSize att_text tail
  pub spare : info.spare ≡ replicate 5 0

-- The values of an attachment's line: a GUID, and a type and a name in bytes text.
pub record AttachmentValues (info : AttInfo) (len : ℕ) (values : List (List ℕ)) : Type 0 where
  pub guid_text : List ℕ
  pub type_text : List ℕ
  pub name_text : List ℕ
  pub data_text : List ℕ
  pub texts : values ≡ guid_text ∷ type_text ∷ name_text ∷ data_text ∷ []
  pub is_guid : option_map stored_order (parsed guid_text) ≡ Some info.guid
  pub is_type : IsPaddedText 8 type_text info.kind
  pub is_name : IsPaddedText 80 name_text info.name
  pub is_data : IsSize data_text len

-- a number from 1 to the greatest one
abbrev pub IsCount : ℕ → List ℕ → ℕ → Type 0
IsCount most text n = IsNatural text n × (1 ≤ n) × (n ≤ most)

-- the code of a pixel type that can be painted
abbrev pub IsPixel : List ℕ → PixelType → Type 0
IsPixel text t = (code : ℤ) × IsSigned text code × (find (λ u. int_eq u.code code) pixel_types ≡ Some t)

-- a scene, or none where it is left out; and a plane, which is empty where it is left out
abbrev pub IsScene : List ℕ → Option ℤ → Type 0
IsScene text None = text ≡ left_out
IsScene text (Some n) = IsSigned text n

abbrev pub IsPlane : List ℕ → List Axis → Type 0
IsPlane text [] = text ≡ left_out
IsPlane text (a ∷ axes) = IsPlaneText text (a ∷ axes)

-- The values of a region's line.
pub record RegionValues (q : Query) (values : List (List ℕ)) : Type 0 where
  pub pixel_text : List ℕ
  pub layer_text : List ℕ
  pub x_text : List ℕ
  pub y_text : List ℕ
  pub w_text : List ℕ
  pub h_text : List ℕ
  pub scene_text : List ℕ
  pub plane_text : List ℕ
  pub texts : values ≡ pixel_text ∷ layer_text ∷ x_text ∷ y_text ∷ w_text ∷ h_text ∷ scene_text ∷ plane_text ∷ []
  pub is_pixel : IsPixel pixel_text q.pixel
  pub is_layer : IsCount (2 ^ 16) layer_text q.layer
  pub is_x : IsSigned x_text q.x
  pub is_y : IsSigned y_text q.y
  pub is_w : IsCount (2 ^ 32 - 1) w_text q.w
  pub is_h : IsCount (2 ^ 32 - 1) h_text q.h
  pub is_scene : IsScene scene_text q.scene
  pub is_plane : IsPlane plane_text q.plane

-- what each line says, by its word and its values
abbrev pub tile_word : Verb → List ℕ
tile_word Adds = codes "add"
tile_word Replaces = codes "replace"

abbrev pub attachment_word : Verb → List ℕ
attachment_word Adds = codes "attach"
attachment_word Replaces = codes "reattach"

abbrev pub head_word : Head → List ℕ
head_word (Brings (Tile verb info meta pixels tail)) = tile_word verb
head_word (Alone (Removes dims)) = codes "remove"
head_word (Brings (Attachment verb info len)) = attachment_word verb
head_word (Alone (Detaches name)) = codes "detach"
head_word (Brings (Metadata xml tail)) = codes "meta"
head_word (Alone Undoes) = codes "undo"
head_word (Alone (Paints q)) = codes "region"
head_word (Alone Lists) = codes "list"
head_word (Alone Tells) = codes "info"
head_word (Alone Maps) = codes "map"
head_word (Alone Checks) = codes "check"

abbrev pub AreValues : Head → List (List ℕ) → Type 0
AreValues (Brings (Tile verb info meta pixels tail)) values = TileValues info meta pixels tail values
AreValues (Alone (Removes dims)) values = (text : List ℕ) × (values ≡ text ∷ []) × IsDimText text dims
AreValues (Brings (Attachment verb info len)) values = AttachmentValues info len values
AreValues (Alone (Detaches name)) values = (text : List ℕ) × (values ≡ text ∷ []) × IsBytesText 80 text name
AreValues (Brings (Metadata xml tail)) values = (a b : List ℕ) × (values ≡ a ∷ b ∷ []) × IsSize a xml × IsSize b tail
AreValues (Alone Undoes) values = values ≡ []
AreValues (Alone (Paints q)) values = RegionValues q values
AreValues (Alone Lists) values = values ≡ []
AreValues (Alone Tells) values = values ≡ []
AreValues (Alone Maps) values = values ≡ []
AreValues (Alone Checks) values = values ≡ []

-- The line, without its line feed, says this. A number or a dimension text may have several spellings, and so does the line.
pub record IsHead (head : Head) (line : List ℕ) : Type 0 where
  pub values : List (List ℕ)
  pub named : word line ≡ head_word head
  pub given_so : values_of line ≡ Some values
  pub are : AreValues head values

-- a piece of a payload: how many bytes it has, and how many it may have
pub record Piece : Type 0 where
  pub len : ℕ
  pub limit : ℕ

abbrev pub pieces : Head → List Piece
pieces (Alone c) = []
pieces (Brings (Tile verb info meta pixels tail)) = record { len = meta; limit = TEXT_LIMIT } ∷ record { len = pixels; limit = DATA_LIMIT } ∷ record { len = tail; limit = DATA_LIMIT } ∷ []
pieces (Brings (Attachment verb info len)) = record { len = len; limit = DATA_LIMIT } ∷ []
pieces (Brings (Metadata xml tail)) = record { len = xml; limit = TEXT_LIMIT } ∷ record { len = tail; limit = DATA_LIMIT } ∷ []

abbrev pub total : List Piece → ℕ
total [] = 0
total (p ∷ ps) = p.len + total ps

abbrev pub payload_len : Head → ℕ
payload_len head = total (pieces head)

-- what stands behind the line and its payload
abbrev pub close : Head → List ℕ
close (Alone c) = []
close (Brings p) = 10 ∷ []

-- how many bytes stand behind the line and its line feed
abbrev pub rest_len : Head → ℕ
rest_len head = payload_len head + length (close head)

-- the first piece that is past its limit
abbrev pub first_past : List Piece → Option Piece
first_past [] = None
first_past (p ∷ ps) = if nat_lt p.limit p.len then Some p else first_past ps

-- the command of a line, and of a line and its payload
abbrev pub plain_command : Plain → Command
plain_command (Removes dims) = Remove dims
plain_command (Detaches name) = Detach name
plain_command Undoes = Undo
plain_command (Paints q) = Region q
plain_command Lists = Listing
plain_command Tells = Info
plain_command Maps = Map
plain_command Checks = Check

abbrev pub with_contents : Head → List ℕ → Command
with_contents (Alone c) payload = plain_command c
with_contents (Brings (Tile Adds info meta pixels tail)) payload = Add info (take meta payload) (take pixels (drop meta payload)) (drop (meta + pixels) payload)
with_contents (Brings (Tile Replaces info meta pixels tail)) payload = Replace info (take meta payload) (take pixels (drop meta payload)) (drop (meta + pixels) payload)
with_contents (Brings (Attachment Adds info len)) payload = Attach info payload
with_contents (Brings (Attachment Replaces info len)) payload = Reattach info payload
with_contents (Brings (Metadata xml tail)) payload = SetMeta (take xml payload) (drop xml payload)

abbrev pub or_past : Option Piece → Command → Command
or_past None c = c
or_past (Some p) c = Past p.len p.limit

abbrev pub command_with : Head → List ℕ → Command
command_with head payload = or_past (first_past (pieces head)) (with_contents head payload)

-- The bytes spell the command: its line, of at most 4096 bytes with the line feed, its payload, and what closes that.
pub record Spells (c : Command) (bytes : List ℕ) : Type 0 where
  pub line : List ℕ
  pub head : Head
  pub payload : List ℕ
  pub first : FirstLine line bytes
  pub is_head : IsHead head line
  pub sized : length payload ≡ payload_len head
  pub behind : first.more ≡ payload ++ close head
  pub tells : c ≡ command_with head payload

-- the word of a line is one of those that are built, and its fields are right
abbrev pub is_built : List ℕ → Bool
is_built line = is_some (fields_for lines (word line))

abbrev pub has_fields : List ℕ → Bool
has_fields line = is_some (values_of line)

-- Why a whole line is none: its word is none of the format's or isn't built yet, its fields aren't right, or a value of them
-- isn't of its form.
abbrev pub IsWrong : Kind → List ℕ → Type 0
IsWrong Cut line = ⊥
IsWrong Long line = ⊥
IsWrong Word line = IsFalse (is_built line) × IsFalse (is_among later_words (word line))
IsWrong Later line = IsTrue (is_among later_words (word line))
IsWrong Field line = IsTrue (is_built line) × IsFalse (has_fields line)
IsWrong Value line = IsTrue (has_fields line) × ((head : Head) → IsHead head line → ⊥)
IsWrong Tail line = ⊥

-- The bytes are the beginning of a line, or a whole line and less than what follows it.
pub record BeginsPayload (bytes : List ℕ) : Type 0 where
  pub line : List ℕ
  pub head : Head
  pub first : FirstLine line bytes
  pub is_head : IsHead head line
  pub less : length first.more < rest_len head

abbrev pub IsUnfinished : List ℕ → Type 0
IsUnfinished bytes = (HasNo 10 bytes × (length bytes < 4096)) ⊎ BeginsPayload bytes

-- behind a payload stands another byte than a line feed
pub record EndsOtherwise (bytes : List ℕ) : Type 0 where
  pub line : List ℕ
  pub head : Head
  pub payload : List ℕ
  pub byte : ℕ
  pub more : List ℕ
  pub first : FirstLine line bytes
  pub is_head : IsHead head line
  pub sized : length payload ≡ payload_len head
  pub closed : close head ≡ 10 ∷ []
  pub behind : first.more ≡ payload ++ byte ∷ more
  pub other : byte ≢ 10

-- Why the bytes begin with no command: they end within one, the line is too long, it is wrong, or the payload ends otherwise.
-- A line is read whole before its word is looked at, and before its payload. A wrong line has none.
abbrev pub IsFault : Kind → List ℕ → Type 0
IsFault Cut bytes = (bytes ≢ []) × IsUnfinished bytes
IsFault Long bytes = (4096 ≤ length bytes) × HasNo 10 (take 4096 bytes)
IsFault Word bytes = (line : List ℕ) × FirstLine line bytes × IsWrong Word line
IsFault Later bytes = (line : List ℕ) × FirstLine line bytes × IsWrong Later line
IsFault Field bytes = (line : List ℕ) × FirstLine line bytes × IsWrong Field line
IsFault Value bytes = (line : List ℕ) × FirstLine line bytes × IsWrong Value line
IsFault Tail bytes = EndsOtherwise bytes

-- How a script ends: well, or at a fault, with the number of the command and the kind.
pub data End : Type 0 where
  Done : End
  Fault : ℕ → Kind → End

-- How a script ends whose commands leave this rest, where the command after them has this number.
abbrev pub IsEnd : ℕ → List ℕ → End → Type 0
IsEnd number rest Done = rest ≡ []
IsEnd number rest (Fault n kind) = (n ≡ number) × IsFault kind rest

-- no spelling of a command begins the bytes
abbrev pub NoneBegins : List ℕ → Type 0
NoneBegins bytes = (c : Command) (spelled more : List ℕ) → Spells c spelled → bytes ≡ spelled ++ more → ⊥

-- the bytes are spellings of the commands, one behind another
abbrev pub SpellAll : List Command → List ℕ → Type 0
SpellAll [] bytes = bytes ≡ []
SpellAll (c ∷ cs) bytes = (spelled more : List ℕ) × (bytes ≡ spelled ++ more) × Spells c spelled × SpellAll cs more

-- The bytes are spellings of these commands, of which the first has this number, and then a rest that no spelling begins.
pub record Reads (first : ℕ) (bytes : List ℕ) (cs : List Command) (end : End) : Type 0 where
  pub front : List ℕ
  pub rest : List ℕ
  pub whole : bytes ≡ front ++ rest
  pub spelled : SpellAll cs front
  pub stuck : NoneBegins rest
  pub ends : IsEnd (first + length cs) rest end

-- What stands next in a script of which only so many bytes may be looked at: a command, its end, a fault, or none of these,
-- since those bytes don't suffice and it goes on.
pub data Found : Type 0 where
  Next : Command → Found
  Ended : Found
  Wrong : Kind → Found
  Beyond : Found

-- A fault shows in the first so many bytes: there are no more, or every continuation of these has it.
abbrev pub Shows : ℕ → Kind → List ℕ → Type 0
Shows room kind bytes = ((length bytes ≤ room) × IsFault kind bytes) ⊎ ((more : List ℕ) → IsFault kind (take room bytes ++ more))

-- The command's spelling is among these bytes, or nothing is left, or the fault shows in them. They don't suffice where more
-- follow, and they are an unfinished command.
abbrev pub Finds : ℕ → List ℕ → Found → Type 0
Finds room bytes (Next c) = (spelled more : List ℕ) × (bytes ≡ spelled ++ more) × Spells c spelled × (length spelled ≤ room)
Finds room bytes Ended = bytes ≡ []
Finds room bytes (Wrong kind) = Shows room kind bytes
Finds room bytes Beyond = (room < length bytes) × IsUnfinished (take room bytes)
