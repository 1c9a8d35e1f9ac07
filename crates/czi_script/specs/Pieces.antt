-- Steps inside the reading of one command.
use Rattle.std.specs.Prelude.{◌≡◌, ◌≢◌, ◌⊎◌, ℕ, ℤ, ◌+◌, ◌-◌, ◌^◌, ◌<◌, ◌≤◌, List, [], ◌∷◌, ◌++◌, take, drop, length, Bool, true, false, Option, Some, None, option_map, map}
use Rattle.std.specs.Option.{ForSome}
use Rattle.std.specs.Borrow.{Bor}
use Rattle.czi_format.specs.Entry.{AttInfo, EntryInfo}
use Rattle.czi_format.specs.Text.{byte_text}
use Rattle.czi_doc.specs.DimText.{IsNatural}
use Rattle.czi_doc.specs.View.{info_of}
use Rattle.czi_script.specs.declared.command.Command.{Command as CodeCommand}
use Rattle.czi_script.specs.declared.head.Head.{Head as CodeHead}
use Rattle.czi_script.specs.declared.payload.Tile.{Tile as CodeTile}
use Rattle.czi_script.specs.declared.payload.Verb.{Verb as CodeVerb}
use Rattle.czi_script.specs.declared.kind.Kind.{Kind}
use Rattle.czi_script.specs.declared.kind.Kind.TheVariants.{Cut, Long, Word, Later, Field, Value, Tail}
use Rattle.czi_script.specs.declared.error.ScriptError.{ScriptError}
use Rattle.czi_script.specs.declared.error.ScriptError.TheVariants.{Fault, Input as InputFailed, TooLong, Memory}
use Rattle.czi_script.specs.declared.fields.Refusal.{Refusal}
use Rattle.czi_script.specs.declared.fields.Refusal.TheVariants.{Kind as OfKind, Memory as NoMemory}
use Rattle.czi_script.specs.declared.attachments.Names.{Names}
use Rattle.czi_script.specs.declared.fields.Texts.{Texts}
use Rattle.czi_script.specs.declared.regions.RegionTexts.{RegionTexts}
use Rattle.czi_format.specs.Painting.{PixelType, Query}
use Rattle.czi_script.specs.declared.lines.Front.{Front}
use Rattle.czi_script.specs.declared.lines.Front.TheVariants.{Line, Long as TooFar, Part}
use Rattle.czi_script.specs.BytesText.{IsSpelled}
use Rattle.czi_script.specs.Script.{HasNo, Head, Brings, Payload, Tile, Attachment, Metadata, Piece, IsHead, IsWrong, IsFault, TileValues, AttachmentValues, IsCount, IsPixel, IsScene, IsSigned, IsSize, RegionValues, FieldForm, Split, AreValues, head_word, region_fields, values_at, pieces, payload_len, close, command_with}
use Rattle.czi_script.specs.Reader.{Reader, Uses, GoesOn, HoldsNoLine, limit}
use Rattle.czi_script.specs.View.{command_of, head_of}

-- what stands in front of the bytes
abbrev pub IsFront : List ℕ → Front → Type 0
IsFront bytes (Line len) = (len < 4096) × (len < length bytes) × HasNo 10 (take len bytes) × (bytes ≡ take len bytes ++ 10 ∷ drop (len + 1) bytes)
IsFront bytes TooFar = (4096 ≤ length bytes) × HasNo 10 (take 4096 bytes)
IsFront bytes Part = (length bytes < 4096) × HasNo 10 bytes

-- why a whole line gives no command
abbrev pub GivesNoCommand : List ℕ → Refusal → Type 0
GivesNoCommand line (OfKind kind) = IsWrong kind line
GivesNoCommand line NoMemory = Unit {0}

-- the input is at its end
abbrev pub AtEnd : Option (List ℕ) → Type 0
AtEnd left = ForSome left (λ bytes. bytes ≡ [])

-- The bytes that were held are followed by these, which are the first that the input had left.
pub record Adds (held new more : List ℕ) (before after : Option (List ℕ)) : Type 0 where
  pub whole : new ≡ held ++ more
  pub left : ForSome before (λ left. (rest : List ℕ) × (left ≡ more ++ rest) × (after ≡ Some rest))

-- so many bytes were added, none only at the input's end
pub record Added (held new : List ℕ) (count : ℕ) (before after : Option (List ℕ)) : Type 0 where
  pub more : List ℕ
  pub counted : length more ≡ count
  pub adds : Adds held new more before after
  pub none : count ≡ 0 → AtEnd after

-- A reader took these bytes, and used none.
pub record TookOn (old new : Reader) (before after : Option (List ℕ)) (more : List ℕ) : Type 0 where
  pub adds : Adds old.held new.held more before after
  pub taken : new.taken ≡ old.taken + length more
  pub commands : new.commands ≡ old.commands
  pub error : new.error ≡ old.error

-- where no more may be taken, the input failed, or it goes on
abbrev pub EndsLine : Option (List ℕ) → Option (List ℕ) → ScriptError → Type 0
EndsLine before after (Fault number kind) = ⊥
EndsLine before after InputFailed = after ≡ before
EndsLine before after TooLong = GoesOn before after
EndsLine before after Memory = ⊥

-- More bytes were taken, at least one of them where the input isn't at its end.
pub record Fills (old new : Reader) (before after : Option (List ℕ)) (some : Bool) : Type 0 where
  pub more : List ℕ
  pub took : TookOn old new before after more
  pub some_more : some ≡ true → 0 < length more
  pub none : some ≡ false → (more ≡ []) × AtEnd after

-- no more bytes were taken
abbrev pub FillStops : Reader → Reader → Option (List ℕ) → Option (List ℕ) → ScriptError → Type 0
FillStops old new before after (Fault number kind) = ⊥
FillStops old new before after InputFailed = (new ≡ old) × (after ≡ before)
FillStops old new before after TooLong = (new ≡ old) × (old.taken ≡ limit) × GoesOn before after
FillStops old new before after Memory = ⊥

-- A whole line stands in front, of so many bytes without its line feed, or the input is at its end behind a whole command.
abbrev pub FindsLine : Reader → Option (List ℕ) → Option ℕ → Type 0
FindsLine new after (Some len) = IsFront new.held (Line len)
FindsLine new after None = (new.held ≡ []) × AtEnd after

pub record Lines (old new : Reader) (before after : Option (List ℕ)) (found : Option ℕ) : Type 0 where
  pub more : List ℕ
  pub took : TookOn old new before after more
  pub finds : FindsLine new after found

-- No whole line comes.
pub record LineFault (old new : Reader) (before after : Option (List ℕ)) (number : ℕ) (kind : Kind) : Type 0 where
  pub more : List ℕ
  pub took : TookOn old new before after more
  pub next_one : number ≡ old.commands + 1
  pub fault : (IsFault Long new.held × (kind ≡ Long)) ⊎ ((IsFault Cut new.held × AtEnd after) × (kind ≡ Cut))

pub record LineFails (old new : Reader) (before after : Option (List ℕ)) : Type 0 where
  pub more : List ℕ
  pub took : TookOn old new before after more
  pub unfinished : HoldsNoLine new

pub record LinePasses (old new : Reader) (before after : Option (List ℕ)) : Type 0 where
  pub more : List ℕ
  pub middle : Option (List ℕ)
  pub took : TookOn old new before middle more
  pub full : new.taken ≡ limit
  pub unfinished : HoldsNoLine new
  pub goes_on : GoesOn middle after

abbrev pub LineStops : Reader → Reader → Option (List ℕ) → Option (List ℕ) → ScriptError → Type 0
LineStops old new before after (Fault number kind) = LineFault old new before after number kind
LineStops old new before after InputFailed = LineFails old new before after
LineStops old new before after TooLong = LinePasses old new before after
LineStops old new before after Memory = ⊥

-- The line in front says something and is used up, or it is wrong and everything is as it was.
abbrev pub UsesLine : Reader → Reader → ℕ → CodeHead → Type 0
UsesLine old new len h = IsHead (head_of h) (take len old.held) × (new.held ≡ drop (len + 1) old.held) × (new.taken ≡ old.taken) × (new.commands ≡ old.commands) × (new.error ≡ old.error)

abbrev pub RefusesLine : Reader → Reader → ℕ → ScriptError → Type 0
RefusesLine old new len (Fault number kind) = (new ≡ old) × (number ≡ old.commands + 1) × IsWrong kind (take len old.held)
RefusesLine old new len InputFailed = ⊥
RefusesLine old new len TooLong = ⊥
RefusesLine old new len Memory = new ≡ old

-- A reader used these bytes, and counts no command yet.
pub record Passed (old new : Reader) (before after : Option (List ℕ)) (bytes : List ℕ) : Type 0 where
  pub uses : Uses old new before after bytes
  pub later : old.taken ≤ new.taken
  pub commands : new.commands ≡ old.commands
  pub error : new.error ≡ old.error

-- It used at most so many bytes.
pub record PassedPart (old new : Reader) (before after : Option (List ℕ)) (most : ℕ) : Type 0 where
  pub part : List ℕ
  pub passed : Passed old new before after part
  pub few : length part ≤ most

-- The reading of so many bytes stopped, with none held: at the end of the input, where it failed, or where it goes on and no
-- more may be taken. Or memory was wanting.
abbrev pub Interrupted : Reader → Reader → Option (List ℕ) → Option (List ℕ) → ℕ → ScriptError → Type 0
Interrupted old new before after most (Fault number kind) = PassedPart old new before after most × (number ≡ old.commands + 1) × (kind ≡ Cut) × (new.held ≡ []) × AtEnd after
Interrupted old new before after most InputFailed = PassedPart old new before after most × (new.held ≡ [])
Interrupted old new before after most TooLong = (middle : Option (List ℕ)) × PassedPart old new before middle most × (new.held ≡ []) × (new.taken ≡ limit) × GoesOn middle after
Interrupted old new before after most Memory = PassedPart old new before after most

-- bytes were taken, at least one
pub record TakesSome (old new : Reader) (before after : Option (List ℕ)) (held all : List ℕ) : Type 0 where
  pub more : List ℕ
  pub some : 0 < length more
  pub whole : all ≡ held ++ more
  pub passed : Passed old new before after more

-- behind so many bytes another byte than a line feed is held
pub record OtherByte (old new : Reader) (before after : Option (List ℕ)) (count number : ℕ) (kind : Kind) : Type 0 where
  pub part : List ℕ
  pub passed : Passed old new before after part
  pub sized : length part ≡ count
  pub next_one : number ≡ old.commands + 1
  pub is_tail : kind ≡ Tail
  pub byte : ℕ
  pub more : List ℕ
  pub held : new.held ≡ byte ∷ more
  pub other : byte ≢ 10

abbrev pub EndsTail : Reader → Reader → Option (List ℕ) → Option (List ℕ) → ℕ → ScriptError → Type 0
EndsTail old new before after count (Fault number kind) = OtherByte old new before after count number kind
EndsTail old new before after count InputFailed = ⊥
EndsTail old new before after count TooLong = ⊥
EndsTail old new before after count Memory = ⊥

-- The line feed behind a payload is used, or none comes.
abbrev pub FeedStops : Reader → Reader → Option (List ℕ) → Option (List ℕ) → ScriptError → Type 0
FeedStops old new before after error = Interrupted old new before after 0 error ⊎ EndsTail old new before after 0 error

-- The payload of a line is used, and gives the command.
pub record Contents (old new : Reader) (before after : Option (List ℕ)) (h : Head) (c : CodeCommand) : Type 0 where
  pub payload : List ℕ
  pub passed : Passed old new before after payload
  pub sized : length payload ≡ payload_len h
  pub tells : command_of c ≡ command_with h payload

-- The payload and what closes it are used.
pub record Finished (old new : Reader) (before after : Option (List ℕ)) (h : Head) (c : CodeCommand) : Type 0 where
  pub payload : List ℕ
  pub passed : Passed old new before after (payload ++ close h)
  pub sized : length payload ≡ payload_len h
  pub tells : command_of c ≡ command_with h payload

-- or it isn't whole
abbrev pub PayloadStops : Reader → Reader → Option (List ℕ) → Option (List ℕ) → Head → ScriptError → Type 0
PayloadStops old new before after h error = (close h ≡ 10 ∷ []) × (Interrupted old new before after (payload_len h) error ⊎ EndsTail old new before after (payload_len h) error)

-- the fields of a line, and what they are

abbrev pub split_of : Option (Bor (List ℕ) × Bor (List ℕ)) → Option Split
split_of found = option_map (λ (x : Bor (List ℕ) × Bor (List ℕ)). record { value = x.0.now; rest = x.1.now }) found

-- These values are given, and this holds of them.
abbrev pub Given : List FieldForm → List ℕ → (List (List ℕ) → Type 0) → Type 0
Given fs text holds = (values : List (List ℕ)) × (values_at fs text ≡ Some values) × holds values

abbrev pub SaysFields : List ℕ → List FieldForm → List ℕ → Head → Type 0
SaysFields w fs text h = (head_word h ≡ w) × Given fs text (AreValues h)

abbrev pub RefusesBy : List ℕ → List FieldForm → List ℕ → Kind → Type 0
RefusesBy w fs text Cut = ⊥
RefusesBy w fs text Long = ⊥
RefusesBy w fs text Word = ⊥
RefusesBy w fs text Later = ⊥
RefusesBy w fs text Field = values_at fs text ≡ None
RefusesBy w fs text Value = Given fs text (λ values. (h : Head) → head_word h ≡ w → AreValues h values → ⊥)
RefusesBy w fs text Tail = ⊥

abbrev pub RefusesFields : List ℕ → List FieldForm → List ℕ → Refusal → Type 0
RefusesFields w fs text (OfKind kind) = RefusesBy w fs text kind
RefusesFields w fs text NoMemory = Unit {0}

-- the pieces of a payload, with empty ones behind them up to three
abbrev pub no_piece : Piece
no_piece = record { len = 0; limit = 0 }

abbrev pub three_pieces : Payload → List Piece
three_pieces (Tile verb info meta pixels tail) = pieces (Brings (Tile verb info meta pixels tail))
three_pieces (Attachment verb info len) = pieces (Brings (Attachment verb info len)) ++ no_piece ∷ no_piece ∷ []
three_pieces (Metadata xml tail) = pieces (Brings (Metadata xml tail)) ++ no_piece ∷ []

-- lists of bytes have as many as these pieces
abbrev pub HaveSizes : List Piece → List ℕ → List ℕ → List ℕ → Type 0
HaveSizes ps first second third = map (λ (p : Piece). p.len) ps ≡ length first ∷ length second ∷ length third ∷ []

-- bytes text in front of which stands the spelling of this byte
abbrev pub SpellsFirst : List ℕ → ℕ → List ℕ → Type 0
SpellsFirst text b rest = (text ≡ byte_text b ++ rest) × IsSpelled b

-- the values of a subblock's line
abbrev pub values_in : Texts → List (List ℕ)
values_in t = t.pixel.now ∷ t.comp.now ∷ t.pyramid.now ∷ t.dims.now ∷ t.meta.now ∷ t.pixels.now ∷ t.att.now ∷ []

abbrev pub AreNumbers : Texts → ℤ → ℤ → ℕ → ℕ → ℕ → ℕ → Type 0
AreNumbers t pixel comp pyramid meta pixels tail = IsSigned t.pixel.now pixel × IsSigned t.comp.now comp × (IsNatural t.pyramid.now pyramid × (pyramid < 2 ^ 8)) × IsSize t.meta.now meta × IsSize t.pixels.now pixels × IsSize t.att.now tail

abbrev pub NoNumbers : Texts → Type 0
NoNumbers t = (pixel comp : ℤ) (pyramid meta pixels tail : ℕ) → AreNumbers t pixel comp pyramid meta pixels tail → ⊥

abbrev pub ReadsTile : CodeVerb → Texts → CodeTile → Type 0
ReadsTile verb t tile = (tile.verb ≡ verb) × TileValues (info_of tile.info) tile.meta tile.pixels tile.tail (values_in t)

abbrev pub RefusesTile : Texts → Refusal → Type 0
RefusesTile t (OfKind kind) = (kind ≡ Value) × ((info : EntryInfo) (meta pixels tail : ℕ) → TileValues info meta pixels tail (values_in t) → ⊥)
RefusesTile t NoMemory = Unit {0}

-- the values of a region's line
abbrev pub region_values_in : RegionTexts → List (List ℕ)
region_values_in t = t.pixel.now ∷ t.layer.now ∷ t.x.now ∷ t.y.now ∷ t.w.now ∷ t.h.now ∷ t.scene.now ∷ t.plane.now ∷ []

abbrev pub AreRegionNumbers : RegionTexts → PixelType → ℕ → ℤ → ℤ → ℕ → ℕ → Option ℤ → Type 0
AreRegionNumbers t pixel layer x y w h scene = IsPixel t.pixel.now pixel × IsCount (2 ^ 16) t.layer.now layer × IsSigned t.x.now x × IsSigned t.y.now y × IsCount (2 ^ 32 - 1) t.w.now w × IsCount (2 ^ 32 - 1) t.h.now h × IsScene t.scene.now scene

abbrev pub NoRegionNumbers : RegionTexts → Type 0
NoRegionNumbers t = (pixel : PixelType) (layer : ℕ) (x y : ℤ) (w h : ℕ) (scene : Option ℤ) → IsPixel t.pixel.now pixel → IsCount (2 ^ 16) t.layer.now layer → IsSigned t.x.now x → IsSigned t.y.now y → IsCount (2 ^ 32 - 1) t.w.now w
    → IsCount (2 ^ 32 - 1) t.h.now h → IsScene t.scene.now scene → ⊥

abbrev pub RefusesRegion : RegionTexts → Refusal → Type 0
RefusesRegion t (OfKind kind) = (kind ≡ Value) × ((q : Query) → RegionValues q (region_values_in t) → ⊥)
RefusesRegion t NoMemory = Unit {0}

-- the fields of a line say no region
abbrev pub SaysNoRegion : List ℕ → Type 0
SaysNoRegion text = (q : Query) → Given region_fields text (RegionValues q) → ⊥

-- the values of an attachment's line
abbrev pub names_in : Names → List (List ℕ)
names_in t = t.guid.now ∷ t.kind.now ∷ t.name.now ∷ t.size.now ∷ []

abbrev pub RefusesAttachment : Names → Type 0
RefusesAttachment t = (info : AttInfo) (len : ℕ) → AttachmentValues info len (names_in t) → ⊥

-- two values
abbrev pub two_values : Bor (List ℕ) × Bor (List ℕ) → List (List ℕ)
two_values x = x.0.now ∷ x.1.now ∷ []
