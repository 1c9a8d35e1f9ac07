-- The commands and lines of the code, as the script's definitions see them.
use Rattle.std.specs.Prelude.{List, [], ◌∷◌}
use Rattle.czi_doc.specs.QueryView.{query_of}
use Rattle.czi_doc.specs.View.{att_of, bytes_of, dims_of, info_of}
use Rattle.czi_script.specs.declared.command.Command.{Command as CodeCommand}
use Rattle.czi_script.specs.declared.command.Command.TheVariants.{Add as AddOf, Replace as ReplaceOf, Remove as RemoveOf, Attach as AttachOf, Reattach as ReattachOf, Detach as DetachOf, SetMeta as SetMetaOf, Undo as UndoOf, Region as RegionOf, List as ListOf, Info as InfoOf, Map as MapOf, Check as CheckOf, Long as LongOf}
use Rattle.czi_script.specs.declared.head.Head.{Head as CodeHead}
use Rattle.czi_script.specs.declared.head.Head.TheVariants.{Alone as AloneOf, Brings as BringsOf}
use Rattle.czi_script.specs.declared.head.Plain.{Plain as CodePlain}
use Rattle.czi_script.specs.declared.head.Plain.TheVariants.{Remove as RemoveLine, Detach as DetachLine, Undo as UndoLine, Region as RegionLine, List as ListLine, Info as InfoLine, Map as MapLine, Check as CheckLine}
use Rattle.czi_script.specs.declared.payload.Payload.{Payload as CodePayload}
use Rattle.czi_script.specs.declared.payload.Payload.TheVariants.{Tile as TileOf, Attachment as AttachmentOf, Metadata as MetadataOf}
use Rattle.czi_script.specs.declared.payload.Attachment.{Attachment as CodeAttachment}
use Rattle.czi_script.specs.declared.payload.Piece.{Piece as CodePiece}
use Rattle.czi_script.specs.declared.payload.Pieces.{Pieces as CodePieces}
use Rattle.czi_script.specs.declared.payload.Tile.{Tile as CodeTile}
use Rattle.czi_script.specs.declared.payload.Verb.{Verb as CodeVerb}
use Rattle.czi_script.specs.declared.payload.Verb.TheVariants.{Add as AddVerb, Replace as ReplaceVerb}
use Rattle.czi_script.specs.Script.{Command, Add, Replace, Remove, Attach, Reattach, Detach, SetMeta, Undo, Region, Listing, Info, Map, Check, Past, Verb, Adds, Replaces, Plain, Removes, Detaches, Undoes, Paints, Lists, Tells, Maps, Checks, Payload, Tile, Attachment, Metadata, Head, Alone, Brings, Piece}

abbrev pub command_of : CodeCommand → Command
command_of (AddOf info meta pixels tail) = Add (info_of info) (bytes_of meta) (bytes_of pixels) (bytes_of tail)
command_of (ReplaceOf info meta pixels tail) = Replace (info_of info) (bytes_of meta) (bytes_of pixels) (bytes_of tail)
command_of (RemoveOf dims) = Remove (dims_of dims)
command_of (AttachOf info bytes) = Attach (att_of info) (bytes_of bytes)
command_of (ReattachOf info bytes) = Reattach (att_of info) (bytes_of bytes)
command_of (DetachOf name) = Detach (bytes_of name)
command_of (SetMetaOf xml tail) = SetMeta (bytes_of xml) (bytes_of tail)
command_of UndoOf = Undo
command_of (RegionOf query) = Region (query_of query)
command_of ListOf = Listing
command_of InfoOf = Info
command_of MapOf = Map
command_of CheckOf = Check
command_of (LongOf len limit) = Past len limit

abbrev pub verb_of : CodeVerb → Verb
verb_of AddVerb = Adds
verb_of ReplaceVerb = Replaces

abbrev pub plain_of : CodePlain → Plain
plain_of (RemoveLine dims) = Removes (dims_of dims)
plain_of (DetachLine name) = Detaches (bytes_of name)
plain_of UndoLine = Undoes
plain_of (RegionLine query) = Paints (query_of query)
plain_of ListLine = Lists
plain_of InfoLine = Tells
plain_of MapLine = Maps
plain_of CheckLine = Checks

abbrev pub tile_of : CodeTile → Payload
tile_of t = Tile (verb_of t.verb) (info_of t.info) t.meta t.pixels t.tail

abbrev pub attachment_of : CodeAttachment → Payload
attachment_of a = Attachment (verb_of a.verb) (att_of a.info) a.size

abbrev pub payload_of : CodePayload → Payload
payload_of (TileOf t) = tile_of t
payload_of (AttachmentOf a) = attachment_of a
payload_of (MetadataOf m) = Metadata m.xml m.tail

abbrev pub head_of : CodeHead → Head
head_of (AloneOf c) = Alone (plain_of c)
head_of (BringsOf p) = Brings (payload_of p)

abbrev pub piece_of : CodePiece → Piece
piece_of p = record { len = p.len; limit = p.limit }

abbrev pub pieces_of : CodePieces → List Piece
pieces_of p = piece_of p.first ∷ piece_of p.second ∷ piece_of p.third ∷ []
