-- The inverses of the code, as they are told.
use Rattle.std.specs.Prelude.{List, map}
use Rattle.czi_doc.specs.View.{att_of, info_of}
use Rattle.czi_undo.specs.Parts.{Command, HeldSegment, ToldPart, drops, in_attachments, in_tiles, inserts, no_metadata, puts, to_metadata, unchanged}
use Rattle.czi_undo.specs.declared.held.HeldSegment.{HeldSegment as CodeHeld}
use Rattle.czi_undo.specs.declared.inverse.Inverse.{Inverse}
use Rattle.czi_undo.specs.declared.inverse.Part.{Part}
use Rattle.czi_undo.specs.declared.inverse.Part.TheVariants.{DropSub, PutSub, InsertSub, DropAtt, PutAtt, InsertAtt, NoMeta, PutMeta, Same}

abbrev pub held_of : CodeHeld → HeldSegment
held_of h = record { at = h.span.at; header = h.head; walked = h.walked }

abbrev pub part_of : Part → ToldPart
part_of (DropSub place) = in_tiles (drops place)
part_of (PutSub place info held) = in_tiles (puts place (record { info = info_of info; held = held_of held }))
part_of (InsertSub place info held) = in_tiles (inserts place (record { info = info_of info; held = held_of held }))
part_of (DropAtt place) = in_attachments (drops place)
part_of (PutAtt place info held) = in_attachments (puts place (record { info = att_of info; held = held_of held }))
part_of (InsertAtt place info held) = in_attachments (inserts place (record { info = att_of info; held = held_of held }))
part_of NoMeta = no_metadata
part_of (PutMeta held) = to_metadata (held_of held)
part_of Same = unchanged

abbrev pub command_of : Inverse → Command
command_of i = record { parts = map part_of i.parts.items; edits = i.edits }

-- what a list tells, newest first
abbrev pub told : List Inverse → List Command
told inverses = map command_of inverses
