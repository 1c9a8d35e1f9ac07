-- The span that the inverse of a single edit holds back.
use Rattle.std.specs.Prelude.{◌≡◌, List, [], ◌∷◌, map, filter, ◌&&◌, if◌then◌else◌, Option, Some, None, option_to_list}
use Rattle.czi_format.specs.Partial.{◌>>=◌}
use Rattle.czi_format.specs.Span.{is_aligned}
use Rattle.czi_machine.specs.Places.{can_be_used}
use Rattle.czi_machine.specs.State.{spans_of}
use Rattle.czi_num.specs.Span.{span_of}
use Rattle.czi_num.specs.declared.span.Span.{Span}
use Rattle.czi_undo.specs.Parts.{return_places}
use Rattle.czi_undo.specs.Stands.{IsSingle}
use Rattle.czi_undo.specs.Told.{Single, return_of_single}
use Rattle.czi_undo.specs.declared.held.HeldSegment.{HeldSegment}
use Rattle.czi_undo.specs.declared.inverse.Inverse.{Inverse}
use Rattle.czi_undo.specs.declared.inverse.Part.{Part}
use Rattle.czi_undo.specs.declared.inverse.Part.TheVariants.{DropSub, PutSub, InsertSub, DropAtt, PutAtt, InsertAtt, NoMeta, PutMeta, Same}

-- the segment that a part brings back
abbrev pub held_of_part : Part → Option HeldSegment
held_of_part (DropSub place) = None
held_of_part (PutSub place info held) = Some held
held_of_part (InsertSub place info held) = Some held
held_of_part (DropAtt place) = None
held_of_part (PutAtt place info held) = Some held
held_of_part (InsertAtt place info held) = Some held
held_of_part NoMeta = None
held_of_part (PutMeta held) = Some held
held_of_part Same = None

-- its extent, where it can be used again: the walk stood on it, and it begins and ends at multiples of 32
abbrev pub usable_span : HeldSegment → Option Span
usable_span h = if h.walked && is_aligned (span_of h.span) then Some h.span else None

-- that of the only part
abbrev pub held_by_first : List Part → Option Span
held_by_first [] = None
held_by_first (p ∷ parts) = held_of_part p >>= usable_span

abbrev pub holds_of : Inverse → Option Span
holds_of i = held_by_first i.parts.items

-- A single inverse holds back what it brings, as far as that can be used again.
abbrev pub HoldsUsable : Type 0
HoldsUsable = (i : Inverse) (o : Single) → IsSingle i o → map span_of (option_to_list (holds_of i)) ≡ spans_of (filter can_be_used (return_places (return_of_single o)))
