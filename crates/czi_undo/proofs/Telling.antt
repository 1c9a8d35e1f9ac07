-- A list of inverses of single edits tells what these tell.
use Rattle.std.proofs.Common.{◌≡◌, List, [], ◌∷◌, map, Bool, refl, ap, sym, ◌∙◌}
use Rattle.czi_format.specs.Segment.{Segment}
use Rattle.czi_undo.specs.Parts.{LainPart, in_attachments, in_tiles, inserts, puts, to_metadata}
use Rattle.czi_undo.specs.Stands.{AreSingle, IsHeld, IsPart, IsSingle}
use Rattle.czi_undo.specs.Told.{Single, tells, tells_segment, tells_single}
use Rattle.czi_undo.specs.View.{command_of, held_of, part_of, told}
use Rattle.czi_undo.specs.declared.held.HeldSegment.{HeldSegment as CodeHeld}
use Rattle.czi_undo.specs.declared.inverse.Inverse.{Inverse}
use Rattle.czi_undo.specs.declared.inverse.Part.{Part}
use Rattle.czi_undo.specs.declared.inverse.Part.TheVariants.{DropSub, PutSub, InsertSub, DropAtt, PutAtt, InsertAtt, NoMeta, PutMeta, Same}

held_told : (h : CodeHeld) (s : Segment) (w : Bool) → IsHeld h s w → held_of h ≡ tells_segment s w
held_told h s w is = λ i. record { at = (ap (λ z. z.at) is.span) i; header = is.head i; walked = is.walked i }

part_told : (p : Part) (q : LainPart) → IsPart p q → part_of p ≡ tells q
part_told (DropSub place) q is = sym (ap tells is)
part_told (PutSub place info held) q is = (λ i. in_tiles (puts place (record { info = is.2.info i; held = held_told held _ _ is.2.held i }))) ∙ sym (ap tells is.1)
part_told (InsertSub place info held) q is = (λ i. in_tiles (inserts place (record { info = is.2.info i; held = held_told held _ _ is.2.held i }))) ∙ sym (ap tells is.1)
part_told (DropAtt place) q is = sym (ap tells is)
part_told (PutAtt place info held) q is = (λ i. in_attachments (puts place (record { info = is.2.info i; held = held_told held _ _ is.2.held i }))) ∙ sym (ap tells is.1)
part_told (InsertAtt place info held) q is = (λ i. in_attachments (inserts place (record { info = is.2.info i; held = held_told held _ _ is.2.held i }))) ∙ sym (ap tells is.1)
part_told NoMeta q is = sym (ap tells is)
part_told (PutMeta held) q is = ap to_metadata (held_told held _ _ is.2.held) ∙ sym (ap tells is.1)
part_told Same q is = sym (ap tells is)

single_told : (i : Inverse) (o : Single) → IsSingle i o → command_of i ≡ tells_single o
single_told i o is = λ k. record { parts = (ap (map part_of) is.only ∙ ap (λ z. z ∷ []) (part_told is.part o.part is.is)) k; edits = is.edits k }

pub singles_told : (is : List Inverse) (os : List Single) → AreSingle is os → told is ≡ map tells_single os
singles_told [] [] all = refl
singles_told [] (o ∷ os) all = absurd all
singles_told (i ∷ is) [] all = absurd all
singles_told (i ∷ is) (o ∷ os) all = λ k. single_told i o all.0 k ∷ singles_told is os all.1 k
