-- A single inverse holds back what it brings, as far as that can be used again.
use Rattle.std.proofs.Common.{◌≡◌, ℕ, List, [], ◌∷◌, ◌++◌, map, filter, Bool, true, false, ◌&&◌, Option, Some, None, inl, inr, refl, ap, sym, ◌∙◌}
use Rattle.std.specs.Prelude.{option_to_list}
use Rattle.std.proofs.lemmas.Bool.{cases_Bool}
use Rattle.czi_format.specs.Layout.{Place}
use Rattle.czi_format.specs.Partial.{◌>>=◌}
use Rattle.czi_format.specs.Segment.{Segment, extent}
use Rattle.czi_machine.specs.Change.{brought}
use Rattle.czi_machine.specs.Formers.{Lain, Return, attachment_place, metadata_place, tile_place}
use Rattle.czi_machine.specs.Places.{can_be_used}
use Rattle.czi_machine.specs.State.{spans_of}
use Rattle.czi_num.specs.Span.{span_of}
use Rattle.czi_undo.specs.Holding.{held_by_first, held_of_part, holds_of, usable_span}
use Rattle.czi_undo.specs.Parts.{LainPart, change_of, drops, in_attachments, in_tiles, inserts, no_metadata, puts, return_of, return_places, to_metadata, unchanged}
use Rattle.czi_undo.specs.Stands.{IsHeld, IsPart, IsSingle}
use Rattle.czi_undo.specs.Told.{Single, return_of_single}
use Rattle.czi_undo.specs.declared.held.HeldSegment.{HeldSegment}
use Rattle.czi_undo.specs.declared.inverse.Inverse.{Inverse}
use Rattle.czi_undo.specs.declared.inverse.Part.{Part}
use Rattle.czi_undo.specs.declared.inverse.Part.TheVariants.{DropSub, PutSub, InsertSub, DropAtt, PutAtt, InsertAtt, NoMeta, PutMeta, Same}
use Rattle.czi_undo.proofs.ToldAgain.{brought-part, list_new}

-- one place, with the span and the mark of a held segment
one_usable : (h : HeldSegment) (s : Segment) (on : Bool) → IsHeld h s on → map span_of (option_to_list (usable_span h)) ≡ spans_of (filter can_be_used (record { span = extent s; walked = on } ∷ []))
one_usable h s on is =
    let same : record { span = span_of h.span; walked = h.walked } ≡ record { span = extent s; walked = on } = λ i. record { span = is.span i; walked = is.walked i } in
    alone ∙ ap (λ (p : Place). spans_of (filter can_be_used (p ∷ []))) same
  where
    alone : map span_of (option_to_list (usable_span h)) ≡ spans_of (filter can_be_used (record { span = span_of h.span; walked = h.walked } ∷ []))
    alone = elim (cases_Bool (can_be_used (record { span = span_of h.span; walked = h.walked }))) [ inl e ↦ rw e refl | inr e ↦ rw e refl ]

-- the places that a part brings
abbrev pub places_of : LainPart → List Place
places_of q = return_places (return_of 1 q)

part_holds : (p : Part) (q : LainPart) → IsPart p q → map span_of (option_to_list (held_of_part p >>= usable_span)) ≡ spans_of (filter can_be_used (places_of q))
part_holds (DropSub place) q is = sym (ap (λ z. spans_of (filter can_be_used (places_of z))) is ∙ ap (λ l. spans_of (filter can_be_used (map tile_place l ++ []))) (brought-part (drops place)))
part_holds (PutSub place info held) q is = one_usable held _ _ is.2.held ∙ sym (ap (λ z. spans_of (filter can_be_used (places_of z))) is.1 ∙ ap (λ l. spans_of (filter can_be_used (map tile_place l ++ []))) (brought-part (puts place is.0)))
part_holds (InsertSub place info held) q is = one_usable held _ _ is.2.held ∙ sym (ap (λ z. spans_of (filter can_be_used (places_of z))) is.1 ∙ ap (λ l. spans_of (filter can_be_used (map tile_place l ++ []))) (brought-part (inserts place is.0)))
part_holds (DropAtt place) q is = sym (ap (λ z. spans_of (filter can_be_used (places_of z))) is ∙ ap (λ l. spans_of (filter can_be_used (map attachment_place l ++ []))) (brought-part (drops place)))
part_holds (PutAtt place info held) q is = one_usable held _ _ is.2.held ∙ sym (ap (λ z. spans_of (filter can_be_used (places_of z))) is.1 ∙ ap (λ l. spans_of (filter can_be_used (map attachment_place l ++ []))) (brought-part (puts place is.0)))
part_holds (InsertAtt place info held) q is = one_usable held _ _ is.2.held ∙ sym (ap (λ z. spans_of (filter can_be_used (places_of z))) is.1 ∙ ap (λ l. spans_of (filter can_be_used (map attachment_place l ++ []))) (brought-part (inserts place is.0)))
part_holds NoMeta q is = sym (ap (λ z. spans_of (filter can_be_used (places_of z))) is)
part_holds (PutMeta held) q is = one_usable held _ _ is.2.held ∙ sym (ap (λ z. spans_of (filter can_be_used (places_of z))) is.1)
part_holds Same q is = sym (ap (λ z. spans_of (filter can_be_used (places_of z))) is)

-- the number of edits doesn't change what is brought
same_places : (n : ℕ) (q : LainPart) → return_places (return_of n q) ≡ places_of q
same_places n (in_tiles p) = refl
same_places n (in_attachments p) = refl
same_places n no_metadata = refl
same_places n (to_metadata m) = refl
same_places n unchanged = refl

pub holds_usable : (i : Inverse) (o : Single) → IsSingle i o → map span_of (option_to_list (holds_of i)) ≡ spans_of (filter can_be_used (return_places (return_of_single o)))
holds_usable i o is = ap (λ ps. map span_of (option_to_list (held_by_first ps))) is.only ∙ (part_holds is.part o.part is.is ∙ sym (ap (λ l. spans_of (filter can_be_used l)) (same_places o.edits o.part)))
