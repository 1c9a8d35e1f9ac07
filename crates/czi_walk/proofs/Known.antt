-- Segments that stand in the front of an image: read, or known.
use Rattle.std.proofs.Common.{◌≡◌, ℕ, zero, suc, ◌+◌, ◌<◌, ◌≤◌, ◌==◌, List, [], ◌∷◌, length, get_or, take, drop, Option, Some, None, sym, ap, ◌∙◌, subst, arith, zero-add}
use Rattle.std.specs.Prelude.{IfSome}
use Rattle.std.specs.List.{AllByRecursion, position}
use Rattle.std.proofs.lemmas.Bool.{eqb-true}
use Rattle.std.proofs.lemmas.List.{length-take}
use Rattle.std.proofs.lemmas.List.Quantifiers.{position-Some}
use Rattle.std.proofs.lemmas.Option.{same_Some}
use Rattle.czi_format.specs.Bytes.{bytes_at}
use Rattle.czi_format.specs.Segment.{segment_at}
use Rattle.czi_format.proofs.Local.{part_of_part}
use Rattle.czi_format.proofs.Readings.{no_room}
use Rattle.czi_num.specs.declared.span.Span.{Span as CodeSpan}
use Rattle.czi_seg.specs.declared.header.SegHeader.{SegHeader}
use Rattle.czi_walk.specs.View.{segment_of, HasExtent, EndBy, IsAt, Knows}

pub nothing_there : (image : List ℕ) (size at : ℕ) → size < at + 32 → None ≡ segment_at (take size image) at
nothing_there image size at short = sym (no_room (take size image) at (omega (arith, length-take size image)))

-- 32 bytes of the image are those of its front
pub window : (image front : List ℕ) (size at : ℕ) → at + 32 ≤ size → front ≡ take 32 (drop at image) → bytes_at (take size image) at 32 ≡ front
unfolding bytes_at
window image front size at fits read = part_of_part image 0 size at 32 fits ∙ (ap (λ (k : ℕ). take 32 (drop k image)) (zero-add at) ∙ sym read)

pub all_at : {X : Type 0} (P : X → Type 0) (xs : List X) (i : ℕ) (d : X) → AllByRecursion P xs → i < length xs → P (get_or xs i d)
all_at P [] i d all h = absurd (omega arith)
all_at P (x ∷ xs) zero d all h = all.0
all_at P (x ∷ xs) (suc i) d all h = all_at P xs i d all.1 (omega arith)

-- what was found by its place stands there
pub found_place : (items : List (CodeSpan × SegHeader)) (at i : ℕ) (d : CodeSpan × SegHeader) → Some i ≡ position (λ p. p.0.at == at) items → (i < length items) × ((get_or items i d).0.at ≡ at)
found_place items at i d found = let hit = position-Some (λ p. p.0.at == at) items i d (sym found) in (hit.0, eqb-true _ _ hit.1)

pub known_stands : (size at i : ℕ) (image : List ℕ) (known : List (CodeSpan × SegHeader)) (d item : CodeSpan × SegHeader) → Knows size image known → Some i ≡ position (λ p. p.0.at == at) known
    → item ≡ get_or known i d → Some (segment_of item) ≡ segment_at (take size image) at
known_stands size at i image known d item knows found is =
    let hit = found_place known at i d found in
    let stands : segment_at (take size image) (get_or known i d).0.at ≡ Some (segment_of (get_or known i d)) = all_at _ known i d knows.stand hit.0 in
    ap (λ (x : CodeSpan × SegHeader). Some (segment_of x)) is ∙ (sym stands ∙ ap (segment_at (take size image)) hit.1)

pub known_at : (size at i : ℕ) (known : List (CodeSpan × SegHeader)) (d item : CodeSpan × SegHeader) → AllByRecursion HasExtent known → EndBy size known → Some i ≡ position (λ p. p.0.at == at) known
    → item ≡ get_or known i d → IsAt at size item
known_at size at i known d item extents ends found is =
    let hit = found_place known at i d found in
    subst (IsAt at size) (sym is) (record { extent = all_at HasExtent known i d extents hit.0; place = hit.1; inside = all_at _ known i d ends hit.0 })

pub same_some : {X : Type 0} (P : X → Type 0) (o : Option X) (x : X) → P x → IfSome o (λ y. Some x ≡ Some y) → IfSome o P
same_some P None x px same = same
same_some P (Some y) x px same = subst P (same_Some x y same) px
