-- Marks set in a list, one after another.
use Rattle.std.proofs.Common.{◌≡◌, ℕ, zero, suc, ◌+◌, ◌<◌, List, [], ◌∷◌, ◌++◌, map, take, drop, length, get_or, slice_set, Bool, ap, sym, ◌∙◌, arith}
use Rattle.czi_format.specs.Segment.{Segment}
use Rattle.czi_format.specs.Layout.{Place, place_of, is_walked}
use Rattle.czi_num.specs.declared.span.Span.{Span as CodeSpan}
use Rattle.czi_num.specs.Span.{span_of}
use Rattle.czi_seg.specs.declared.header.SegHeader.{SegHeader}
use Rattle.czi_seg.specs.View.{header_of}

marked_next : {X Y : Type 0} (view marked : X → Y) (mark : Y → Y) → ((x : X) → marked x ≡ mark (view x)) → (old now : List X) (i : ℕ) (d x : X) → i < length old
    → map view now ≡ map marked (take i old) ++ map view (drop i old) → view x ≡ mark (view (get_or now i d)) → map view (slice_set now i x) ≡ map marked (take (suc i) old) ++ map view (drop (suc i) old)
marked_next view marked mark same [] now i d x inside is here = absurd (omega arith)
marked_next view marked mark same (o ∷ os) [] zero d x inside is here = cc
marked_next view marked mark same (o ∷ os) [] (suc i) d x inside is here = cc
marked_next view marked mark same (o ∷ os) (n ∷ ns) zero d x inside is here =
    let head : view n ≡ view o = cc in
    let tail : map view ns ≡ map view os = cc in
    let first : view x ≡ marked o = here ∙ (ap mark head ∙ sym (same o)) in
    λ j. first j ∷ tail j
marked_next view marked mark same (o ∷ os) (n ∷ ns) (suc i) d x inside is here =
    let head : view n ≡ marked o = cc in
    let tail : map view ns ≡ map marked (take i os) ++ map view (drop i os) = cc in
    let rest = marked_next view marked mark same os ns i d x (omega arith) tail here in
    λ j. head j ∷ rest j

-- one more is marked: what is seen of it now is told by what was seen of it before
pub marked_more : {X Y : Type 0} (view marked : X → Y) (mark : Y → Y) → ((x : X) → marked x ≡ mark (view x)) → (old now : List X) (i : ℕ) (d x : X) → i < length old
    → map view now ≡ map marked (take i old) ++ map view (drop i old) → view x ≡ mark (view (get_or now i d)) → map view (slice_set now i x) ≡ map marked (take (i + 1) old) ++ map view (drop (i + 1) old)
marked_more view marked mark same old now i d x inside is here =
    let on : suc i ≡ i + 1 = omega arith in
    marked_next view marked mark same old now i d x inside is here ∙ ap (λ (n : ℕ). map marked (take n old) ++ map view (drop n old)) on

-- a place with its mark
pub place_is : (walk : List Segment) (span : CodeSpan) (head : SegHeader) (walked : Bool) → span.len ≡ 32 + head.allocated → walked ≡ is_walked walk (header_of span.at head)
    → (let p : Place = record { span = span_of span; walked = walked } in p) ≡ place_of walk (header_of span.at head)
place_is walk span head walked len is = λ j. record { span = record { at = span.at; len = len j }; walked = is j }
