-- The oldest edit is forgotten: the map then holds back what the others do.
use Rattle.std.proofs.Common.{◌≡◌, ◌<◌, ◌≤◌, ◌||◌, List, [], ◌∷◌, ◌++◌, append-nil, length, length-append, map, nat_lt, sum, take, true, true≢false, false, Option, Some, None, refl, ap, sym, ◌∙◌, subst, arith, inl, inr}
use Rattle.std.specs.Prelude.{IsTrue}
use Rattle.std.specs.List.{AllByRecursion}
use Rattle.std.proofs.lemmas.Bool.{cases_Bool, cases_lt, le-ltb, lt-ltb}
use Rattle.std.proofs.lemmas.List.{length-map, map-append, take_all}
use Rattle.std.proofs.lemmas.List.Sums.{sum_by-cons}
use Rattle.std.proofs.Math.Seq.{take-append_seam}
use Rattle.czi_format.specs.Space.{same_span, released, with_held}
use Rattle.czi_format.specs.Span.{Span, span_le}
use Rattle.czi_machine.proofs.Leaving.{same_is, same_self}
use Rattle.czi_num.specs.Span.{span_of}
use Rattle.czi_num.specs.declared.span.Span.{Span as CodeSpan}
use Rattle.czi_space.specs.State.{IsHeld, IsInOrder}
use Rattle.czi_space.proofs.Held.{held_in_order}
use Rattle.czi_space.proofs.Ordered.{le_trans, ordered}
use Rattle.czi_undo.specs.Bounds.{counts_of, passes}
use Rattle.czi_undo.specs.Holding.{holds_of}
use Rattle.czi_undo.specs.declared.inverse.Inverse.{Inverse}
use Rattle.czi_engine.specs.Standing.{TakeOneBack, held_by}

-- before all of some spans
first_in : (a : Span) (hs : List Span) → AllByRecursion (λ t. IsTrue (span_le a t)) hs → with_held a hs ≡ a ∷ hs
first_in a [] all = refl
first_in a (h ∷ hs) all = rw (all.0)

all_behind : (a h : Span) (hs : List Span) → span_le a h ≡ true → AllByRecursion (λ t. IsTrue (span_le h t)) hs → AllByRecursion (λ t. IsTrue (span_le a t)) hs
all_behind a h [] le all = tt
all_behind a h (t ∷ hs) le all = (le_trans a h t le all.0, all_behind a h hs le all.1)

of_held : (P : Span → Type 0) (s : Span) (hs : List Span) → AllByRecursion P hs → IsHeld s hs → P s
of_held P s [] all none = absurd none
of_held P s (h ∷ hs) all (inl e) = subst P (sym e) all.0
of_held P s (h ∷ hs) all (inr more) = of_held P s hs all.1 more

both_ways : (a b : Span) → span_le a b ≡ true → span_le b a ≡ true → a ≡ b
both_ways a b p q =
    let at : a.at ≡ b.at = elim (ordered a b p) [
      | inl h ↦ elim (ordered b a q) [ inl k ↦ omega (arith, h, k) | inr k ↦ omega (arith, h, k.0) ]
      | inr h ↦ h.0
    ] in
    let len : a.len ≡ b.len = elim (ordered a b p) [
      | inl h ↦ elim (ordered b a q) [ inl k ↦ absurd (omega (arith, h, k)) | inr k ↦ absurd (omega (arith, h, k.0)) ]
      | inr h ↦ elim (ordered b a q) [ inl k ↦ absurd (omega (arith, h.0, k)) | inr k ↦ omega (arith, h.1, k.1) ]
    ] in
    λ i. record { at = at i; len = len i }

differs : (a b : Span) → same_span a b ≡ false → a ≡ b → ⊥
differs a b e is = let clash : true ≡ false = sym (same_self b) ∙ (ap (λ (z : Span). same_span z b) (sym is) ∙ e) in cc (clash)

-- among the others
later_held : (s h : Span) (hs : List Span) → same_span h s ≡ false → IsHeld s (h ∷ hs) → IsHeld s hs
later_held s h hs e (inl is) = absurd (differs h s e (sym is))
later_held s h hs e (inr more) = more

released_with : (s a : Span) (hs : List Span) → IsInOrder hs → IsHeld s hs → released s (with_held a hs) ≡ with_held a (released s hs)
released_with s a [] order held = absurd held
released_with s a (h ∷ t) order held = elim (cases_Bool (span_le a h)) [
  | inl le ↦ elim (cases_Bool (same_span h s)) [
    | inl e ↦ elim (cases_Bool (same_span a s)) [
      | inl f ↦ let one : a ≡ h = same_is a s f ∙ sym (same_is h s e) in rw (le, f, e) (ap (λ z. z ∷ t) (sym one) ∙ sym (first_in a t (all_behind a h t le order.0)))
      | inr f ↦ rw (le, f, e) (sym (first_in a t (all_behind a h t le order.0)))
    ]
    | inr e ↦ elim (cases_Bool (same_span a s)) [
      | inl f ↦
          let there : IsHeld s t = later_held s h t e held in
          let after : span_le h s ≡ true = of_held (λ t'. IsTrue (span_le h t')) s t order.0 there in
          let before : span_le s h ≡ true = subst (λ (z : Span). span_le z h ≡ true) (same_is a s f) le in
          absurd (differs h s e (both_ways h s after before))
      | inr f ↦ rw (le, f, e, le) refl
    ]
  ]
  | inr le ↦ elim (cases_Bool (same_span h s)) [
    | inl e ↦ rw (le, e) refl
    | inr e ↦ rw (le, e, le) (ap (λ z. h ∷ z) (released_with s a t order.1 (later_held s h t e held)))
  ]
]

pub in_order_by : (edits : List (Option CodeSpan)) → IsInOrder (held_by edits)
in_order_by [] = tt
in_order_by (None ∷ edits) = in_order_by edits
in_order_by (Some s ∷ edits) = held_in_order (span_of s) (held_by edits) (in_order_by edits)

held_with : (s a : Span) (hs : List Span) → IsHeld s hs → IsHeld s (with_held a hs)
held_with s a [] none = absurd none
held_with s a (h ∷ t) there = elim (cases_Bool (span_le a h)) [
  | inl e ↦ rw e (inr there)
  | inr e ↦ rw e (elim there [ inl is ↦ inl is | inr more ↦ inr (held_with s a t more) ])
]

pub held_last : (edits : List (Option CodeSpan)) (s : CodeSpan) → IsHeld (span_of s) (held_by (edits ++ Some s ∷ []))
held_last [] s = inl refl
held_last (None ∷ edits) s = held_last edits s
held_last (Some a ∷ edits) s = held_with (span_of s) (span_of a) (held_by (edits ++ Some s ∷ [])) (held_last edits s)

pub released_last : (edits : List (Option CodeSpan)) (s : CodeSpan) → released (span_of s) (held_by (edits ++ Some s ∷ [])) ≡ held_by edits
released_last [] s = rw (same_self (span_of s)) refl
released_last (None ∷ edits) s = released_last edits s
released_last (Some a ∷ edits) s =
    released_with (span_of s) (span_of a) (held_by (edits ++ Some s ∷ [])) (in_order_by (edits ++ Some s ∷ [])) (held_last edits s) ∙ ap (with_held (span_of a)) (released_last edits s)

pub none_last : (edits : List (Option CodeSpan)) → held_by (edits ++ None ∷ []) ≡ held_by edits
none_last [] = refl
none_last (None ∷ edits) = none_last edits
none_last (Some a ∷ edits) = ap (with_held (span_of a)) (none_last edits)

-- how many edits inverses take back of which each takes one back
ones_sum : (is : List Inverse) → TakeOneBack is → sum (counts_of is) ≡ length is
ones_sum [] all = refl
ones_sum (i ∷ is) all = omega (arith, all.0, sum_by-cons (λ n. n) i.edits (counts_of is), ones_sum is all.1)

counts_long : (is : List Inverse) → length (counts_of is) ≡ length is
counts_long is = length-map is (λ (i : Inverse). i.edits)

-- they pass no bound where there are no more than 32
pub passes_none : (is : List Inverse) → TakeOneBack is → length is ≤ 32 → passes (counts_of is) ≡ false
passes_none is all few =
    let long : nat_lt 32 (length (counts_of is)) ≡ false = le-ltb _ _ (omega (arith, counts_long is, few)) in
    let many : nat_lt 128 (sum (counts_of is)) ≡ false = le-ltb _ _ (omega (arith, ones_sum is all, few)) in
    λ k. long k || many k

passes_some : (is : List Inverse) → TakeOneBack is → length is ≤ 33 → true ≡ passes (counts_of is) → 32 < length is
passes_some is all few over = elim (cases_lt 32 (length is)) [
  | inl high ↦ high
  | inr low ↦ absurd (true≢false (over ∙ passes_none is all low))
]

-- the oldest is off where there were 33
pub oldest_off : (is js : List Inverse) (i : Inverse) → TakeOneBack is → length is ≤ 33 → true ≡ passes (counts_of is) → is ≡ js ++ i ∷ [] → js ≡ take 32 is
oldest_off is js i all few over e =
    let n : 32 ≡ length js = omega (arith, passes_some is all few over, few, ap (length {A = Inverse}) e, length-append js (i ∷ [])) in
    sym ((λ k. take (n k) (e k)) ∙ take-append_seam js (i ∷ []))

pub none_off : (is js : List Inverse) → TakeOneBack is → false ≡ passes (counts_of is) → length is ≤ 33 → is ≡ js ++ [] → js ≡ take 32 is
none_off is js all under few e =
    let same : is ≡ js = e ∙ append-nil js in
    sym same ∙ sym (take_all 32 is (elim (cases_lt 32 (length is)) [
      | inl high ↦ absurd (true≢false (sym (under ∙ over high)))
      | inr low ↦ low
    ]))
  where
    over : 32 < length is → passes (counts_of is) ≡ true
    over high = let long : nat_lt 32 (length (counts_of is)) ≡ true = lt-ltb _ _ (omega (arith, counts_long is, high)) in λ k. long k || nat_lt 128 (sum (counts_of is))

-- what inverses hold back before and after the last one is taken off
pub spans_before : (is js : List Inverse) (i : Inverse) (h : Option CodeSpan) → is ≡ js ++ i ∷ [] → h ≡ holds_of i → map holds_of is ≡ map holds_of js ++ h ∷ []
spans_before is js i h e same = ap (map holds_of) e ∙ (map-append holds_of js (i ∷ []) ∙ ap (λ z. map holds_of js ++ z ∷ []) (sym same))
