-- Extents and held spans side by side.
use Rattle.std.proofs.Common.{◌≡◌, ℕ, zero, suc, ◌+◌, ◌<◌, ◌≤◌, List, [], ◌∷◌, ◌++◌, map, take, drop, length, get_or, true, refl, ap, sym, ◌∙◌, subst, arith, inl, inr, add-one, append_assoc}
use Rattle.std.specs.List.{AllByRecursion}
use Rattle.std.proofs.Math.Seq.{drop-cons}
use Rattle.std.proofs.lemmas.List.{take_more, map-append, take-append-drop, drop_all}
use Rattle.czi_format.specs.Span.{Span, end_of, span_le}
use Rattle.czi_format.specs.Space.{without}
use Rattle.czi_num.specs.declared.span.Span.{Span as CodeSpan}
use Rattle.czi_num.specs.Span.{span_of}
use Rattle.czi_space.specs.State.{AreExtents, IsInOrder, SkipsTo}
use Rattle.czi_space.proofs.Parts.{without-append}
use Rattle.czi_space.proofs.Taken.{all_apart, miss, left_apart}
use Rattle.czi_space.proofs.Ordered.{ordered}

-- spans that end before the extents take nothing of them
skipped : (front back : List Span) (from to : ℕ) (es : List Span) → AreExtents from to es → AllByRecursion (λ (h : Span). end_of h ≤ from) front → without (front ++ back) es ≡ without back es
skipped [] back from to es rising passed = refl
skipped (h ∷ front) back from to es rising passed = ap (without (front ++ back)) (all_apart from to h es rising passed.0) ∙ skipped front back from to es rising passed.1

-- spans that begin behind a run take nothing of it
all_behind : (hs : List Span) (s : Span) → AllByRecursion (λ (h : Span). end_of s ≤ h.at) hs → without hs (s ∷ []) ≡ s ∷ []
all_behind [] s behind = refl
all_behind (h ∷ hs) s behind = ap (without hs) (ap (λ l. l ++ []) (left_apart h s (miss h s (inr behind.0)))) ∙ all_behind hs s behind.1

later_behind : (first : Span) (hs : List Span) (n : ℕ) → n ≤ first.at → AllByRecursion (λ t. span_le first t ≡ true) hs → AllByRecursion (λ (h : Span). n ≤ h.at) hs
later_behind first [] n low all = tt
later_behind first (h ∷ hs) n low all = (elim (ordered first h all.0) [ inl k ↦ omega arith | inr k ↦ omega (arith, k.0) ], later_behind first hs n low all.1)

pub none_met : (first : Span) (hs held : List Span) (s : Span) → held ≡ first ∷ hs → IsInOrder held → end_of s ≤ first.at → without held (s ∷ []) ≡ s ∷ []
none_met first hs held s is order behind =
    let o : IsInOrder (first ∷ hs) = subst IsInOrder is order in
    ap (λ l. without l (s ∷ [])) is ∙ all_behind (first ∷ hs) s (behind, later_behind first hs (end_of s) behind o.0)

pub rest_in_order : (first : Span) (hs held : List Span) → held ≡ first ∷ hs → IsInOrder held → IsInOrder hs
rest_in_order first hs held is order = let o : IsInOrder (first ∷ hs) = subst IsInOrder is order in o.1

back_in_order : (front back : List Span) → IsInOrder (front ++ back) → IsInOrder back
back_in_order [] back order = order
back_in_order (h ∷ front) back order = back_in_order front back order.1

pub skip_in_order : (place : ℕ) (hs rest : List Span) → SkipsTo place hs rest → IsInOrder hs → IsInOrder rest
skip_in_order place hs rest s order = back_in_order s.front rest (subst IsInOrder s.whole order)

dropped_extents : {X : Type 0} (f : X → Span) (from to : ℕ) (xs : List X) (i : ℕ) (d : X) → AreExtents from to (map f xs) → i < length xs → AreExtents (f (get_or xs i d)).at to (map f (drop i xs))
dropped_extents f from to [] i d es h = absurd (omega arith)
dropped_extents f from to (x ∷ xs) zero d es h = (omega arith, es.1, es.2)
dropped_extents f from to (x ∷ xs) (suc i) d es h = dropped_extents f (end_of (f x)) to xs i d es.2 (omega arith)

-- one extent more, with the held spans that end behind where it begins
pub side_step : (to : ℕ) (xs before held : List CodeSpan) (out after whole : List Span) (i : ℕ) (e : CodeSpan) → AreExtents 0 to (map span_of xs) → i < length xs → e ≡ get_or xs i e
    → out ++ without (map span_of before) (map span_of (drop i xs)) ≡ whole → SkipsTo e.at (map span_of before) (map span_of held) → after ≡ out ++ without (map span_of held) (span_of e ∷ [])
    → after ++ without (map span_of held) (map span_of (drop (i + 1) xs)) ≡ whole
side_step to xs before held out after whole i e es inside e_is is skip after_is =
    let rest : List Span = map span_of (drop (i + 1) xs) in
    let hs : List Span = map span_of held in
    let first : drop i xs ≡ get_or xs i e ∷ drop (i + 1) xs = rw (add-one, drop-cons xs i e) in
    let here : drop i xs ≡ e ∷ drop (i + 1) xs = first ∙ ap (λ z. z ∷ drop (i + 1) xs) (sym e_is) in
    let rising : AreExtents e.at to (map span_of (drop i xs)) = subst (λ (z : CodeSpan). AreExtents z.at to (map span_of (drop i xs))) (sym e_is) (dropped_extents span_of 0 to xs i e es inside) in
    let same : without (map span_of before) (map span_of (drop i xs)) ≡ without hs (map span_of (drop i xs)) =
    ap (λ l. without l (map span_of (drop i xs))) skip.whole ∙ skipped skip.front hs e.at to (map span_of (drop i xs)) rising skip.passed in
    ap (λ l. l ++ without hs rest) after_is ∙ (append_assoc out (without hs (span_of e ∷ [])) (without hs rest)
    ∙ (ap (λ l. out ++ l) (sym (without-append hs (span_of e ∷ []) rest) ∙ (sym (ap (λ l. without hs (map span_of l)) here) ∙ sym same)) ∙ is))

-- a front of a list of held spans is skipped
pub skips : {X : Type 0} (f : X → Span) (place : ℕ) (xs : List X) (i : ℕ) → AllByRecursion (λ (h : Span). end_of h ≤ place) (map f (take i xs)) → SkipsTo place (map f xs) (map f (drop i xs))
skips f place xs i passed = record { front = map f (take i xs); whole = sym (sym (map-append f (take i xs) (drop i xs)) ∙ ap (map f) (take-append-drop i xs)); passed = passed }

all_more : (P : Span → Type 0) (xs ys : List Span) → AllByRecursion P xs → AllByRecursion P ys → AllByRecursion P (xs ++ ys)
all_more P [] ys p q = q
all_more P (x ∷ xs) ys p q = (p.0, all_more P xs ys p.1 q)

pub passed_more : {X : Type 0} (f : X → Span) (place : ℕ) (xs : List X) (i : ℕ) (d : X) → i < length xs → end_of (f (get_or xs i d)) ≤ place
    → AllByRecursion (λ (h : Span). end_of h ≤ place) (map f (take i xs)) → AllByRecursion (λ (h : Span). end_of h ≤ place) (map f (take (i + 1) xs))
passed_more f place xs i d inside ends passed =
    let P : Span → Type 0 = λ h. end_of h ≤ place in
    let next : map f (take (i + 1) xs) ≡ map f (take i xs) ++ f (get_or xs i d) ∷ [] = ap (map f) (take_more xs i d inside) ∙ map-append f (take i xs) (get_or xs i d ∷ []) in
    subst (AllByRecursion P) (sym next) (all_more P (map f (take i xs)) (f (get_or xs i d) ∷ []) passed (ends, tt))

pub skips_all : {X : Type 0} (f : X → Span) (place : ℕ) (xs : List X) (i : ℕ) → length xs ≤ i → AllByRecursion (λ (h : Span). end_of h ≤ place) (map f (take i xs)) → SkipsTo place (map f xs) []
skips_all f place xs i over passed = subst (SkipsTo place (map f xs)) (ap (map f) (drop_all i xs over)) (skips f place xs i passed)
