-- Where a span lies among extents, what held spans cover, and what is left so that it can be live again.
use Rattle.std.proofs.Common.{◌≡◌, ℕ, zero, suc, ◌+◌, ◌<◌, ◌≤◌, List, [], ◌∷◌, ◌++◌, map, take, length, get_or, Bool, true, false, ◌||◌, nat_le, option_map, option_to_list, refl, ap, sym, ◌∙◌, subst, arith, inl, inr}
use Rattle.std.specs.List.{AllByRecursion, list_any}
use Rattle.std.proofs.lemmas.Bool.{cases_Bool, cases_order, leb-true, leb-false}
use Rattle.std.proofs.lemmas.List.{map-append}
use Rattle.std.proofs.lemmas.List.Folds.{list_any-append}
use Rattle.czi_format.specs.Layout.{Place}
use Rattle.czi_format.specs.Span.{Span, LiesInOne, end_of, meets}
use Rattle.czi_image.specs.Holds.{att_item_place, tile_place}
use Rattle.czi_image.specs.Spans.{att_item_span, directory_span, header_span, meta_item_span, tile_span}
use Rattle.czi_image.specs.declared.index.Index.{Index}
use Rattle.czi_machine.specs.Cover.{between, cover}
use Rattle.czi_machine.specs.Places.{can_be_used}
use Rattle.czi_machine.proofs.Cover.{cover-append}
use Rattle.czi_machine.proofs.Placing.{in_one_covers}
use Rattle.czi_space.specs.State.{MapState}
use Rattle.czi_spans.specs.Apart.{AreApart}
use Rattle.czi_spans.proofs.Apart.{apart_two}
use Rattle.czi_plan.specs.Conditions.{IsLeft, IsMapOf, live_of}
use Rattle.czi_plan.specs.Fits.{IsAllHeld, single_meets}
use Rattle.czi_plan.proofs.Entries.{take_here}
use Rattle.czi_plan.proofs.Parts.{in_one_ends, live_once, map_extents, meets_none}

some_item : {X : Type 0} (xs : List X) (j : ℕ) → j < length xs → (X → ⊥) → ⊥
some_item [] j h none = absurd (omega arith)
some_item (x ∷ xs) j h none = none x

-- the extent at a place has the span
pub lies_at : {X : Type 0} (f : X → Span) (xs : List X) (s : Span) (i : ℕ) (x : X) → i < length xs → x ≡ get_or xs i x → (f x).at ≤ s.at → end_of s ≤ end_of (f x) → LiesInOne s (map f xs)
lies_at f [] s i x h is low high = absurd (omega arith)
lies_at f (y ∷ ys) s zero x h is low high = inl (subst (λ z. (f z).at ≤ s.at) is low, subst (λ z. end_of s ≤ end_of (f z)) is high)
lies_at f (y ∷ ys) s (suc i) x h is low high = inr (lies_at f ys s i x (omega arith) is low high)

some_at : {X : Type 0} (f : X → Span) (xs : List X) (s : Span) → LiesInOne s (map f xs) → (j : ℕ) × (j < length xs) × ((d : X) → ((f (get_or xs j d)).at ≤ s.at) × (end_of s ≤ end_of (f (get_or xs j d))))
some_at f [] s lies = absurd lies
some_at f (x ∷ xs) s (inl i) = (0, omega arith, λ d. (i.0, i.1))
some_at f (x ∷ xs) s (inr i) = let there = some_at f xs s i in (suc there.0, omega (arith, there.1), λ d. there.2 d)

-- and it is the first one that ends past where the span begins
pub lies_first : {X : Type 0} (f : X → Span) (xs : List X) (s : Span) (i : ℕ) → AreApart 0 (map f xs) → 0 < s.len → ((k : ℕ) (e : X) → k < i → k < length xs → nat_le (end_of (f (get_or xs k e))) s.at ≡ true)
    → ((e : X) → i < length xs → nat_le (end_of (f (get_or xs i e))) s.at ≡ false) → LiesInOne s (map f xs) → (i < length xs) × ((x : X) → x ≡ get_or xs i x → ((f x).at ≤ s.at) × (end_of s ≤ end_of (f x)))
lies_first {X} f xs s i apart some before here lies =
    let there = some_at f xs s lies in
    let j = there.0 in
    elim (cases_order j i) [
      | inl same ↦ subst (λ (n : ℕ). (n < length xs) × ((x : X) → x ≡ get_or xs n x → ((f x).at ≤ s.at) × (end_of s ≤ end_of (f x)))) same
          (there.1, λ x is. subst (λ z. ((f z).at ≤ s.at) × (end_of s ≤ end_of (f z))) (sym is) (there.2 x))
      | inr (inl less) ↦ absurd (nowhere j there.1 there.2 less)
      | inr (inr more) ↦ absurd (behind j there.1 there.2 more)
    ]
  where
    nowhere : (j : ℕ) → j < length xs → ((d : X) → ((f (get_or xs j d)).at ≤ s.at) × (end_of s ≤ end_of (f (get_or xs j d)))) → j < i → ⊥
    nowhere j h at less = some_item xs j h λ d. omega (arith, some, (at d).1, leb-true _ _ (before j d less h))

    behind : (j : ℕ) → j < length xs → ((d : X) → ((f (get_or xs j d)).at ≤ s.at) × (end_of s ≤ end_of (f (get_or xs j d)))) → i < j → ⊥
    behind j h at more = some_item xs j h λ d. omega (arith, (at d).0, leb-false _ _ (here d (omega (arith, more, h))), apart_two f 0 xs i j d apart more h)

-- one more
pub cover_next : {X : Type 0} (f : X → Span) (xs : List X) (i : ℕ) (x : X) (q : ℕ) → i < length xs → x ≡ get_or xs i x → cover (map f (take (i + 1) xs)) q ≡ cover (map f (take i xs)) q + between (f x).at (end_of (f x)) q
cover_next f xs i x q h is =
    let more = ap (λ l. cover (map f l) q) (take_here xs i x h is) ∙ (ap (λ l. cover l q) (map-append f (take i xs) (x ∷ [])) ∙ cover-append (map f (take i xs)) (f x ∷ []) q) in
    omega (arith, more)

not_any : (q : Span → Bool) (xs : List Span) → list_any q xs ≡ false → AllByRecursion (λ t. q t ≡ false) xs
not_any q [] e = tt
not_any q (x ∷ xs) e = elim (cases_Bool (q x)) [ inl f ↦ absurd (let clash = rw f at e in cc (clash)) | inr f ↦ (f, not_any q xs (rw f at e)) ]

none_any : (q : Span → Bool) (xs : List Span) → AllByRecursion (λ t. q t ≡ false) xs → list_any q xs ≡ false
none_any q [] all = refl
none_any q (x ∷ xs) all = rw all.0 (none_any q xs all.1)

-- A span that can be used again is left where it lies in one of the extents and is held: no live segment meets these.
pub usable_left : (x : Index) (m : MapState) (p : Place) → IsMapOf x m → can_be_used p ≡ true → LiesInOne p.span m.extents → IsAllHeld p.span m.held → IsLeft x m p
usable_left x m p is usable one held = record {
  inside = omega (arith, in_one_ends 0 m.length m.extents p.span (map_extents x m is) one, is.length);
  apart = meets_none p.span (live_of x) (λ q. omega (arith, in_one_covers p.span m.extents q one, live_once x m q is));
  among = ((λ t. (one, held)), λ t. absurd (let clash : true ≡ false = sym usable ∙ t in cc (clash)));
}

-- another one, where it meets none
pub dead_left : (x : Index) (m : MapState) (p : Place) → can_be_used p ≡ false → end_of p.span ≤ x.length → list_any (meets p.span) m.extents ≡ false → list_any (meets p.span) (live_of x) ≡ false → IsLeft x m p
dead_left x m p dead inside free apart = record {
  inside = inside;
  apart = not_any (meets p.span) (live_of x) apart;
  among = ((λ t. absurd (let clash : false ≡ true = sym dead ∙ t in cc (clash))), λ t. not_any (meets p.span) m.extents free);
}

pub left_dead : (x : Index) (m : MapState) (p : Place) → can_be_used p ≡ false → IsLeft x m p → (end_of p.span ≤ x.length) × (list_any (meets p.span) m.extents ≡ false) × (list_any (meets p.span) (live_of x) ≡ false)
left_dead x m p dead left = (left.inside, none_any (meets p.span) m.extents (left.among.1 dead), none_any (meets p.span) (live_of x) left.apart)

any_map : {X : Type 0} (f : X → Span) (q : Span → Bool) (xs : List X) → list_any q (map f xs) ≡ list_any (λ x. q (f x)) xs
any_map f q [] = refl
any_map f q (x ∷ xs) = ap (λ b. q (f x) || b) (any_map f q xs)

regroup : (h d t a i m : Bool) → (h || (d || (t || (a || (i || m))))) ≡ ((h || (d || (a || m))) || t) || i
regroup true d true a i m = refl
regroup true d false a i m = refl
regroup false true true a i m = refl
regroup false true false a i m = refl
regroup false false true true i m = refl
regroup false false true false i true = refl
regroup false false true false i false = refl
regroup false false false true i m = refl
regroup false false false false i true = or_true i
  where
    or_true : (b : Bool) → (b || true) ≡ true
    or_true true = refl
    or_true false = refl
regroup false false false false true false = refl
regroup false false false false false false = refl

-- what is live, list by list
pub live_any : (s : Span) (x : Index) → list_any (meets s) (live_of x) ≡ (single_meets s x || list_any (λ t. meets s (tile_place t).span) x.tiles.items) || list_any (λ i. meets s (att_item_place i).span) x.attachments.items
live_any s x =
    let q = meets s in
    let directory = option_to_list (option_map directory_span x.directory) in
    let attdir = option_to_list (option_map directory_span x.attdir) in
    let metadata = option_to_list (option_map meta_item_span x.metadata) in
    let tiles = map tile_span x.tiles.items in
    let items = map att_item_span x.attachments.items in
    ap (λ b. q (header_span x.header) || b) (list_any-append q directory (tiles ++ (attdir ++ (items ++ metadata)))
    ∙ ap (λ b. list_any q directory || b) (list_any-append q tiles (attdir ++ (items ++ metadata))
    ∙ ((λ j. any_map tile_span q x.tiles.items j || list_any-append q attdir (items ++ metadata) j)
    ∙ ap (λ b. list_any (λ t. q (tile_place t).span) x.tiles.items || (list_any q attdir || b)) (list_any-append q items metadata ∙ ap (λ b. b || list_any q metadata) (any_map att_item_span q x.attachments.items)))))
    ∙ regroup (q (header_span x.header)) (list_any q directory) (list_any (λ t. q (tile_place t).span) x.tiles.items) (list_any q attdir) (list_any (λ i. q (att_item_place i).span) x.attachments.items) (list_any q metadata)
