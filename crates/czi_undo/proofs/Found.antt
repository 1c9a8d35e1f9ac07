-- What is told for the inverses that bring a state's former documents back gives these, in any image.
use Rattle.std.proofs.Common.{◌≡◌, ℕ, ◌+◌, ◌-◌, ◌^◌, ◌≤◌, ◌<◌, List, [], ◌∷◌, ◌++◌, map, length, Bool, false, not, Option, Some, None, option_to_list, refl, ap, sym, ◌∙◌, arith, subst, inl, inr}
use Rattle.std.specs.List.{AllByRecursion, list_any, filter}
use Rattle.std.proofs.lemmas.Bool.{cases_Bool, cases_lt}
use Rattle.std.proofs.lemmas.List.Elements.{filter-append}
use Rattle.czi_format.specs.Bytes.{bytes_at}
use Rattle.czi_format.specs.Layout.{Place}
use Rattle.czi_format.specs.Live.{Live, Tile, AttItem, MetaItem}
use Rattle.czi_format.specs.Space.{same_span}
use Rattle.czi_format.specs.Span.{Span, end_of, LiesInOne}
use Rattle.czi_format.proofs.Local.{All-append}
use Rattle.czi_machine.specs.Change.{Act, keep, omit, bring, changed, brought, mapped, Setting, same, to, set, set_new, mapped_setting}
use Rattle.czi_machine.specs.Cover.{between, cover}
use Rattle.czi_machine.specs.Formers.{Lain, Return, tile_place, attachment_place, metadata_place, return_items, brought_back, LiesHeld, BringBack, present}
use Rattle.czi_machine.specs.Holes.{interior, holes, SameOutside}
use Rattle.czi_machine.specs.Sound.{IsDisjointState, usable_held}
use Rattle.czi_machine.specs.State.{Items, Former, State, items_of, spans_of, item_places, item_spans, not_among, held, held_by}
use Rattle.czi_machine.proofs.BroughtBack.{SameBehind, bring_back_same}
use Rattle.czi_machine.proofs.Cover.{between_in, without_in}
use Rattle.czi_machine.proofs.Outside.{same_bytes}
use Rattle.czi_machine.proofs.Placing.{in_one_covers, held_parts, covers_own}
use Rattle.czi_machine.proofs.Tiled.{All-both, All-map, All-weaken}
use Rattle.czi_undo.specs.Formers.{before, formers_of, parts_done}
use Rattle.czi_undo.specs.Laws.{LiesBefore}
use Rattle.czi_undo.specs.Parts.{return_places}
use Rattle.czi_undo.specs.Told.{Single, tells, tells_single, return_of_single}
use Rattle.czi_undo.proofs.ToldAgain.{Reads, part_told}

back_All : {X : Type 0} (P : Place → Type 0) (N : List Span) (f : X → Place) (c : List (Act X)) (ps : List Place) → AllByRecursion (λ y. list_any (same_span (f y).span) N ≡ false) (brought c)
    → AllByRecursion P (not_among N (changed (mapped f c) ps)) → AllByRecursion P (map f (brought c))
back_All P N f [] ps all b = tt
back_All P N f (bring y ∷ c) ps all b = let both = rw all.0 at b in (both.0, back_All P N f c ps all.1 both.1)
back_All P N f (keep ∷ c) [] all b = back_All P N f c [] all b
back_All P N f (keep ∷ c) (q ∷ ps) all b = elim (cases_Bool (list_any (same_span q.span) N)) [
  | inl e ↦ back_All P N f c ps all (rw e at b)
  | inr e ↦ let both = rw e at b in back_All P N f c ps all both.1
]
back_All P N f (omit ∷ c) [] all b = back_All P N f c [] all b
back_All P N f (omit ∷ c) (q ∷ ps) all b = back_All P N f c ps all b

back_set_All : {X : Type 0} (P : Place → Type 0) (N : List Span) (f : X → Place) (c : Setting X) (o : Option Place) → AllByRecursion (λ y. list_any (same_span (f y).span) N ≡ false) (option_to_list (set_new c))
    → AllByRecursion P (not_among N (option_to_list (set (mapped_setting f c) o))) → AllByRecursion P (map f (option_to_list (set_new c)))
back_set_All P N f same o all b = tt
back_set_All P N f (to None) o all b = tt
back_set_All P N f (to (Some y)) o all b = rw all.0 at b

-- what a return brings isn't among the newer items
pub record Apart (N : List Span) (r : Return) : Type 0 where
  pub tiles : AllByRecursion (λ y. list_any (same_span (tile_place y).span) N ≡ false) (brought r.tiles)
  pub attachments : AllByRecursion (λ y. list_any (same_span (attachment_place y).span) N ≡ false) (brought r.attachments)
  pub metadata : AllByRecursion (λ y. list_any (same_span (metadata_place y).span) N ≡ false) (option_to_list (set_new r.metadata))

held_apart : (image : List ℕ) (i : Items) (r : Return) → LiesHeld image i r → Apart (item_spans i) r
held_apart image i r is = record {
  tiles = All-weaken _ _ (λ (y : Lain Tile) h. h.4) (brought r.tiles) is.tiles;
  attachments = All-weaken _ _ (λ (y : Lain AttItem) h. h.4) (brought r.attachments) is.attachments;
  metadata = All-weaken _ _ (λ (y : Lain MetaItem) h. h.3) (option_to_list (set_new r.metadata)) is.metadata;
}

own_places : (i : Items) (r : Return) → (let q : Place → Bool = λ x. not (list_any (same_span x.span) (item_spans i)) in
    not_among (item_spans i) (item_places (return_items r i)) ≡ filter q (changed (mapped tile_place r.tiles) i.subblocks) ++ (filter q (changed (mapped attachment_place r.attachments) i.attachments) ++ filter q (option_to_list (set (mapped_setting metadata_place r.metadata) i.metadata))))
own_places i r =
    let q : Place → Bool = λ x. not (list_any (same_span x.span) (item_spans i)) in
    let ts : List Place = changed (mapped tile_place r.tiles) i.subblocks in
    let as' : List Place = changed (mapped attachment_place r.attachments) i.attachments in
    let ms : List Place = option_to_list (set (mapped_setting metadata_place r.metadata) i.metadata) in
    filter-append q ts (as' ++ ms) ∙ ap (λ z. filter q ts ++ z) (filter-append q as' ms)

pub back_all : (P : Place → Type 0) (i : Items) (r : Return) → Apart (item_spans i) r → AllByRecursion P (not_among (item_spans i) (item_places (return_items r i))) → AllByRecursion P (return_places r)
back_all P i r a all =
    let N : List Span = item_spans i in
    let q : Place → Bool = λ x. not (list_any (same_span x.span) N) in
    let ts : List Place = changed (mapped tile_place r.tiles) i.subblocks in
    let as' : List Place = changed (mapped attachment_place r.attachments) i.attachments in
    let ms : List Place = option_to_list (set (mapped_setting metadata_place r.metadata) i.metadata) in
    let parts = subst (AllByRecursion P) (own_places i r) all in
    let b1 = All-append P (filter q ts) _ parts in
    let b2 = All-append P (filter q as') _ b1.1 in
    All-both P (map tile_place (brought r.tiles)) _ (back_All P N tile_place r.tiles i.subblocks a.tiles b1.0)
    (All-both P (map attachment_place (brought r.attachments)) _ (back_All P N attachment_place r.attachments i.attachments a.attachments b2.0) (back_set_All P N metadata_place r.metadata i.metadata a.metadata b2.1))

-- what is held and lies in the image can be read
held_reads : (image : List ℕ) (i : Items) (r : Return) → LiesHeld image i r → AllByRecursion (λ (p : Place). end_of p.span ≤ length image) (return_places r) → Reads image r
held_reads image i r is inside =
    let P : Place → Type 0 = λ p. end_of p.span ≤ length image in
    let b1 = All-append P (map tile_place (brought r.tiles)) _ inside in
    let b2 = All-append P (map attachment_place (brought r.attachments)) _ b1.1 in
    record {
      tiles = with_end _ _ _ (λ y h k. (h.0, h.1, h.2, h.3, k)) (brought r.tiles) is.tiles (All-map tile_place P _ b1.0);
      attachments = with_end _ _ _ (λ y h k. (h.0, h.1, h.2, h.3, k)) (brought r.attachments) is.attachments (All-map attachment_place P _ b2.0);
      metadata = with_end _ _ _ (λ y h k. (h.0, h.1, h.2, k)) (option_to_list (set_new r.metadata)) is.metadata (All-map metadata_place P _ b2.1);
    }
  where
    with_end : {X : Type 0} (P Q R : X → Type 0) → ((x : X) → P x → Q x → R x) → (xs : List X) → AllByRecursion P xs → AllByRecursion Q xs → AllByRecursion R xs
    with_end P Q R f [] a b = tt
    with_end P Q R f (x ∷ xs) a b = (f x a.0 b.0, with_end P Q R f xs a.1 b.1)

-- a single inverse that is told gives its former document
one_found : (image : List ℕ) (newer f : Former) (o : Single) → f ≡ brought_back image (return_of_single o) newer → Reads image (return_of_single o) → length image < 2 ^ 63 → parts_done image o.edits newer (tells o.part ∷ []) ≡ Some f
one_found image newer f o is reads small =
    let e = part_told image o.edits o.part small reads in
    rw e (ap (λ z. Some z) (sym is))

pub each_found : (image : List ℕ) (newer : Former) (os : List Single) (fs : List Former) → BringBack image newer (map return_of_single os) fs → AllByRecursion (λ (p : Place). end_of p.span ≤ length image) (held_by newer.items fs)
    → length image < 2 ^ 63 → formers_of image newer (map tells_single os) ≡ fs
each_found image newer [] [] back inside small = refl
each_found image newer [] (f ∷ fs) back inside small = absurd back
each_found image newer (o ∷ os) [] back inside small = absurd back
each_found image newer (o ∷ os) (f ∷ fs) back inside small =
    let P : Place → Type 0 = λ p. end_of p.span ≤ length image in
    let r : Return = return_of_single o in
    let i : Items = newer.items in
    let halves = All-append P (not_among (item_spans i) (item_places f.items)) (held_by f.items fs) inside in
    let its : not_among (item_spans i) (item_places f.items) ≡ not_among (item_spans i) (item_places (return_items r i)) = ap (λ (z : Former). not_among (item_spans i) (item_places z.items)) back.0 in
    let ends : AllByRecursion P (return_places r) = back_all P i r (held_apart image i r back.1) (subst (AllByRecursion P) its halves.0) in
    let one : parts_done image o.edits newer (tells o.part ∷ []) ≡ Some f = one_found image newer f o back.0 (held_reads image i r back.1 ends) small in
    let rest : formers_of image f (map tells_single os) ≡ fs = each_found image f os fs back.2 halves.1 small in
    ap (λ z. before z (λ g. formers_of image g (map tells_single os))) one ∙ ap (λ z. f ∷ z) rest

both_of : {X : Type 0} (P Q R : X → Type 0) → ((x : X) → P x → Q x → R x) → (xs : List X) → AllByRecursion P xs → AllByRecursion Q xs → AllByRecursion R xs
both_of P Q R f [] a b = tt
both_of P Q R f (x ∷ xs) a b = (f x a.0 b.0, both_of P Q R f xs a.1 b.1)

some_in : (hs es : List Span) (p : ℕ) → AllByRecursion (λ (h : Span). LiesInOne h es) hs → 1 ≤ cover hs p → 1 ≤ cover es p
some_in [] es p all some = absurd (omega arith)
some_in (h ∷ hs) es p all some = elim (cases_lt 0 (between h.at (end_of h) p)) [
  | inl k ↦ omega (arith, k, in_one_covers h es p all.0)
  | inr k ↦ some_in hs es p all.1 (omega (arith, k, some))
]

-- the held spans lie below the length
tidy_inside : (s : State) → IsDisjointState s → AllByRecursion (λ (h : Span). end_of h ≤ s.layout.length) (held s)
tidy_inside s tidy = both_of (λ (h : Span). 0 < h.len) (λ (h : Span). (p : ℕ) → between h.at (end_of h) p ≤ cover (held s) p) _ (λ h some own.
    let last : ℕ = h.at + h.len - 1 in
    elim (cases_lt last s.layout.length) [
      | inl k ↦ omega (arith, k, some)
      | inr k ↦ absurd (
          let there : between h.at (end_of h) last ≡ 1 = between_in h.at (end_of h) last (omega (arith, some)) (omega (arith, some)) in
          elim (cases_lt 0 (cover (usable_held s) last)) [
            | inl u ↦ omega (arith, k, tidy.inside last k, some_in (usable_held s) s.layout.deleted last tidy.held_in (omega (arith, u)))
            | inr u ↦ omega (arith, k, u, there, own last, held_parts s last, tidy.inside last k)
          ]
          )
    ]) (held s) (spans_some (held_by (items_of s.layout) s.formers) tidy.held.some) (covers_own (held s))
  where
    spans_some : (ps : List Place) → AllByRecursion (λ (p : Place). 0 < p.span.len) ps → AllByRecursion (λ (h : Span). 0 < h.len) (spans_of ps)
    spans_some [] all = tt
    spans_some (p ∷ ps) all = (all.0, spans_some ps all.1)

no_bytes_of : (x y : List ℕ) (a b : ℕ) → bytes_at x a 0 ≡ bytes_at y b 0
unfolding bytes_at
no_bytes_of x y a b = refl

-- and their bytes past the first 32 lie in no hole
held_same : (image other : List ℕ) (s : State) → IsDisjointState s → s.layout.length ≡ length image → SameOutside image other (holes (held s) s.layout.deleted) → AllByRecursion (SameBehind image other) (held s)
held_same image other s tidy long alike = both_of (λ (h : Span). end_of h ≤ s.layout.length) (λ (h : Span). (p : ℕ) → between h.at (end_of h) p ≤ cover (held s) p) (SameBehind image other) (λ h e own.
    elim (cases_lt h.len 32) [
      | inl k ↦ let none : h.len - 32 ≡ 0 = omega (arith, k) in rw none (no_bytes_of other image (h.at + 32) (h.at + 32))
      | inr k ↦ sym (same_bytes image other (h.at + 32) (h.len - 32) (omega (arith, e, long, k)) (omega (arith, e, long, k, alike.long))
          (λ p from to. alike.same p (without_in (held s) (map interior s.layout.deleted) p (omega (arith, own p, between_in h.at (end_of h) p (omega (arith, from)) (omega (arith, to, k)))))))
    ]) (held s) (tidy_inside s tidy) (covers_own (held s))

-- in an image as long as the layout
inside_image : (image : List ℕ) (s : State) → IsDisjointState s → s.layout.length ≡ length image → AllByRecursion (λ (p : Place). end_of p.span ≤ length image) (held_by (items_of s.layout) s.formers)
inside_image image s tidy long = All-map (λ (p : Place). p.span) (λ (h : Span). end_of h ≤ length image) (held_by (items_of s.layout) s.formers) (subst (λ n. AllByRecursion (λ (h : Span). end_of h ≤ n) (held s)) long (tidy_inside s tidy))

pub formers_found : (image : List ℕ) (live : Live) (s : State) (os : List Single) → LiesBefore image live s os → length image < 2 ^ 63 → formers_of image (present s) (map tells_single os) ≡ s.formers
formers_found image live s os lies small = each_found image (present s) os s.formers lies.with'.back (inside_image image s lies.with'.tidy lies.with'.lies.length) small

pub formers_kept : (image other : List ℕ) (live : Live) (s : State) (os : List Single) → LiesBefore image live s os → length image < 2 ^ 63 → SameOutside image other (holes (held s) s.layout.deleted)
    → formers_of other (present s) (map tells_single os) ≡ s.formers
formers_kept image other live s os lies small alike =
    let w = lies.with' in
    let long : s.layout.length ≡ length image = w.lies.length in
    let behind : AllByRecursion (SameBehind image other) (held s) = held_same image other s w.tidy long alike in
    let there = bring_back_same image other (present s) (map return_of_single os) s.formers behind w.back in
    each_found other (present s) os s.formers there (inside_image other s w.tidy (long ∙ alike.long)) (omega (arith, small, alike.long))
