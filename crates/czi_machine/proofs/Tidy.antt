-- A tidy state stays tidy: after an edit, and after an undo.
use Rattle.std.proofs.Common.{◌≡◌, ℕ, zero, suc, ◌+◌, ◌≤◌, ◌<◌, List, [], ◌∷◌, ◌++◌, map, take, Bool, true, not, Option, Some, None, Ok, option_map, option_to_list, refl, ap, sym, ◌∙◌, arith, subst, ◌⊎◌, inl, inr}
use Rattle.std.specs.List.{AllByRecursion, filter, list_any}
use Rattle.std.proofs.lemmas.Bool.{cases_lt, cases_Bool}
use Rattle.std.proofs.lemmas.List.Elements.{filter-append}
use Rattle.std.proofs.lemmas.List.{map-append}
use Rattle.czi_format.specs.Document.{Document}
use Rattle.czi_format.specs.Layout.{Place, Layout}
use Rattle.czi_format.specs.Span.{Span, end_of, IsWhole, LiesInOne}
use Rattle.czi_format.specs.Space.{Space, same_span, without}
use Rattle.czi_format.proofs.Local.{All-append}
use Rattle.czi_format.proofs.Rules.{on_ok}
use Rattle.czi_machine.specs.Cover.{between, cover, Chained}
use Rattle.czi_machine.specs.Edit.{DocumentEffect}
use Rattle.czi_machine.specs.Machine.{edited, restored, kept_formers}
use Rattle.czi_machine.specs.Places.{AskedLayout, Placed, Fitted, fit_one, fit_each, fit_option, stays_or_back, edit_asks, undo_asks, placed, relaid, leaving, staying, items_asked, directories_asked, directories, live_places, can_be_used, space_of}
use Rattle.czi_machine.specs.Sound.{all_places, live_spans, dead_held, AreDistinct, IsDisjointState, IsGapless, AreItems, IsGaplessState}
use Rattle.czi_machine.specs.State.{Items, Former, State, held, held_by, items_of, item_places, item_spans, spans_of, not_among}
use Rattle.czi_machine.specs.Writes.{dead}
use Rattle.czi_machine.proofs.Asking.{going_back, spans-append}
use Rattle.czi_machine.proofs.Cover.{between_high, without_in, without_out, cover-append, cover-deleted_after}
use Rattle.czi_machine.proofs.InOne.{in_deleted_after, freed_in}
use Rattle.czi_machine.proofs.Keeps.{deleted_after_whole_from, deleted_after_chained_from}
use Rattle.czi_machine.proofs.Leaving.{among_themselves, among_before, among_behind, cover-split, cover-fewer_of, All-fewer_of, not_fewer}
use Rattle.czi_machine.proofs.Nexts.{edit_goes_back, edit_is_next, undo_goes_back, undo_is_next, held_first, edit_well, edit_directories_well, undo_well, undo_directories_well}
use Rattle.czi_machine.proofs.Placing.{IsAsked, Placing, placing, covers_own, used_is, used_covered, used_past, used_whole_or_apart, avoids_held, held_covered, held_parts, few_items, live_parts, parts_live, cover-live_places, leaving_staying, leaving_some, freed_whole, without_whole_apart}
use Rattle.czi_machine.proofs.Steady.{on_all}
use Rattle.czi_machine.proofs.Tiled.{All-both, All-filter, All-map, map-All, All-weaken, between_one}
use Rattle.czi_machine.proofs.Restated.{ok_is}
use Rattle.czi_machine.proofs.Exact.{relaid_exact, sound_tidy, tidy_sound, nothing_dead_held}

-- what is freed, and what is dead
freed_of : Layout → AskedLayout → List Span
freed_of l n = spans_of (filter can_be_used (leaving l n))

dead_of : Layout → AskedLayout → List Span
dead_of l n = spans_of (filter (λ (q : Place). not (can_be_used q)) (leaving l n))

swapped : (s : State) (n : AskedLayout) (pl : Placed) (p : ℕ) → IsDisjointState s → IsAsked s n → Placing s n pl
    → cover (live_spans (relaid s.layout n pl)) p + (cover (freed_of s.layout n) p + cover (dead_of s.layout n) p) ≡ cover (live_spans s.layout) p + cover pl.used p
unfolding freed_of dead_of
swapped s n pl p is nx at = omega (
  arith,
  cover-live_places (relaid s.layout n pl) p,
  at.items p,
  at.directories p,
  used_is s n pl at p,
  at.used_parts p,
  cover-split can_be_used (leaving s.layout n) p,
  leaving_staying s n p is nx,
)

used_or_not : (used D : List Span) (p : ℕ) → ((1 ≤ cover used p) × (cover (without used D) p ≡ 0)) ⊎ ((cover used p ≡ 0) × (cover (without used D) p ≡ cover D p))
used_or_not used D p = elim (cases_lt 0 (cover used p)) [
  | inl h ↦ inl (h, without_in used D p h)
  | inr h ↦ let nothing : cover used p ≡ 0 = omega arith in inr (nothing, without_out used D p nothing)
]

-- how often a place is had afterwards, where so many dead spans have it
relaid_once : (s : State) (n : AskedLayout) (pl : Placed) (p dead' : ℕ) → IsDisjointState s → IsAsked s n → Placing s n pl
    → (cover pl.used p ≡ 0 → dead' ≤ cover (dead_of s.layout n) p + cover (dead_held s) p) → (1 ≤ cover pl.used p → dead' ≤ cover (dead_of s.layout n) p)
    → (cover (live_spans (relaid s.layout n pl)) p + (cover (relaid s.layout n pl).deleted p + dead') ≤ 1)
    × (pl.length ≤ p → cover (live_spans (relaid s.layout n pl)) p + (cover (relaid s.layout n pl).deleted p + dead') ≡ 0)
unfolding freed_of
relaid_once s n pl p dead' is nx at free busy =
    let D : List Span = s.layout.deleted in
    let sums = swapped s n pl p is nx at in
    let after = cover-deleted_after pl.used (freed_of s.layout n) D p in
    let longer : s.layout.length ≤ pl.length = omega (arith, at.uses.longer, at.length) in
    elim (cases_lt p s.layout.length) [
      | inl h ↦ (
        elim (used_or_not pl.used D p) [
          | inl k ↦ omega (arith, k.0, k.1, sums, after, busy k.0, used_covered s n pl at p is nx h, is.once p)
          | inr k ↦ omega (arith, k.0, k.1, sums, after, free k.0, is.once p)
        ],
        λ far. absurd (omega (arith, far, h, longer)),
      )
      | inr h ↦ let past = used_past s n pl at p is nx h in (
        elim (used_or_not pl.used D p) [
          | inl k ↦ omega (arith, k.0, k.1, sums, after, busy k.0, past, between_one s.layout.length pl.length p, is.inside p h)
          | inr k ↦ omega (arith, k.0, k.1, sums, after, free k.0, is.inside p h)
        ],
        λ far. let none : cover pl.used p ≡ 0 = omega (arith, past, between_high s.layout.length pl.length p far) in
            omega (arith, none, without_out pl.used D p none, sums, after, free none, is.inside p h),
      )
    ]

-- the DELETED extents afterwards
relaid_deleted : (s : State) (n : AskedLayout) (pl : Placed) → IsDisjointState s → IsAsked s n → Placing s n pl → AllByRecursion IsWhole (relaid s.layout n pl).deleted × Chained 0 (relaid s.layout n pl).deleted
unfolding freed_of
relaid_deleted s n pl is nx at =
    let D : List Span = s.layout.deleted in
    let F : List Span = freed_of s.layout n in
    let left : AllByRecursion IsWhole (without pl.used D) = without_whole_apart pl.used D is.deleted_whole (used_whole_or_apart s n pl at nx) in
    let freed : AllByRecursion IsWhole F = freed_whole (leaving s.layout n) (leaving_some s n is) in
    let apart : (p : ℕ) → cover F p + cover (without pl.used D) p ≤ 1 = λ p.
    let sums = swapped s n pl p is nx at in
    elim (cases_lt p s.layout.length) [
      | inl h ↦ elim (used_or_not pl.used D p) [
        | inl k ↦ omega (arith, k.0, k.1, sums, used_covered s n pl at p is nx h, is.once p)
        | inr k ↦ omega (arith, k.0, k.1, sums, is.once p)
      ]
      | inr h ↦ elim (used_or_not pl.used D p) [
        | inl k ↦ omega (arith, k.0, k.1, sums, used_past s n pl at p is nx h, between_one s.layout.length pl.length p, is.inside p h)
        | inr k ↦ omega (arith, k.0, k.1, sums, is.inside p h)
      ]
    ] in
    (deleted_after_whole_from pl.used F D left freed, deleted_after_chained_from pl.used F D left freed apart is.rising)

relaid_some : (s : State) (n : AskedLayout) (pl : Placed) → IsDisjointState s → Placing s n pl → AllByRecursion (λ (q : Place). 0 < q.span.len) (all_places (relaid s.layout n pl))
relaid_some s n pl is at = (is.some.0, parts_live (λ (q : Place). 0 < q.span.len) (relaid s.layout n pl) at.items_some at.directories_some)

-- fewer formers hold fewer spans
held-fewer : (d : Place → Bool) (newer : Items) (formers : List Former) (n p : ℕ) → cover (spans_of (filter d (held_by newer (take n formers)))) p ≤ cover (spans_of (filter d (held_by newer formers))) p
held-fewer d newer formers zero p = omega arith
held-fewer d newer [] (suc n) p = omega arith
held-fewer d newer (f ∷ formers) (suc n) p =
    let own : List Place = not_among (item_spans newer) (item_places f.items) in
    let part : (rest : List Place) → cover (spans_of (filter d (own ++ rest))) p ≡ cover (spans_of (filter d own)) p + cover (spans_of (filter d rest)) p =
    λ rest. ap (λ l. cover (spans_of l) p) (filter-append d own rest) ∙ (ap (λ l. cover l p) (spans-append (filter d own) (filter d rest)) ∙ cover-append (spans_of (filter d own)) (spans_of (filter d rest)) p) in
    omega (arith, held-fewer d f.items formers n p, part (held_by f.items (take n formers)), part (held_by f.items formers))

held-All : (P : Place → Type 0) (newer : Items) (formers : List Former) (n : ℕ) → AllByRecursion P (held_by newer formers) → AllByRecursion P (held_by newer (take n formers))
held-All P newer formers zero all = tt
held-All P newer [] (suc n) all = tt
held-All P newer (f ∷ formers) (suc n) all =
    let own : List Place = not_among (item_spans newer) (item_places f.items) in
    let both = All-append P own (held_by f.items formers) all in
    All-both P own (held_by f.items (take n formers)) both.0 (held-All P f.items formers n both.1)

held-All_of : (P : Place → Type 0) (d : Place → Bool) (newer : Items) (formers : List Former) (n : ℕ) → AllByRecursion P (filter d (held_by newer formers)) → AllByRecursion P (filter d (held_by newer (take n formers)))
held-All_of P d newer formers zero all = tt
held-All_of P d newer [] (suc n) all = tt
held-All_of P d newer (f ∷ formers) (suc n) all =
    let own : List Place = not_among (item_spans newer) (item_places f.items) in
    let both = All-append P (filter d own) (filter d (held_by f.items formers)) (subst (AllByRecursion P) (filter-append d own (held_by f.items formers)) all) in
    subst (AllByRecursion P) (sym (filter-append d own (held_by f.items (take n formers)))) (All-both P (filter d own) (filter d (held_by f.items (take n formers))) both.0 (held-All_of P d f.items formers n both.1))

pub All-taken : {X : Type 0} (P : X → Type 0) (n : ℕ) (xs : List X) → AllByRecursion P xs → AllByRecursion P (take n xs)
All-taken P (suc n) (x ∷ xs) all = (all.0, All-taken P n xs all.1)
All-taken P n xs all = tt

everything : (ps : List Place) → filter (λ (q : Place). true) ps ≡ ps
everything [] = refl
everything (p ∷ ps) = ap (λ l. p ∷ l) (everything ps)

pub held_few : (newer : Items) (formers : List Former) (n p : ℕ) → cover (spans_of (held_by newer (take n formers))) p ≤ cover (spans_of (held_by newer formers)) p
held_few newer formers n p = omega (
  arith,
  held-fewer (λ q. true) newer formers n p,
  ap (λ l. cover (spans_of l) p) (everything (held_by newer (take n formers))),
  ap (λ l. cover (spans_of l) p) (everything (held_by newer formers)),
)

-- the items of a tidy state
pub tidy_items : (s : State) → IsDisjointState s → AreDistinct (item_places (items_of s.layout))
tidy_items s is = record { some = (live_parts (λ (q : Place). 0 < q.span.len) s.layout is.some.1).0; once = λ p. omega (arith, few_items s p is) }

-- held spans that what is used avoids lie in one DELETED extent each afterwards
still_in : (l : Layout) (n : AskedLayout) (pl : Placed) (ps : List Place) → AllByRecursion (λ (q : Place). 0 < q.span.len) ps → AllByRecursion (λ (h : Span). LiesInOne h l.deleted) (spans_of ps)
    → ((p : ℕ) → 1 ≤ cover (spans_of ps) p → cover pl.used p ≡ 0) → AllByRecursion (λ (h : Span). LiesInOne h (relaid l n pl).deleted) (spans_of ps)
still_in l n pl ps some inside avoids =
    on_all (λ (h : Span). (p : ℕ) → between h.at (end_of h) p ≤ cover (spans_of ps) p) (λ (h : Span). (0 < h.len) × LiesInOne h l.deleted) (λ (h : Span). LiesInOne h (relaid l n pl).deleted)
    (λ h own b. in_deleted_after h pl.used (spans_of (filter can_be_used (leaving l n))) l.deleted b.0 b.1 (λ p k. avoids p (omega (arith, k, own p)))) (spans_of ps)
    (covers_own (spans_of ps)) (on_all (λ (h : Span). 0 < h.len) (λ (h : Span). LiesInOne h l.deleted) _ (λ h a b. (a, b)) (spans_of ps) (map-All (λ (q : Place). q.span) (λ (h : Span). 0 < h.len) ps some) inside)

-- two parts of a filtered list, in places
parts_cover : (d : Place → Bool) (xs ys : List Place) (p : ℕ) → cover (spans_of (filter d (xs ++ ys))) p ≡ cover (spans_of (filter d xs)) p + cover (spans_of (filter d ys)) p
parts_cover d xs ys p = ap (λ l. cover (spans_of l) p) (filter-append d xs ys) ∙ (ap (λ l. cover l p) (spans-append (filter d xs) (filter d ys)) ∙ cover-append (spans_of (filter d xs)) (spans_of (filter d ys)) p)

-- after an edit
pub tidy_edited : (s : State) (m : ℕ) (e : DocumentEffect) (d : Document) (pl : Placed) → IsDisjointState s → Placing s (edit_asks s e) pl → IsDisjointState (edited s m d (relaid s.layout (edit_asks s e) pl))
unfolding freed_of dead_of
tidy_edited s m e d pl is at =
    let n : AskedLayout = edit_asks s e in
    let nx : IsAsked s n = edit_is_next s e is in
    let l : Layout = s.layout in
    let l' : Layout = relaid l n pl in
    let items : List Place = item_places (items_of l) in
    let rest : List Place = held_by (items_of l) (take (kept_formers m s) s.formers) in
    let q : Place → Bool = λ x. not (list_any (same_span x.span) (item_spans pl.items)) in
    let r : Place → Bool = λ x. not (list_any (same_span x.span) (staying (items_asked n))) in
    let u : Place → Bool = can_be_used in
    let v : Place → Bool = λ x. not (can_be_used x) in
    let new : List Place = filter q items in
    let gone : List Place = filter r items in
    let gone_directories : List Place = not_among (staying (directories_asked n)) (directories l) in
    let fewer : (x : Place) → q x ≡ true → r x ≡ true = λ x t. not_fewer (staying (items_asked n)) (item_spans pl.items) x at.items_there t in
    let dead' : ℕ → ℕ = λ p. cover (spans_of (filter v (new ++ rest))) p in
    let dead_is : (p : ℕ) → dead' p ≡ cover (spans_of (filter v new)) p + cover (spans_of (filter v rest)) p = λ p. parts_cover v new rest p in
    let new_dead : (p : ℕ) → cover (spans_of (filter v new)) p ≤ cover (dead_of l n) p = λ p. omega (arith, cover-fewer_of v q r items p fewer, parts_cover v gone gone_directories p) in
    let rest_dead : (p : ℕ) → cover (spans_of (filter v rest)) p ≤ cover (dead_held s) p = λ p. held-fewer v (items_of l) s.formers (kept_formers m s) p in
    let none_back : (p : ℕ) → cover (going_back (items_asked n)) p ≡ 0 = λ p. ap (λ z. cover z p) (edit_goes_back s e) in
    let free : (p : ℕ) → 1 ≤ cover pl.used p → cover (held s) p ≡ 0 = λ p k. elim (cases_lt 0 (cover (held s) p)) [
      | inl h ↦ absurd (omega (arith, k, used_is s n pl at p, none_back p, avoids_held s n pl at p is h))
      | inr h ↦ omega (arith, h)
    ] in
    let once = λ (p : ℕ). relaid_once s n pl p (dead' p) is nx at
    (λ k. omega (arith, dead_is p, new_dead p, rest_dead p)) (λ k. omega (arith, dead_is p, new_dead p, rest_dead p, free p k, held_parts s p)) in
    let deleted = relaid_deleted s n pl is nx at in
    let were : AreDistinct items = tidy_items s is in
    let rest_few : (p : ℕ) → cover (spans_of rest) p ≤ cover (held s) p = λ p. held_few (items_of l) s.formers (kept_formers m s) p in
    let P : Place → Type 0 = λ x. LiesInOne x.span l'.deleted in
    let freed_ins : AllByRecursion P (filter u gone) =
    (All-append P (filter u gone) (filter u gone_directories) (subst (AllByRecursion P) (filter-append u gone gone_directories)
    (All-map (λ (x : Place). x.span) (λ (h : Span). LiesInOne h l'.deleted) (filter u (gone ++ gone_directories)) (freed_in pl.used (spans_of (filter u (leaving l n))) l.deleted)))).0 in
    let new_in : AllByRecursion P (filter u new) = All-fewer_of P u q r items fewer freed_ins in
    let held_places : List Place = held_by (items_of l) s.formers in
    let rest_in : AllByRecursion (λ (h : Span). LiesInOne h l.deleted) (spans_of (filter u rest)) =
    map-All (λ (x : Place). x.span) (λ (h : Span). LiesInOne h l.deleted) (filter u rest)
    (held-All_of (λ (x : Place). LiesInOne x.span l.deleted) u (items_of l) s.formers (kept_formers m s) (All-map (λ (x : Place). x.span) (λ (h : Span). LiesInOne h l.deleted) (filter u held_places) is.held_in)) in
    let rest_some : AllByRecursion (λ (x : Place). 0 < x.span.len) rest = held-All (λ (x : Place). 0 < x.span.len) (items_of l) s.formers (kept_formers m s) is.held.some in
    let rest_still : AllByRecursion (λ (h : Span). LiesInOne h l'.deleted) (spans_of (filter u rest)) =
    still_in l n pl (filter u rest) (All-filter _ u rest rest_some) rest_in
    (λ p k. omega (arith, used_is s n pl at p, none_back p, avoids_held s n pl at p is (omega (arith, k, cover-split u rest p, rest_few p)))) in
    record {
      once = λ p. (once p).0;
      inside = λ p h. (once p).1 h;
      some = relaid_some s n pl is at;
      deleted_whole = deleted.0;
      rising = deleted.1;
      held = record {
        some = All-both _ new rest (All-filter _ q items were.some) rest_some;
        once = λ p. omega (
          arith,
          ap (λ z. cover z p) (spans-append new rest),
          cover-append (spans_of new) (spans_of rest) p,
          cover-split q items p,
          few_items s p is,
          rest_few p,
          held_covered s p is,
          is.once p,
          cover-live_places l p,
        );
      };
      held_in = map-All (λ (x : Place). x.span) (λ (h : Span). LiesInOne h l'.deleted) (filter u (new ++ rest)) (subst (AllByRecursion P) (sym (filter-append u new rest))
          (All-both P (filter u new) (filter u rest) new_in (All-map (λ (x : Place). x.span) (λ (h : Span). LiesInOne h l'.deleted) (filter u rest) rest_still)));
      formers = (were, All-taken (λ (f : Former). AreDistinct (item_places f.items)) (kept_formers m s) s.formers is.formers);
    }

-- what stays, or goes back, lies where it is asked for
one_place : (l : Layout) (present : List Span) (space : Space) (q : Place) (r : Fitted Place) → fit_one l space (stays_or_back present q) ≡ Ok r → r.places ≡ q
one_place l present space q r e = elim (cases_Bool (list_any (same_span q.span) present)) [
  | inl t ↦ ap (λ (z : Fitted Place). z.places) (sym (ok_is _ r (rw t at e)))
  | inr t ↦ ap (λ (z : Fitted Place). z.places) (sym (ok_is _ r (rw t at e)))
]

each_place : (l : Layout) (present : List Span) (space : Space) (ps : List Place) (r : Fitted (List Place)) → fit_each l space (map (stays_or_back present) ps) ≡ Ok r → r.places ≡ ps
each_place l present space [] r e = ap (λ (z : Fitted (List Place)). z.places) (sym (ok_is _ r e))
each_place l present space (q ∷ ps) r e =
    on_ok (fit_one l space (stays_or_back present q)) _ r e λ first one more.
    on_ok (fit_each l first.space (map (stays_or_back present) ps)) _ r more λ rest each done.
    let same : first.places ≡ q = one_place l present space q first one in
    let others : rest.places ≡ ps = each_place l present first.space ps rest each in
    ap (λ (z : Fitted (List Place)). z.places) (sym (ok_is _ r done)) ∙ (λ i. same i ∷ others i)

option_place : (l : Layout) (present : List Span) (space : Space) (o : Option Place) (r : Fitted (Option Place)) → fit_option l space (option_map (stays_or_back present) o) ≡ Ok r → r.places ≡ o
option_place l present space None r e = ap (λ (z : Fitted (Option Place)). z.places) (sym (ok_is _ r e))
option_place l present space (Some q) r e =
    on_ok (fit_one l space (stays_or_back present q)) _ r e λ first one done.
    ap (λ (z : Fitted (Option Place)). z.places) (sym (ok_is _ r done)) ∙ ap Some (one_place l present space q first one)

pub undo_places : (s : State) (f : Former) (pl : Placed) → placed s.layout (space_of s) (undo_asks s f) ≡ Ok pl → pl.items ≡ f.items
undo_places s f pl e =
    let l : Layout = s.layout in
    let present : List Span = item_spans (items_of l) in
    let n : AskedLayout = undo_asks s f in
    on_ok (fit_each l (space_of s) n.subblocks) _ pl e λ t t_is e1.
    on_ok (fit_each l t.space n.attachments) _ pl e1 λ a a_is e2.
    on_ok (fit_option l a.space n.metadata) _ pl e2 λ m m_is e3.
    on_ok (fit_option l m.space n.directory) _ pl e3 λ d d_is e4.
    on_ok (fit_option l d.space n.attdir) _ pl e4 λ x x_is e5.
    let ts = each_place l present (space_of s) f.items.subblocks t t_is in
    let as' = each_place l present t.space f.items.attachments a a_is in
    let ms = option_place l present a.space f.items.metadata m m_is in
    ap (λ (z : Placed). z.items) (sym (ok_is _ pl e5)) ∙ (λ i. record { subblocks = ts i; attachments = as' i; metadata = ms i })

-- after an undo
pub tidy_restored : (s : State) (f : Former) (formers : List Former) (pl : Placed) → IsDisjointState s → s.formers ≡ f ∷ formers → placed s.layout (space_of s) (undo_asks s f) ≡ Ok pl
    → IsDisjointState (restored s f formers (relaid s.layout (undo_asks s f) pl))
unfolding freed_of dead_of
tidy_restored s f formers pl is newest placed_is =
    let n : AskedLayout = undo_asks s f in
    let nx : IsAsked s n = undo_is_next s f formers is newest in
    let at : Placing s n pl = placing s n pl is nx placed_is in
    let l : Layout = s.layout in
    let l' : Layout = relaid l n pl in
    let same : items_of l' ≡ f.items = undo_places s f pl placed_is in
    let u : Place → Bool = can_be_used in
    let v : Place → Bool = λ x. not (can_be_used x) in
    let all : AllByRecursion (λ (g : Former). AreDistinct (item_places g.items)) (f ∷ formers) = subst (AllByRecursion (λ (g : Former). AreDistinct (item_places g.items))) newest is.formers in
    let first : List Place = not_among (item_spans (items_of l)) (item_places f.items) in
    let rest : List Place = held_by f.items formers in
    let now : rest ≡ held_by (items_of l') formers = ap (λ z. held_by z formers) (sym same) in
    let split : held_by (items_of l) s.formers ≡ first ++ rest = ap (held_by (items_of l)) newest in
    let some = All-append (λ (x : Place). 0 < x.span.len) first rest (subst (AllByRecursion (λ (x : Place). 0 < x.span.len)) split is.held.some) in
    let P : Place → Type 0 = λ x. LiesInOne x.span l.deleted in
    let inside = All-append P (filter u first) (filter u rest) (subst (AllByRecursion P) (ap (filter u) split ∙ filter-append u first rest)
    (All-map (λ (x : Place). x.span) (λ (h : Span). LiesInOne h l.deleted) (filter u (held_by (items_of l) s.formers)) is.held_in)) in
    let sums : (p : ℕ) → cover (held s) p ≡ cover (spans_of first) p + cover (spans_of rest) p = λ p. held_first s f formers p newest in
    let backs : (p : ℕ) → cover (going_back (items_asked n)) p ≡ cover (spans_of first) p = λ p. ap (λ z. cover z p) (undo_goes_back s f all.0) in
    let avoids : (p : ℕ) → 1 ≤ cover (spans_of rest) p → cover pl.used p ≡ 0 = λ p k. omega (arith, used_is s n pl at p, backs p, sums p, is.held.once p, avoids_held s n pl at p is (omega (arith, k, sums p))) in
    let dead' : ℕ → ℕ = λ p. cover (spans_of (filter v rest)) p in
    let dead_fewer : (p : ℕ) → dead' p ≤ cover (dead_held s) p = λ p. omega (arith, ap (λ z. cover (spans_of (filter v z)) p) split, parts_cover v first rest p) in
    let dead_rest : (p : ℕ) → dead' p ≤ cover (spans_of rest) p = λ p. omega (arith, cover-split u rest p) in
    let once = λ (p : ℕ). relaid_once s n pl p (dead' p) is nx at (λ k. omega (arith, dead_fewer p)) (λ k. elim (cases_lt 0 (cover (spans_of rest) p)) [
      | inl h ↦ absurd (omega (arith, k, avoids p h))
      | inr h ↦ omega (arith, h, dead_rest p)
    ]) in
    let deleted = relaid_deleted s n pl is nx at in
    let still : AllByRecursion (λ (h : Span). LiesInOne h l'.deleted) (spans_of (filter u rest)) =
    still_in l n pl (filter u rest) (All-filter _ u rest some.1) (map-All (λ (x : Place). x.span) (λ (h : Span). LiesInOne h l.deleted) (filter u rest) inside.1)
    (λ p k. avoids p (omega (arith, k, cover-split u rest p))) in
    record {
      once = λ p. omega (arith, (once p).0, ap (λ z. cover (spans_of (filter v z)) p) now);
      inside = λ p h. omega (arith, (once p).1 h, ap (λ z. cover (spans_of (filter v z)) p) now);
      some = relaid_some s n pl is at;
      deleted_whole = deleted.0;
      rising = deleted.1;
      held = record {
        some = subst (AllByRecursion (λ (x : Place). 0 < x.span.len)) now some.1;
        once = λ p. omega (arith, sums p, is.held.once p, ap (λ z. cover (spans_of z) p) now);
      };
      held_in = subst (λ z. AllByRecursion (λ (h : Span). LiesInOne h l'.deleted) (spans_of (filter u z))) now still;
      formers = all.1;
    }

-- held spans lay below the length
pub held_edited : (s : State) (m : ℕ) (d : Document) (l : Layout) (p : ℕ) → IsDisjointState s → s.layout.length ≤ p → cover (held (edited s m d l)) p ≡ 0
held_edited s m d l p is behind =
    let items : List Place = item_places (items_of s.layout) in
    let new : List Place = not_among (item_spans (items_of l)) items in
    let rest : List Place = held_by (items_of s.layout) (take (kept_formers m s) s.formers) in
    omega (
      arith,
      ap (λ z. cover z p) (spans-append new rest),
      cover-append (spans_of new) (spans_of rest) p,
      cover-split (λ (x : Place). list_any (same_span x.span) (item_spans (items_of l))) items p,
      held_few (items_of s.layout) s.formers (kept_formers m s) p,
      held_covered s p is,
      is.inside p behind,
      cover-live_places s.layout p,
    )

pub held_restored : (s : State) (f : Former) (formers : List Former) (pl : Placed) (p : ℕ) → IsDisjointState s → s.formers ≡ f ∷ formers → placed s.layout (space_of s) (undo_asks s f) ≡ Ok pl → s.layout.length ≤ p
    → cover (held (restored s f formers (relaid s.layout (undo_asks s f) pl))) p ≡ 0
held_restored s f formers pl p is newest placed_is behind =
    let same : pl.items ≡ f.items = undo_places s f pl placed_is in
    omega (arith, ap (λ z. cover (spans_of (held_by z formers)) p) same, held_first s f formers p newest, held_covered s p is, is.inside p behind)

-- What was live and is dead afterwards.
among_either : (s : Span) (xs ys : List Span) → list_any (same_span s) (xs ++ ys) ≡ true → (list_any (same_span s) xs ≡ true) ⊎ (list_any (same_span s) ys ≡ true)
among_either s [] ys e = inr e
among_either s (x ∷ xs) ys e = elim (cases_Bool (same_span s x)) [
  | inl f ↦ inl (rw f)
  | inr f ↦ elim (among_either s xs ys (rw f at e)) [ inl a ↦ inl (rw f a) | inr b ↦ inr b ]
]

live_split : (l : Layout) → spans_of (live_places l) ≡ spans_of (option_to_list l.directory) ++ (spans_of l.subblocks ++ (spans_of (option_to_list l.attdir) ++ (spans_of l.attachments ++ spans_of (option_to_list l.metadata))))
live_split l = simp map-append

-- items and directories are live
item_live : (l : Layout) (t : Span) → list_any (same_span t) (item_spans (items_of l)) ≡ true → list_any (same_span t) (spans_of (live_places l)) ≡ true
item_live l t e =
    let D : List Span = spans_of (option_to_list l.directory) in
    let S : List Span = spans_of l.subblocks in
    let X : List Span = spans_of (option_to_list l.attdir) in
    let A : List Span = spans_of l.attachments in
    let M : List Span = spans_of (option_to_list l.metadata) in
    let parts : item_spans (items_of l) ≡ S ++ (A ++ M) = simp map-append in
    ap (list_any (same_span t)) (live_split l)
    ∙ among_behind t D (S ++ (X ++ (A ++ M))) (elim (among_either t S (A ++ M) (ap (list_any (same_span t)) (sym parts) ∙ e)) [
      | inl a ↦ among_before t S (X ++ (A ++ M)) a
      | inr b ↦ among_behind t S (X ++ (A ++ M)) (among_behind t X (A ++ M) b)
    ])

directory_live : (l : Layout) (t : Span) → list_any (same_span t) (spans_of (directories l)) ≡ true → list_any (same_span t) (spans_of (live_places l)) ≡ true
directory_live l t e =
    let D : List Span = spans_of (option_to_list l.directory) in
    let S : List Span = spans_of l.subblocks in
    let X : List Span = spans_of (option_to_list l.attdir) in
    let A : List Span = spans_of l.attachments in
    let M : List Span = spans_of (option_to_list l.metadata) in
    let parts : spans_of (directories l) ≡ D ++ X = spans-append (option_to_list l.directory) (option_to_list l.attdir) in
    ap (list_any (same_span t)) (live_split l)
    ∙ (elim (among_either t D X (ap (list_any (same_span t)) (sym parts) ∙ e)) [
      | inl a ↦ among_before t D (S ++ (X ++ (A ++ M))) a
      | inr b ↦ among_behind t D (S ++ (X ++ (A ++ M))) (among_behind t S (X ++ (A ++ M)) (among_before t X (A ++ M) b))
    ])

-- two tests, one after the other, over what is live
live_cover_of : (d q : Place → Bool) (l : Layout) (p : ℕ)
    → cover (spans_of (filter d (filter q (live_places l)))) p ≡ cover (spans_of (filter d (filter q (item_places (items_of l))))) p + cover (spans_of (filter d (filter q (directories l)))) p
live_cover_of d q l p =
    let D : List Place = option_to_list l.directory in
    let X : List Place = option_to_list l.attdir in
    let M : List Place = option_to_list l.metadata in
    let two : (xs ys : List Place) → cover (spans_of (filter d (filter q (xs ++ ys)))) p ≡ cover (spans_of (filter d (filter q xs))) p + cover (spans_of (filter d (filter q ys))) p =
    λ xs ys. ap (λ z. cover (spans_of (filter d z)) p) (filter-append q xs ys) ∙ parts_cover d (filter q xs) (filter q ys) p in
    omega (
      arith,
      two D (l.subblocks ++ (X ++ (l.attachments ++ M))),
      two l.subblocks (X ++ (l.attachments ++ M)),
      two X (l.attachments ++ M),
      two l.attachments M,
      two l.subblocks (l.attachments ++ M),
      two D X,
    )

dead_places : (s : State) (n : AskedLayout) (pl : Placed) (p : ℕ) → Placing s n pl → cover (dead s.layout (relaid s.layout n pl)) p ≤ cover (dead_of s.layout n) p
unfolding dead_of
dead_places s n pl p at =
    let l : Layout = s.layout in
    let l' : Layout = relaid l n pl in
    let v : Place → Bool = λ x. not (can_be_used x) in
    let q : Place → Bool = λ x. not (list_any (same_span x.span) (spans_of (live_places l'))) in
    let r : Place → Bool = λ x. not (list_any (same_span x.span) (staying (items_asked n))) in
    let w : Place → Bool = λ x. not (list_any (same_span x.span) (staying (directories_asked n))) in
    let items : (x : Place) → q x ≡ true → r x ≡ true = λ x t. not_fewer (staying (items_asked n)) (spans_of (live_places l')) x
    (All-weaken (λ u. list_any (same_span u) (item_spans pl.items) ≡ true) _ (λ u e. item_live l' u e) (staying (items_asked n)) at.items_there) t in
    let dirs : (x : Place) → q x ≡ true → w x ≡ true = λ x t. not_fewer (staying (directories_asked n)) (spans_of (live_places l')) x
    (All-weaken (λ u. list_any (same_span u) (spans_of (directories l')) ≡ true) _ (λ u e. directory_live l' u e) (staying (directories_asked n)) at.directories_stay) t in
    omega (
      arith,
      live_cover_of v q l p,
      cover-fewer_of v q r (item_places (items_of l)) p items,
      cover-fewer_of v q w (directories l) p dirs,
      parts_cover v (filter r (item_places (items_of l))) (filter w (directories l)) p,
    )

-- no place is live afterwards, DELETED and dead
pub marked_once : (s : State) (n : AskedLayout) (pl : Placed) (p : ℕ) → IsDisjointState s → IsAsked s n → Placing s n pl
    → cover (live_spans (relaid s.layout n pl)) p + (cover (relaid s.layout n pl).deleted p + cover (dead s.layout (relaid s.layout n pl)) p) ≤ 1
marked_once s n pl p is nx at =
    let once = relaid_once s n pl p (cover (dead_of s.layout n) p) is nx at (λ k. omega arith) (λ k. omega arith) in
    omega (arith, once.0, dead_places s n pl p at)

-- Each held span afterwards was live, or was held.
HeldFrom : State → Span → Type 0
HeldFrom s h = (list_any (same_span h) (spans_of (live_places s.layout)) ≡ true) ⊎ ((p : ℕ) → between h.at (end_of h) p ≤ cover (held s) p)

within_more : (xs : List Span) (X : ℕ → ℕ) → ((p : ℕ) → cover xs p ≤ X p) → AllByRecursion (λ (h : Span). (p : ℕ) → between h.at (end_of h) p ≤ X p) xs
within_more xs X fewer = All-weaken (λ (h : Span). (p : ℕ) → between h.at (end_of h) p ≤ cover xs p) _ (λ h own p. omega (arith, own p, fewer p)) xs (covers_own xs)

pub edited_from : (s : State) (m : ℕ) (d : Document) (l : Layout)
    → AllByRecursion (λ (h : Span). (list_any (same_span h) (spans_of (live_places s.layout)) ≡ true) ⊎ ((p : ℕ) → between h.at (end_of h) p ≤ cover (held s) p)) (held (edited s m d l))
unfolding HeldFrom
edited_from s m d l =
    let items : List Place = item_places (items_of s.layout) in
    let new : List Place = not_among (item_spans (items_of l)) items in
    let rest : List Place = held_by (items_of s.layout) (take (kept_formers m s) s.formers) in
    let own : AllByRecursion (λ (q : Place). HeldFrom s q.span) items =
    All-weaken (λ (q : Place). list_any (same_span q.span) (item_spans (items_of s.layout)) ≡ true) (λ (q : Place). HeldFrom s q.span) (λ q e. inl (item_live s.layout q.span e)) items
    (All-map (λ (q : Place). q.span) (λ t. list_any (same_span t) (item_spans (items_of s.layout)) ≡ true) items (among_themselves (item_spans (items_of s.layout)))) in
    subst (AllByRecursion (HeldFrom s)) (sym (spans-append new rest)) (All-both (HeldFrom s) (spans_of new) (spans_of rest)
    (map-All (λ (q : Place). q.span) (HeldFrom s) new (All-filter _ _ items own))
    (All-weaken _ (HeldFrom s) (λ h own. inr own) (spans_of rest) (within_more (spans_of rest) (λ p. cover (held s) p) (λ p. held_few (items_of s.layout) s.formers (kept_formers m s) p))))

pub restored_from : (s : State) (f : Former) (formers : List Former) (pl : Placed) → IsDisjointState s → s.formers ≡ f ∷ formers → placed s.layout (space_of s) (undo_asks s f) ≡ Ok pl
    → AllByRecursion (λ (h : Span). (list_any (same_span h) (spans_of (live_places s.layout)) ≡ true) ⊎ ((p : ℕ) → between h.at (end_of h) p ≤ cover (held s) p)) (held (restored s f formers (relaid s.layout (undo_asks s f) pl)))
unfolding HeldFrom
restored_from s f formers pl is newest placed_is =
    let same : pl.items ≡ f.items = undo_places s f pl placed_is in
    let rest : List Span = held (restored s f formers (relaid s.layout (undo_asks s f) pl)) in
    All-weaken _ (HeldFrom s) (λ h own. inr own) rest (within_more rest (λ p. cover (held s) p) (λ p. omega (arith, ap (λ z. cover (spans_of (held_by z formers)) p) same, held_first s f formers p newest)))

-- A sound state stays sound: after an edit, and after an undo.

-- the items of a layout that fills the image
exact_items : (s : State) → IsGaplessState s → AreItems (items_of s.layout)
exact_items s is = record {
  whole = map-All (λ (p : Place). p.span) IsWhole (item_places (items_of s.layout)) (live_parts (λ (p : Place). IsWhole p.span) s.layout (All-map (λ (p : Place). p.span) IsWhole (live_places s.layout) is.layout.live_whole.1)).0;
  once = λ p. omega (arith, few_items s p (sound_tidy s is));
  walked = (live_parts (λ (p : Place). p.walked ≡ true) s.layout is.layout.walked.1).0;
}

no_dead : (s : State) → IsGaplessState s → (p : ℕ) → cover (dead_held s) p ≡ 0
no_dead s is p = ap (λ z. cover z p) (nothing_dead_held s is.formers)

pub sound_edited : (s : State) (m : ℕ) (e : DocumentEffect) (d : Document) (pl : Placed) → IsGaplessState s → Placing s (edit_asks s e) pl → IsGaplessState (edited s m d (relaid s.layout (edit_asks s e) pl))
sound_edited s m e d pl is at =
    let tidy : IsDisjointState s = sound_tidy s is in
    let n : AskedLayout = edit_asks s e in
    let nx : IsAsked s n = edit_is_next s e tidy in
    let exact : IsGapless (relaid s.layout n pl) = relaid_exact s n pl tidy is.layout (no_dead s is) nx (edit_well s e is.layout) (edit_directories_well s e is.layout) at in
    tidy_sound (edited s m d (relaid s.layout n pl)) (tidy_edited s m e d pl tidy at) exact (exact_items s is, All-taken (λ (f : Former). AreItems f.items) (kept_formers m s) s.formers is.formers)

pub sound_restored : (s : State) (f : Former) (formers : List Former) (pl : Placed) → IsGaplessState s → s.formers ≡ f ∷ formers → placed s.layout (space_of s) (undo_asks s f) ≡ Ok pl
    → IsGaplessState (restored s f formers (relaid s.layout (undo_asks s f) pl))
sound_restored s f formers pl is newest placed_is =
    let tidy : IsDisjointState s = sound_tidy s is in
    let n : AskedLayout = undo_asks s f in
    let nx : IsAsked s n = undo_is_next s f formers tidy newest in
    let at : Placing s n pl = placing s n pl tidy nx placed_is in
    let all : AllByRecursion (λ (g : Former). AreItems g.items) (f ∷ formers) = subst (AllByRecursion (λ (g : Former). AreItems g.items)) newest is.formers in
    let exact : IsGapless (relaid s.layout n pl) = relaid_exact s n pl tidy is.layout (no_dead s is) nx (undo_well s f all.0) (undo_directories_well s f is.layout) at in
    tidy_sound (restored s f formers (relaid s.layout n pl)) (tidy_restored s f formers pl tidy newest placed_is) exact all.1
