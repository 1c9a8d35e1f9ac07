-- What is live asked_layout, after an edit and after an undo.
use Rattle.std.proofs.Common.{◌≡◌, ℕ, ◌+◌, ◌%◌, ◌≤◌, ◌<◌, List, [], ◌∷◌, ◌++◌, map, Bool, true, false, Option, Some, None, option_map, option_to_list, refl, ap, sym, ◌∙◌, arith, subst, ◌⊎◌, inl, inr}
use Rattle.std.specs.List.{AllByRecursion, list_any}
use Rattle.std.proofs.lemmas.Bool.{cases_Bool}
use Rattle.std.proofs.lemmas.List.{map-append}
use Rattle.czi_format.specs.Document.{Document}
use Rattle.czi_format.specs.Layout.{Place, Layout}
use Rattle.czi_format.specs.Span.{Span, end_of, IsWhole}
use Rattle.czi_format.specs.Space.{same_span}
use Rattle.czi_format.proofs.Local.{All-append}
use Rattle.czi_machine.specs.Change.{Act, keep, omit, bring, changed, mapped, Setting, same, to, set, mapped_setting}
use Rattle.czi_machine.specs.Cover.{between, cover}
use Rattle.czi_machine.specs.Edit.{DocumentEffect, after}
use Rattle.czi_machine.specs.Places.{Asked, stays, fresh, directories_asked, asked_layout, edit_asks, undo_asks, stays_or_back, keeps_directory, keeps_attdir, directory_asked, subblock_need, attachment_need, metadata_need, directory_need, attdir_need, segment_need, staying, items_asked, directories, live_places}
use Rattle.czi_machine.specs.Sound.{IsGapless, AreItems, AreDistinct, IsDisjointState}
use Rattle.czi_machine.specs.State.{Items, Former, State, held, held_by, items_of, item_places, item_spans, spans_of, not_among}
use Rattle.czi_machine.proofs.Asking.{IsGood, IsWell, going_back, staying-append, going_back-append, All-staying, spans-append, option_list}
use Rattle.czi_machine.proofs.Cover.{cover-append}
use Rattle.czi_machine.proofs.Placing.{IsAsked, few_items, live_parts, held_whole_or_apart}
use Rattle.czi_machine.proofs.Leaving.{among_themselves}
use Rattle.czi_machine.proofs.Tiled.{All-both, All-map}

-- What is known of some of what is live asked_layout: those that stay are among some places.
record Keeping (asked : List Asked) (places : List Place) (spans : List Span) : Type 0 where
  good : AllByRecursion IsGood asked
  fewer : (p : ℕ) → cover (staying asked) p ≤ cover (spans_of places) p
  there : AllByRecursion (λ t. list_any (same_span t) spans ≡ true) (staying asked)

keeping_both : (xs ys : List Asked) (ps qs : List Place) (spans : List Span) → Keeping xs ps spans → Keeping ys qs spans → Keeping (xs ++ ys) (ps ++ qs) spans
keeping_both xs ys ps qs spans a b = record {
  good = All-both IsGood xs ys a.good b.good;
  fewer = λ p. omega (arith, a.fewer p, b.fewer p, staying-append xs ys p, ap (λ l. cover l p) (spans-append ps qs), cover-append (spans_of ps) (spans_of qs) p);
  there = All-staying _ xs ys a.there b.there;
}

-- what is known of places that stay
record Stays (places : List Place) (spans : List Span) : Type 0 where
  good : AllByRecursion (λ (p : Place). 0 < p.span.len) places
  there : AllByRecursion (λ p. list_any (same_span p.span) spans ≡ true) places

-- a list that an edit changes: what it brings is new
keeping_changed : {X : Type 0} (need : X → ℕ) (c : List (Act X)) (places : List Place) (spans : List Span) → ((x : X) → (need x % 32 ≡ 0) × (0 < need x)) → Stays places spans
    → Keeping (changed (mapped (λ x. fresh (need x)) c) (map stays places)) places spans
keeping_changed need [] [] spans good s = record { good = tt; fewer = λ p. omega arith; there = tt }
keeping_changed need [] (q ∷ qs) spans good s =
    let rest = keeping_changed need [] qs spans good (record { good = s.good.1; there = s.there.1 }) in
    record { good = (s.good.0, rest.good); fewer = λ p. omega (arith, rest.fewer p); there = (s.there.0, rest.there) }
keeping_changed need (bring x ∷ c) qs spans good s =
    let rest = keeping_changed need c qs spans good s in
    record { good = (good x, rest.good); fewer = rest.fewer; there = rest.there }
keeping_changed need (keep ∷ c) [] spans good s = keeping_changed need c [] spans good s
keeping_changed need (keep ∷ c) (q ∷ qs) spans good s =
    let rest = keeping_changed need c qs spans good (record { good = s.good.1; there = s.there.1 }) in
    record { good = (s.good.0, rest.good); fewer = λ p. omega (arith, rest.fewer p); there = (s.there.0, rest.there) }
keeping_changed need (omit ∷ c) [] spans good s = keeping_changed need c [] spans good s
keeping_changed need (omit ∷ c) (q ∷ qs) spans good s =
    let rest = keeping_changed need c qs spans good (record { good = s.good.1; there = s.there.1 }) in
    record { good = rest.good; fewer = λ p. omega (arith, rest.fewer p); there = rest.there }

keeping_set : {X : Type 0} (need : X → ℕ) (c : Setting X) (old : Option Place) (spans : List Span) → ((x : X) → (need x % 32 ≡ 0) × (0 < need x)) → Stays (option_to_list old) spans
    → Keeping (option_to_list (set (mapped_setting (λ x. fresh (need x)) c) (option_map stays old))) (option_to_list old) spans
keeping_set need same (Some q) spans good s = record { good = (s.good.0, tt); fewer = λ p. omega arith; there = (s.there.0, tt) }
keeping_set need (to (Some x)) old spans good s = record { good = (good x, tt); fewer = λ p. omega arith; there = tt }
keeping_set need c old spans good s = record { good = tt; fewer = λ p. omega arith; there = tt }

keeping_directory : (old : Option Place) (kept : Bool) (need : ℕ) (spans : List Span) → (need % 32 ≡ 0) × (0 < need) → Stays (option_to_list old) spans
    → Keeping (option_to_list (directory_asked old kept need)) (option_to_list old) spans
keeping_directory None true need spans good s = record { good = tt; fewer = λ p. omega arith; there = tt }
keeping_directory (Some q) true need spans good s = record { good = (s.good.0, tt); fewer = λ p. omega arith; there = (s.there.0, tt) }
keeping_directory old false need spans good s = record { good = (good, tt); fewer = λ p. omega arith; there = tt }

pub segment_need_good : (n : ℕ) → (segment_need n % 32 ≡ 0) × (0 < segment_need n)
segment_need_good n = (omega arith, omega arith)

no_back : {X : Type 0} (need : X → ℕ) (c : List (Act X)) (places : List Place) → going_back (changed (mapped (λ x. fresh (need x)) c) (map stays places)) ≡ []
no_back need [] [] = refl
no_back need [] (q ∷ qs) = no_back need [] qs
no_back need (bring x ∷ c) qs = no_back need c qs
no_back need (keep ∷ c) [] = no_back need c []
no_back need (keep ∷ c) (q ∷ qs) = no_back need c qs
no_back need (omit ∷ c) [] = no_back need c []
no_back need (omit ∷ c) (q ∷ qs) = no_back need c qs

no_set_back : {X : Type 0} (need : X → ℕ) (c : Setting X) (old : Option Place) → going_back (option_to_list (set (mapped_setting (λ x. fresh (need x)) c) (option_map stays old))) ≡ []
no_set_back need same None = refl
no_set_back need same (Some q) = refl
no_set_back need (to None) old = refl
no_set_back need (to (Some x)) old = refl

no_directory_back : (old : Option Place) (kept : Bool) (need : ℕ) → going_back (option_to_list (directory_asked old kept need)) ≡ []
no_directory_back None true need = refl
no_directory_back (Some q) true need = refl
no_directory_back old false need = refl

-- what is live is among the items or the directories
stays_in : (ps : List Place) → AllByRecursion (λ (p : Place). 0 < p.span.len) ps → Stays ps (spans_of ps)
stays_in ps good = record { good = good; there = All-map (λ (p : Place). p.span) (λ t. list_any (same_span t) (spans_of ps) ≡ true) ps (among_themselves (spans_of ps)) }

stays_parts : (ps qs : List Place) (spans : List Span) → Stays (ps ++ qs) spans → Stays ps spans × Stays qs spans
stays_parts ps qs spans s =
    let g = All-append _ ps qs s.good in
    let t = All-append _ ps qs s.there in
    (record { good = g.0; there = t.0 }, record { good = g.1; there = t.1 })

-- what is live asked_layout is so where its items are
pub is_next : (s : State) (d : Document) (ts as' : List Asked) (m : Option Asked) → IsDisjointState s
    → AllByRecursion IsGood (ts ++ (as' ++ option_to_list m)) → ((p : ℕ) → cover (staying (ts ++ (as' ++ option_to_list m))) p ≤ 1)
    → AllByRecursion (λ t. list_any (same_span t) (item_spans (items_of s.layout)) ≡ true) (staying (ts ++ (as' ++ option_to_list m)))
    → ((p : ℕ) → cover (going_back (ts ++ (as' ++ option_to_list m))) p ≤ cover (held s) p)
    → AllByRecursion (λ (t : Span). IsWhole t ⊎ ((p : ℕ) → 1 ≤ between t.at (end_of t) p → cover s.layout.deleted p ≡ 0)) (going_back (ts ++ (as' ++ option_to_list m)))
    → IsAsked s (asked_layout s d ts as' m)
is_next s d ts as' m is good once there backs back_whole =
    let l : Layout = s.layout in
    let live = live_parts (λ (p : Place). 0 < p.span.len) l is.some.1 in
    let st = stays_parts (option_to_list l.directory) (option_to_list l.attdir) (spans_of (directories l)) (stays_in (directories l) live.1) in
    let kd = keeping_directory l.directory (keeps_directory s d ts) (directory_need d.subblocks) (spans_of (directories l)) (segment_need_good _) st.0 in
    let kx = keeping_directory l.attdir (keeps_attdir s d as') (attdir_need d.attachments) (spans_of (directories l)) (segment_need_good _) st.1 in
    let D : List Asked = option_to_list (directory_asked l.directory (keeps_directory s d ts) (directory_need d.subblocks)) in
    let X : List Asked = option_to_list (directory_asked l.attdir (keeps_attdir s d as') (attdir_need d.attachments)) in
    let k = keeping_both D X (option_to_list l.directory) (option_to_list l.attdir) (spans_of (directories l)) kd kx in
    record {
      good = good;
      good_directories = k.good;
      items_once = once;
      items_there = there;
      directories_once = λ p. omega (arith, k.fewer p, few_items s p is);
      directories_there = k.there;
      back_held = backs;
      back_whole = back_whole;
      no_directory_back = going_back-append D X ∙ (λ i. no_directory_back l.directory (keeps_directory s d ts) (directory_need d.subblocks) i ++ no_directory_back l.attdir (keeps_attdir s d as') (attdir_need d.attachments) i);
    }

-- an edit
pub edit_goes_back : (s : State) (e : DocumentEffect) → going_back (items_asked (edit_asks s e)) ≡ []
edit_goes_back s e =
    let l : Layout = s.layout in
    let T : List Asked = changed (mapped (λ x. fresh (subblock_need x)) e.subblocks) (map stays l.subblocks) in
    let A : List Asked = changed (mapped (λ x. fresh (attachment_need x)) e.attachments) (map stays l.attachments) in
    let M : List Asked = option_to_list (set (mapped_setting (λ x. fresh (metadata_need x)) e.metadata) (option_map stays l.metadata)) in
    going_back-append T (A ++ M) ∙ ((λ i. no_back subblock_need e.subblocks l.subblocks i ++ going_back-append A M i)
    ∙ (λ i. no_back attachment_need e.attachments l.attachments i ++ no_set_back metadata_need e.metadata l.metadata i))

pub edit_is_next : (s : State) (e : DocumentEffect) → IsDisjointState s → IsAsked s (edit_asks s e)
edit_is_next s e is =
    let l : Layout = s.layout in
    let items : List Place = item_places (items_of l) in
    let live = live_parts (λ (p : Place). 0 < p.span.len) l is.some.1 in
    let st = stays_parts l.subblocks (l.attachments ++ option_to_list l.metadata) (spans_of items) (stays_in items live.0) in
    let st' = stays_parts l.attachments (option_to_list l.metadata) (spans_of items) st.1 in
    let T : List Asked = changed (mapped (λ x. fresh (subblock_need x)) e.subblocks) (map stays l.subblocks) in
    let A : List Asked = changed (mapped (λ x. fresh (attachment_need x)) e.attachments) (map stays l.attachments) in
    let m : Option Asked = set (mapped_setting (λ x. fresh (metadata_need x)) e.metadata) (option_map stays l.metadata) in
    let kt = keeping_changed subblock_need e.subblocks l.subblocks (spans_of items) (λ x. segment_need_good _) st.0 in
    let ka = keeping_changed attachment_need e.attachments l.attachments (spans_of items) (λ x. segment_need_good _) st'.0 in
    let km = keeping_set metadata_need e.metadata l.metadata (spans_of items) (λ x. segment_need_good _) st'.1 in
    let k = keeping_both T (A ++ option_to_list m) l.subblocks (l.attachments ++ option_to_list l.metadata) (spans_of items) kt
    (keeping_both A (option_to_list m) l.attachments (option_to_list l.metadata) (spans_of items) ka km) in
    is_next s (after e s.document) T A m is k.good (λ p. omega (arith, k.fewer p, few_items s p is)) k.there
    (λ p. omega (arith, ap (λ z. cover z p) (edit_goes_back s e)))
    (subst (AllByRecursion (λ (t : Span). IsWhole t ⊎ ((p : ℕ) → 1 ≤ between t.at (end_of t) p → cover s.layout.deleted p ≡ 0))) (sym (edit_goes_back s e)) tt)

-- an undo
there_of : State → Place → Asked
there_of s p = stays_or_back (item_spans (items_of s.layout)) p

on_places : (present : List Span) (ps : List Place) → AllByRecursion (λ (p : Place). 0 < p.span.len) ps
    → AllByRecursion IsGood (map (stays_or_back present) ps) × AllByRecursion (λ t. list_any (same_span t) present ≡ true) (staying (map (stays_or_back present) ps))
    × ((p : ℕ) → cover (staying (map (stays_or_back present) ps)) p ≤ cover (spans_of ps) p) × (going_back (map (stays_or_back present) ps) ≡ spans_of (not_among present ps))
on_places present [] good = (tt, tt, λ p. omega arith, refl)
on_places present (q ∷ ps) good =
    let rest = on_places present ps good.1 in
    elim (cases_Bool (list_any (same_span q.span) present)) [
      | inl e ↦ rw e ((good.0, rest.0), (e, rest.1), λ p. omega (arith, rest.2 p), rest.3)
      | inr e ↦ rw e ((good.0, rest.0), rest.1, λ p. omega (arith, rest.2 p), ap (λ l. q.span ∷ l) rest.3)
    ]

-- the items of a former document, asked for
asked_items : (present : List Span) (i : Items) → map (stays_or_back present) i.subblocks ++ (map (stays_or_back present) i.attachments ++ option_to_list (option_map (stays_or_back present) i.metadata))
    ≡ map (stays_or_back present) (item_places i)
asked_items present i = sym (simp (map-append, option_list))

pub held_first : (s : State) (f : Former) (formers : List Former) (p : ℕ) → s.formers ≡ f ∷ formers
    → cover (held s) p ≡ cover (spans_of (not_among (item_spans (items_of s.layout)) (item_places f.items))) p + cover (spans_of (held_by f.items formers)) p
held_first s f formers p is =
    ap (λ l. cover (spans_of (held_by (items_of s.layout) l)) p) is
    ∙ (ap (λ l. cover l p) (spans-append (not_among (item_spans (items_of s.layout)) (item_places f.items)) (held_by f.items formers))
    ∙ cover-append (spans_of (not_among (item_spans (items_of s.layout)) (item_places f.items))) (spans_of (held_by f.items formers)) p)

pub undo_goes_back : (s : State) (f : Former) → AreDistinct (item_places f.items) → going_back (items_asked (undo_asks s f)) ≡ spans_of (not_among (item_spans (items_of s.layout)) (item_places f.items))
undo_goes_back s f are =
    let present : List Span = item_spans (items_of s.layout) in
    ap going_back (asked_items present f.items) ∙ (on_places present (item_places f.items) are.some).3

pub undo_is_next : (s : State) (f : Former) (formers : List Former) → IsDisjointState s → s.formers ≡ f ∷ formers → IsAsked s (undo_asks s f)
undo_is_next s f formers is newest =
    let present : List Span = item_spans (items_of s.layout) in
    let are : AreDistinct (item_places f.items) = (subst (AllByRecursion (λ (g : Former). AreDistinct (item_places g.items))) newest is.formers).0 in
    let ps : List Place = item_places f.items in
    let first : List Place = not_among present ps in
    let facts = on_places present ps are.some in
    let whole = asked_items present f.items in
    let split : held s ≡ spans_of first ++ spans_of (held_by f.items formers) = ap (λ z. spans_of (held_by (items_of s.layout) z)) newest ∙ spans-append first (held_by f.items formers) in
    let P : Span → Type 0 = λ t. IsWhole t ⊎ ((p : ℕ) → 1 ≤ between t.at (end_of t) p → cover s.layout.deleted p ≡ 0) in
    is_next s f.document (map (stays_or_back present) f.items.subblocks) (map (stays_or_back present) f.items.attachments) (option_map (stays_or_back present) f.items.metadata) is
    (subst (AllByRecursion IsGood) (sym whole) facts.0)
    (λ p. omega (arith, facts.2 p, are.once p, ap (λ l. cover (staying l) p) whole))
    (subst (λ l. AllByRecursion (λ t. list_any (same_span t) present ≡ true) (staying l)) (sym whole) facts.1)
    (λ p. omega (arith, ap (λ z. cover z p) (undo_goes_back s f are), held_first s f formers p newest))
    (subst (AllByRecursion P) (sym (undo_goes_back s f are)) (All-append P (spans_of first) (spans_of (held_by f.items formers)) (subst (AllByRecursion P) split (held_whole_or_apart s is))).0)

-- Where a layout fills the image, what is asked for lies well.
AllWell : List Place → Type 0
AllWell ps = AllByRecursion (λ (p : Place). IsWhole p.span × (p.walked ≡ true)) ps

both_well : (xs : List Place) → AllByRecursion (λ (p : Place). p.walked ≡ true) xs → AllByRecursion (λ (p : Place). IsWhole p.span) xs → AllWell xs
unfolding AllWell
both_well [] a b = tt
both_well (x ∷ xs) a b = ((b.0, a.0), both_well xs a.1 b.1)

well_live : (l : Layout) → IsGapless l → AllWell (live_places l)
well_live l is = both_well (live_places l) is.walked.1 (All-map (λ (p : Place). p.span) IsWhole (live_places l) is.live_whole.1)

well_changed : {X : Type 0} (need : X → ℕ) (c : List (Act X)) (places : List Place) → AllWell places → AllByRecursion IsWell (changed (mapped (λ x. fresh (need x)) c) (map stays places))
unfolding AllWell
well_changed need [] [] well = tt
well_changed need [] (q ∷ qs) well = (well.0, well_changed need [] qs well.1)
well_changed need (bring x ∷ c) qs well = (tt, well_changed need c qs well)
well_changed need (keep ∷ c) [] well = well_changed need c [] well
well_changed need (keep ∷ c) (q ∷ qs) well = (well.0, well_changed need c qs well.1)
well_changed need (omit ∷ c) [] well = well_changed need c [] well
well_changed need (omit ∷ c) (q ∷ qs) well = well_changed need c qs well.1

well_set : {X : Type 0} (need : X → ℕ) (c : Setting X) (old : Option Place) → AllWell (option_to_list old) → AllByRecursion IsWell (option_to_list (set (mapped_setting (λ x. fresh (need x)) c) (option_map stays old)))
unfolding AllWell
well_set need same (Some q) well = (well.0, tt)
well_set need (to (Some x)) old well = (tt, tt)
well_set need c old well = tt

well_directory : (old : Option Place) (kept : Bool) (need : ℕ) → AllWell (option_to_list old) → AllByRecursion IsWell (option_to_list (directory_asked old kept need))
unfolding AllWell
well_directory None true need well = tt
well_directory (Some q) true need well = (well.0, tt)
well_directory old false need well = (tt, tt)

well_there : (present : List Span) (ps : List Place) → AllWell ps → AllByRecursion IsWell (map (stays_or_back present) ps)
unfolding AllWell
well_there present [] well = tt
well_there present (q ∷ ps) well = elim (cases_Bool (list_any (same_span q.span) present)) [
  | inl e ↦ rw e (well.0, well_there present ps well.1)
  | inr e ↦ rw e (well.0, well_there present ps well.1)
]

well_parts : (l : Layout) → IsGapless l → AllWell (item_places (items_of l)) × AllWell (directories l)
unfolding AllWell
well_parts l is = live_parts (λ (p : Place). IsWhole p.span × (p.walked ≡ true)) l (well_live l is)

pub directories_well : (s : State) (d : Document) (ts as' : List Asked) (m : Option Asked) → IsGapless s.layout → AllByRecursion IsWell (directories_asked (asked_layout s d ts as' m))
unfolding AllWell
directories_well s d ts as' m is =
    let l : Layout = s.layout in
    let both = All-append (λ (p : Place). IsWhole p.span × (p.walked ≡ true)) (option_to_list l.directory) (option_to_list l.attdir) (well_parts l is).1 in
    All-both IsWell (option_to_list (directory_asked l.directory (keeps_directory s d ts) (directory_need d.subblocks))) (option_to_list (directory_asked l.attdir (keeps_attdir s d as') (attdir_need d.attachments)))
    (well_directory l.directory (keeps_directory s d ts) (directory_need d.subblocks) both.0) (well_directory l.attdir (keeps_attdir s d as') (attdir_need d.attachments) both.1)

pub edit_well : (s : State) (e : DocumentEffect) → IsGapless s.layout → AllByRecursion IsWell (items_asked (edit_asks s e))
unfolding AllWell
edit_well s e is =
    let l : Layout = s.layout in
    let P : Place → Type 0 = λ p. IsWhole p.span × (p.walked ≡ true) in
    let one = All-append P l.subblocks (l.attachments ++ option_to_list l.metadata) (well_parts l is).0 in
    let two = All-append P l.attachments (option_to_list l.metadata) one.1 in
    let T : List Asked = changed (mapped (λ x. fresh (subblock_need x)) e.subblocks) (map stays l.subblocks) in
    let A : List Asked = changed (mapped (λ x. fresh (attachment_need x)) e.attachments) (map stays l.attachments) in
    let M : List Asked = option_to_list (set (mapped_setting (λ x. fresh (metadata_need x)) e.metadata) (option_map stays l.metadata)) in
    All-both IsWell T (A ++ M) (well_changed subblock_need e.subblocks l.subblocks one.0)
    (All-both IsWell A M (well_changed attachment_need e.attachments l.attachments two.0) (well_set metadata_need e.metadata l.metadata two.1))

pub undo_well : (s : State) (f : Former) → AreItems f.items → AllByRecursion IsWell (items_asked (undo_asks s f))
undo_well s f are =
    let present : List Span = item_spans (items_of s.layout) in
    subst (AllByRecursion IsWell) (sym (asked_items present f.items))
    (well_there present (item_places f.items) (both_well (item_places f.items) are.walked (All-map (λ (p : Place). p.span) IsWhole (item_places f.items) are.whole)))

pub edit_directories_well : (s : State) (e : DocumentEffect) → IsGapless s.layout → AllByRecursion IsWell (directories_asked (edit_asks s e))
edit_directories_well s e is =
    let l : Layout = s.layout in
    directories_well s (after e s.document) (changed (mapped (λ x. fresh (subblock_need x)) e.subblocks) (map stays l.subblocks)) (changed (mapped (λ x. fresh (attachment_need x)) e.attachments) (map stays l.attachments))
    (set (mapped_setting (λ x. fresh (metadata_need x)) e.metadata) (option_map stays l.metadata)) is

pub undo_directories_well : (s : State) (f : Former) → IsGapless s.layout → AllByRecursion IsWell (directories_asked (undo_asks s f))
undo_directories_well s f is =
    let present : List Span = item_spans (items_of s.layout) in
    directories_well s f.document (map (stays_or_back present) f.items.subblocks) (map (stays_or_back present) f.items.attachments) (option_map (stays_or_back present) f.items.metadata) is
