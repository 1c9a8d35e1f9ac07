-- What a group brings is placed in the order of its edits, each once.
use Rattle.std.proofs.Common.{◌≡◌, ℕ, suc, ◌+◌, ◌≤◌, ◌<◌, List, [], ◌∷◌, ◌++◌, map, length, Bool, true, false, ◌==◌, Some, None, Ok, option_to_list, refl, ap, sym, ◌∙◌, arith, subst, inl, inr}
use Rattle.std.specs.List.{AllByRecursion, list_any}
use Rattle.std.proofs.lemmas.Bool.{cases_Bool, eq-eqb, eqb-true}
use Rattle.std.proofs.lemmas.List.{map-append, length-map}
use Rattle.czi_format.specs.Document.{Document, Subblock, Attachment, Metadata}
use Rattle.czi_format.specs.FirstFault.{with_fault}
use Rattle.czi_format.specs.Space.{same_span}
use Rattle.czi_format.specs.Span.{Span, inserted, sorted}
use Rattle.czi_format.proofs.Rules.{on_ok}
use Rattle.czi_machine.specs.Change.{Act, keep, omit, bring, brought, mapped, mapped_setting, and_then, Setting, same, to, set_new, set_and_then}
use Rattle.czi_machine.specs.Cover.{cover}
use Rattle.czi_machine.specs.Edit.{Edit, after, effect}
use Rattle.czi_machine.specs.GroupOrder.{By, by, GroupEffect, done_by, effect_of_group, group_both, no_group, group_from, Need, needs_by, all_needs, need_le, in_order, span_of_edit, spans_by, group_placed, after_group}
use Rattle.czi_machine.specs.Grouped.{fit_all, IsNeed, IsPlaced, Groups}
use Rattle.czi_machine.specs.Machine.{as_refusal}
use Rattle.czi_machine.specs.Places.{Placed, fit_option, edit_asks, space_of, subblock_need, attachment_need, metadata_need}
use Rattle.czi_machine.specs.State.{State}
use Rattle.czi_machine.proofs.Leaving.{among_themselves}
use Rattle.czi_machine.proofs.Led.{no_fault}
use Rattle.czi_machine.proofs.Nexts.{segment_need_good}
use Rattle.czi_machine.proofs.Ordering.{length-spans}
use Rattle.czi_machine.proofs.Tiled.{All-both, map-All, All-map, All-sorted, cover-map-sorted, sorted-All}
use Rattle.czi_machine.proofs.Composed.{BringsOne, effect_within}
use Rattle.czi_machine.proofs.Restated.{ok_is}
use Rattle.czi_machine.proofs.Ranges.{not_same'}

-- how many needs an edit has
one_if : Bool → ℕ
one_if true = 1
one_if false = 0

cnt : ℕ → List Need → ℕ
cnt k [] = 0
cnt k (n ∷ ns) = one_if (n.edit == k) + cnt k ns

cnt-append : (k : ℕ) (xs ys : List Need) → cnt k (xs ++ ys) ≡ cnt k xs + cnt k ys
unfolding cnt
cnt-append k [] ys = omega arith
cnt-append k (x ∷ xs) ys = omega (arith, cnt-append k xs ys)

cnt-inserted : (k : ℕ) (x : Need) (ys : List Need) → cnt k (inserted need_le x ys) ≡ cnt k (x ∷ ys)
unfolding cnt
cnt-inserted k x [] = refl
cnt-inserted k x (y ∷ ys) = elim (cases_Bool (need_le x y)) [
  | inl e ↦ rw e refl
  | inr e ↦ rw e (omega (arith, cnt-inserted k x ys))
]

cnt-sorted : (k : ℕ) (xs : List Need) → cnt k (sorted need_le xs) ≡ cnt k xs
unfolding cnt
cnt-sorted k [] = refl
cnt-sorted k (x ∷ xs) = omega (arith, cnt-inserted k x (sorted need_le xs), cnt-sorted k xs)

-- where no edit has two needs, each has the span that was found for it
others : (k : ℕ) (ns : List Need) → cnt k ns ≡ 0 → AllByRecursion (λ (n : Need). (k == n.edit) ≡ false) ns
unfolding cnt one_if
others k [] none = tt
others k (n ∷ ns) none = elim (cases_Bool (n.edit == k)) [
  | inl e ↦ absurd (let some = rw e at none in omega (arith, some))
  | inr e ↦ (
    elim (cases_Bool (k == n.edit)) [ inr f ↦ f | inl f ↦ absurd (let same : n.edit ≡ k = sym (eqb-true k n.edit f) in let t : true ≡ false = sym (eq-eqb n.edit k same) ∙ e in cc (t)) ],
    others k ns (let rest = rw e at none in omega (arith, rest)),
  )
]

look_past : (n : Need) (ns : List Need) (s : Span) (spans : List Span) (ms : List Need) → AllByRecursion (λ (m : Need). (n.edit == m.edit) ≡ false) ms
    → map (λ (m : Need). span_of_edit (n ∷ ns) (s ∷ spans) m.edit) ms ≡ map (λ (m : Need). span_of_edit ns spans m.edit) ms
look_past n ns s spans [] all = refl
look_past n ns s spans (m ∷ ms) all = rw (all.0) (ap (λ l. span_of_edit ns spans m.edit ∷ l) (look_past n ns s spans ms all.1))

found_all : (ns : List Need) (spans : List Span) → length spans ≡ length ns → ((k : ℕ) → cnt k ns ≤ 1) → map (λ (n : Need). span_of_edit ns spans n.edit) ns ≡ spans
unfolding cnt one_if
found_all [] [] long once = refl
found_all (n ∷ ns) (s ∷ spans) long once =
    let own : (n.edit == n.edit) ≡ true = eq-eqb n.edit n.edit refl in
    let none : cnt n.edit ns ≡ 0 = let o = rw own at (once n.edit) in omega (arith, o) in
    let rest : map (λ (m : Need). span_of_edit ns spans m.edit) ns ≡ spans = found_all ns spans (omega (arith, long)) (λ k. omega (arith, once k)) in
    rw own (ap (λ l. s ∷ l) (look_past n ns s spans ns (others n.edit ns none) ∙ rest))
found_all ns spans long once = absurd (omega (arith, long))

spans_of_needs : {X : Type 0} (need : X → ℕ) (ns : List Need) (spans : List Span) (xs : List (By X)) → map (λ (n : Need). span_of_edit ns spans n.edit) (needs_by need xs) ≡ spans_by ns spans xs
spans_of_needs need ns spans [] = refl
spans_of_needs need ns spans (x ∷ xs) = ap (λ l. span_of_edit ns spans x.edit ∷ l) (spans_of_needs need ns spans xs)

brought-mapped : {X Y : Type 0} (f : X → Y) (c : List (Act X)) → length (brought (mapped f c)) ≡ length (brought c)
brought-mapped f [] = refl
brought-mapped f (keep ∷ c) = brought-mapped f c
brought-mapped f (omit ∷ c) = brought-mapped f c
brought-mapped f (bring x ∷ c) = ap suc (brought-mapped f c)

setting-mapped : {X Y : Type 0} (f : X → Y) (c : Setting X) → length (option_to_list (set_new (mapped_setting f c))) ≡ length (option_to_list (set_new c))
setting-mapped f same = refl
setting-mapped f (to None) = refl
setting-mapped f (to (Some x)) = refl

-- each need is one
good_by : {X : Type 0} (need : X → ℕ) (xs : List (By X)) → ((x : X) → IsNeed (need x)) → AllByRecursion (λ (n : Need). IsNeed n.need) (needs_by need xs)
good_by need [] good = tt
good_by need (x ∷ xs) good = (good x.item, good_by need xs good)

all_good : (g : GroupEffect) → AllByRecursion (λ (n : Need). IsNeed n.need) (all_needs g)
all_good g =
    All-both _ (needs_by subblock_need (brought g.subblocks)) _ (good_by subblock_need (brought g.subblocks) (λ x. segment_need_good _))
    (All-both _ (needs_by attachment_need (brought g.attachments)) _ (good_by attachment_need (brought g.attachments) (λ x. segment_need_good _))
    (good_by metadata_need (option_to_list (set_new g.metadata)) (λ x. segment_need_good _)))

-- a group of which no edit has two needs is placed
group_is_placed : (s : State) (g : GroupEffect) (pl : Placed) → ((k : ℕ) → cnt k (all_needs g) ≤ 1) → group_placed s g ≡ Ok pl → IsPlaced s (effect_of_group g) (map (λ (n : Need). n.need) (in_order g)) pl
group_is_placed s g pl once e =
    let ns : List Need = in_order g in
    on_ok (fit_all (space_of s) (map (λ (n : Need). n.need) ns)) _ pl e λ f f_is e1.
    on_ok (fit_option s.layout f.space (edit_asks s (effect_of_group g)).directory) _ pl e1 λ d d_is e2.
    on_ok (fit_option s.layout d.space (edit_asks s (effect_of_group g)).attdir) _ pl e2 λ x x_is e3.
    let T : List Span = spans_by ns f.spans (brought g.subblocks) in
    let A : List Span = spans_by ns f.spans (brought g.attachments) in
    let M : List Span = spans_by ns f.spans (option_to_list (set_new g.metadata)) in
    let look : Need → Span = λ (n : Need). span_of_edit ns f.spans n.edit in
    let long : length f.spans ≡ length ns = length-spans (space_of s) (map (λ (n : Need). n.need) ns) f f_is ∙ length-map ns (λ (n : Need). n.need) in
    let once' : (k : ℕ) → cnt k ns ≤ 1 = λ k. omega (arith, once k, cnt-sorted k (all_needs g)) in
    let whole : map look ns ≡ f.spans = found_all ns f.spans long once' in
    let parts : map look (all_needs g) ≡ T ++ (A ++ M) =
    map-append look (needs_by subblock_need (brought g.subblocks)) _ ∙ (λ i. spans_of_needs subblock_need ns f.spans (brought g.subblocks) i
    ++ (map-append look (needs_by attachment_need (brought g.attachments)) _ ∙ (λ j. spans_of_needs attachment_need ns f.spans (brought g.attachments) j ++ spans_of_needs metadata_need ns f.spans (option_to_list (set_new g.metadata)) j)) i) in
    let among_all : AllByRecursion (λ (t : Span). list_any (same_span t) f.spans ≡ true) (map look ns) = subst (AllByRecursion (λ (t : Span). list_any (same_span t) f.spans ≡ true)) (sym whole) (among_themselves f.spans) in
    let each : AllByRecursion (λ (n : Need). list_any (same_span (look n)) f.spans ≡ true) (all_needs g) = sorted-All _ need_le (all_needs g) (All-map look (λ (t : Span). list_any (same_span t) f.spans ≡ true) ns among_all) in
    record {
      good = map-All (λ (n : Need). n.need) IsNeed ns (All-sorted (λ (n : Need). IsNeed n.need) need_le (all_needs g) (all_good g));
      fitted = f;
      fits = f_is;
      tiles = T;
      tiles_long = length-map (brought g.subblocks) _ ∙ sym (brought-mapped (λ (x : By Subblock). x.item) g.subblocks);
      attachments = A;
      attachments_long = length-map (brought g.attachments) _ ∙ sym (brought-mapped (λ (x : By Attachment). x.item) g.attachments);
      metadata = M;
      metadata_long = length-map (option_to_list (set_new g.metadata)) _ ∙ sym (setting-mapped (λ (x : By Metadata). x.item) g.metadata);
      among = subst (AllByRecursion (λ (t : Span). list_any (same_span t) f.spans ≡ true)) parts (map-All look (λ (t : Span). list_any (same_span t) f.spans ≡ true) (all_needs g) each);
      covers = λ p. omega (arith, ap (λ l. cover l p) whole, cover-map-sorted look need_le (all_needs g) p, ap (λ l. cover l p) parts);
      directory = d;
      directory_fits = d_is;
      attdir = x;
      attdir_fits = x_is;
      is = sym (ok_is _ pl e3);
    }

-- No edit of a group has two needs.
cnt-by : {X : Type 0} (need : X → ℕ) (k j : ℕ) (c : List (Act X)) → cnt j (needs_by need (brought (mapped (by k) c))) ≤ length (brought c)
unfolding cnt one_if
cnt-by need k j [] = omega arith
cnt-by need k j (keep ∷ c) = cnt-by need k j c
cnt-by need k j (omit ∷ c) = cnt-by need k j c
cnt-by need k j (bring x ∷ c) = elim (cases_Bool (k == j)) [
  | inl e ↦ rw e (omega (arith, cnt-by need k j c))
  | inr e ↦ rw e (omega (arith, cnt-by need k j c))
]

cnt-by-other : {X : Type 0} (need : X → ℕ) (k j : ℕ) (c : List (Act X)) → (k == j) ≡ false → cnt j (needs_by need (brought (mapped (by k) c))) ≡ 0
unfolding cnt one_if
cnt-by-other need k j [] e = refl
cnt-by-other need k j (keep ∷ c) e = cnt-by-other need k j c e
cnt-by-other need k j (omit ∷ c) e = cnt-by-other need k j c e
cnt-by-other need k j (bring x ∷ c) e = rw e (omega (arith, cnt-by-other need k j c e))

cnt-set : {X : Type 0} (need : X → ℕ) (k j : ℕ) (c : Setting X) → cnt j (needs_by need (option_to_list (set_new (mapped_setting (by k) c)))) ≤ length (option_to_list (set_new c))
unfolding cnt one_if
cnt-set need k j (to (Some x)) = elim (cases_Bool (k == j)) [ inl e ↦ rw e (omega arith) | inr e ↦ rw e (omega arith) ]
cnt-set need k j c = omega arith

cnt-set-other : {X : Type 0} (need : X → ℕ) (k j : ℕ) (c : Setting X) → (k == j) ≡ false → cnt j (needs_by need (option_to_list (set_new (mapped_setting (by k) c)))) ≡ 0
unfolding cnt one_if
cnt-set-other need k j (to (Some x)) e = rw e refl
cnt-set-other need k j c e = refl

cnt-then : {X : Type 0} (need : X → ℕ) (j : ℕ) (c d : List (Act (By X))) → cnt j (needs_by need (brought (and_then c d))) ≤ cnt j (needs_by need (brought c)) + cnt j (needs_by need (brought d))
unfolding cnt
cnt-then need j (omit ∷ c) d = cnt-then need j c d
cnt-then need j (keep ∷ c) (bring y ∷ d) = omega (arith, cnt-then need j (keep ∷ c) d)
cnt-then need j (keep ∷ c) (keep ∷ d) = cnt-then need j c d
cnt-then need j (keep ∷ c) (omit ∷ d) = cnt-then need j c d
cnt-then need j (bring x ∷ c) (bring y ∷ d) = omega (arith, cnt-then need j (bring x ∷ c) d)
cnt-then need j (bring x ∷ c) (keep ∷ d) = omega (arith, cnt-then need j c d)
cnt-then need j (bring x ∷ c) (omit ∷ d) = omega (arith, cnt-then need j c d)
cnt-then need j c d = omega arith

cnt-set-then : {X : Type 0} (need : X → ℕ) (j : ℕ) (c d : Setting (By X)) → cnt j (needs_by need (option_to_list (set_new (set_and_then c d)))) ≤ cnt j (needs_by need (option_to_list (set_new c))) + cnt j (needs_by need (option_to_list (set_new d)))
unfolding cnt
cnt-set-then need j c same = omega arith
cnt-set-then need j c (to x) = omega arith

cnt-all : (j : ℕ) (g : GroupEffect) → cnt j (all_needs g) ≡ cnt j (needs_by subblock_need (brought g.subblocks)) + (cnt j (needs_by attachment_need (brought g.attachments)) + cnt j (needs_by metadata_need (option_to_list (set_new g.metadata))))
cnt-all j g = omega (
  arith,
  cnt-append j (needs_by subblock_need (brought g.subblocks)) (needs_by attachment_need (brought g.attachments) ++ needs_by metadata_need (option_to_list (set_new g.metadata))),
  cnt-append j (needs_by attachment_need (brought g.attachments)) (needs_by metadata_need (option_to_list (set_new g.metadata))),
)

cnt-both : (j : ℕ) (e f : GroupEffect) → cnt j (all_needs (group_both e f)) ≤ cnt j (all_needs e) + cnt j (all_needs f)
cnt-both j e f = omega (arith, cnt-all j e, cnt-all j f, cnt-all j (group_both e f), cnt-then subblock_need j e.subblocks f.subblocks, cnt-then attachment_need j e.attachments f.attachments, cnt-set-then metadata_need j e.metadata f.metadata)

-- the needs of edits from some number on
record NeedsFrom (k : ℕ) (g : GroupEffect) : Type 0 where
  once : (j : ℕ) → cnt j (all_needs g) ≤ 1
  none : (j : ℕ) → j < k → cnt j (all_needs g) ≡ 0

needs_from : (k : ℕ) (d : Document) (cs : List Edit) (g : GroupEffect) → group_from k d cs ≡ Ok g → NeedsFrom k g
unfolding cnt
needs_from k d [] g e = subst (NeedsFrom k) (ok_is no_group g e) (record { once = λ j. omega arith; none = λ j less. refl })
needs_from k d (c ∷ cs) g e =
    on_ok (effect d c) _ g e λ a a_is e1.
    on_ok (group_from (suc k) (after a d) cs) _ g e1 λ b b_is e2.
    let one : BringsOne a = (effect_within d c a a_is).one in
    let rest : NeedsFrom (suc k) b = needs_from (suc k) (after a d) cs b b_is in
    let mine : (j : ℕ) → cnt j (all_needs (done_by k a)) ≤ 1 = λ j. omega (arith, cnt-all j (done_by k a), cnt-by subblock_need k j a.subblocks, cnt-by attachment_need k j a.attachments, cnt-set metadata_need k j a.metadata, one) in
    let other : (j : ℕ) → (k == j) ≡ false → cnt j (all_needs (done_by k a)) ≡ 0 = λ j no. omega (arith, cnt-all j (done_by k a), cnt-by-other subblock_need k j a.subblocks no, cnt-by-other attachment_need k j a.attachments no, cnt-set-other metadata_need k j a.metadata no) in
    subst (NeedsFrom k) (ok_is (group_both (done_by k a) b) g e2) (record {
      once = λ j. elim (cases_Bool (k == j)) [
        | inl own ↦ omega (arith, cnt-both j (done_by k a) b, mine j, rest.none j (let is : k ≡ j = eqb-true k j own in omega (arith, is)))
        | inr apart ↦ omega (arith, cnt-both j (done_by k a) b, other j apart, rest.once j)
      ];
      none = λ j less. omega (arith, cnt-both j (done_by k a) b, other j (not_same' k j less), rest.none j (omega (arith, less)));
    })

pub groups_lead : (s s' : State) (cs : List Edit) → after_group s cs ≡ Ok s' → Groups s s'
groups_lead s s' cs goes =
    on_ok (group_from 0 s.document cs) _ s' goes λ g g_is e1.
    on_ok (with_fault as_refusal (group_placed s g)) _ s' e1 λ pl pl_is done.
    record {
      effect = effect_of_group g;
      needs = map (λ (n : Need). n.need) (in_order g);
      placed = pl;
      places = group_is_placed s g pl (needs_from 0 s.document cs g g_is).once (no_fault as_refusal (group_placed s g) pl pl_is);
      edits = length cs;
      goes = ok_is _ s' done;
    }
