-- What an edit brings, placed in any order.
use Rattle.std.proofs.Common.{◌≡◌, ℕ, ◌<◌, List, [], ◌∷◌, ◌++◌, map, length, true, Option, Some, None, Ok, option_map, option_to_list, refl, ap, sym, ◌∙◌, arith, subst, inl, inr}
use Rattle.std.specs.List.{AllByRecursion, list_any}
use Rattle.std.proofs.lemmas.Bool.{cases_Bool}
use Rattle.czi_format.specs.Layout.{Place, Layout}
use Rattle.czi_format.specs.Space.{Space, fit, same_span}
use Rattle.czi_format.specs.Span.{Span, IsWhole}
use Rattle.czi_format.proofs.Local.{All-append}
use Rattle.czi_format.proofs.Rules.{on_ok}
use Rattle.czi_machine.specs.Change.{Act, keep, omit, bring, changed, brought, mapped, Setting, same, to, set, set_new, mapped_setting}
use Rattle.czi_machine.specs.Cover.{cover}
use Rattle.czi_machine.specs.Edit.{DocumentEffect}
use Rattle.czi_machine.specs.Grouped.{FitAll, fit_all, put_in, set_in, IsNeed, IsPlaced}
use Rattle.czi_machine.specs.Places.{Asked, stays, fresh, AskedLayout, Placed, new_place, staying, items_asked, edit_asks, space_of, subblock_need, attachment_need, metadata_need}
use Rattle.czi_machine.specs.Sound.{IsDisjointState}
use Rattle.czi_machine.specs.State.{State, spans_of}
use Rattle.czi_machine.proofs.Asking.{LieThere, lie_both, lie_nothing, IsGood, LieWell, going_back, or_true, fits_option, fits_both}
use Rattle.czi_machine.proofs.Cover.{cover-append}
use Rattle.czi_machine.proofs.Fitting.{IsSpace, Uses, uses_nothing, uses_both, fit_uses}
use Rattle.czi_machine.proofs.Leaving.{same_self, same_is, among_behind}
use Rattle.czi_machine.proofs.Nexts.{edit_is_next, edit_goes_back}
use Rattle.czi_machine.proofs.Placing.{IsAsked, Placing, is_space, live_parts}
use Rattle.czi_machine.proofs.Tiled.{All-weaken}
use Rattle.czi_machine.proofs.Restated.{ok_is}

-- needs that fit one after another use what they fit in
uses_all : (space : Space) (ns : List ℕ) (r : FitAll) → IsSpace space → AllByRecursion IsNeed ns → fit_all space ns ≡ Ok r → Uses space r.space r.spans
uses_all space [] r is good e = subst (λ (z : FitAll). Uses space z.space z.spans) (ok_is _ r e) (uses_nothing space is)
uses_all space (n ∷ ns) r is good e =
    on_ok (fit space n) _ r e λ f f_is more.
    on_ok (fit_all f.space ns) _ r more λ q q_is done.
    let u : Uses space f.space (f.span ∷ []) = fit_uses space n f is good.0.0 good.0.1 f_is in
    let v : Uses f.space q.space q.spans = uses_all f.space ns q u.space good.1 q_is in
    subst (λ (z : FitAll). Uses space z.space z.spans) (ok_is _ r done) (uses_both space f.space q.space (f.span ∷ []) q.spans u v)

-- places of which some stay and the others are new
more_there : (q : Place) (asked : List Asked) (places : List Place) → AllByRecursion (λ t. list_any (same_span t) (spans_of places) ≡ true) (staying asked)
    → AllByRecursion (λ t. list_any (same_span t) (spans_of (q ∷ places)) ≡ true) (staying asked)
more_there q asked places all = All-weaken (λ t. list_any (same_span t) (spans_of places) ≡ true) _ (λ t h. among_behind t (q.span ∷ []) (spans_of places) h) (staying asked) all

there_stays : (l : Layout) (p : Place) (asked : List Asked) (places : List Place) (used : List Span) → 0 < p.span.len → LieThere l asked places [] used → LieThere l (stays p ∷ asked) (p ∷ places) [] used
there_stays l p asked places used some rest = record {
  covers = λ k. omega (arith, rest.covers k);
  some = (some, rest.some);
  well = λ goes w. let z = rest.well goes w.1 in record { whole = (w.0.0, z.whole); walked = (w.0.1, z.walked); back_whole = tt };
  there = (rw (same_self p.span) refl, more_there p asked places rest.there);
}

there_new : (l : Layout) (need : ℕ) (s : Span) (asked : List Asked) (places : List Place) (used : List Span) → IsWhole s → LieThere l asked places [] used → LieThere l (fresh need ∷ asked) (new_place l s ∷ places) [] (s ∷ used)
there_new l need s asked places used whole rest = record {
  covers = λ k. omega (arith, rest.covers k);
  some = (whole.some, rest.some);
  well = λ goes w. let z = rest.well goes w.1 in record { whole = (whole, z.whole); walked = (or_true l s.at goes, z.walked); back_whole = tt };
  there = more_there (new_place l s) asked places rest.there;
}

put_there : {X : Type 0} (l : Layout) (need : X → ℕ) (c : List (Act X)) (ps : List Place) (spans : List Span) → length spans ≡ length (brought c) → AllByRecursion IsWhole spans → AllByRecursion (λ (q : Place). 0 < q.span.len) ps
    → LieThere l (changed (mapped (λ x. fresh (need x)) c) (map stays ps)) (changed (put_in l c spans) ps) [] spans
put_there l need [] [] [] long whole some = lie_nothing l
put_there l need [] (p ∷ ps) [] long whole some = there_stays l p (map stays ps) ps [] some.0 (put_there l need [] ps [] long whole some.1)
put_there l need (bring x ∷ c) ps (s ∷ spans) long whole some = there_new l (need x) s _ _ spans whole.0 (put_there l need c ps spans (omega (arith, long)) whole.1 some)
put_there l need (keep ∷ c) [] spans long whole some = put_there l need c [] spans long whole some
put_there l need (keep ∷ c) (p ∷ ps) spans long whole some = there_stays l p _ _ spans some.0 (put_there l need c ps spans long whole some.1)
put_there l need (omit ∷ c) [] spans long whole some = put_there l need c [] spans long whole some
put_there l need (omit ∷ c) (p ∷ ps) spans long whole some = put_there l need c ps spans long whole some.1
put_there l need c ps spans long whole some = absurd (omega (arith, long))

set_there : {X : Type 0} (l : Layout) (need : X → ℕ) (c : Setting X) (old : Option Place) (spans : List Span) → length spans ≡ length (option_to_list (set_new c)) → AllByRecursion IsWhole spans → AllByRecursion (λ (q : Place). 0 < q.span.len) (option_to_list old)
    → LieThere l (option_to_list (set (mapped_setting (λ x. fresh (need x)) c) (option_map stays old))) (option_to_list (set (set_in l c spans) old)) [] spans
set_there l need same None [] long whole some = lie_nothing l
set_there l need same (Some p) [] long whole some = there_stays l p [] [] [] some.0 (lie_nothing l)
set_there l need (to None) old [] long whole some = lie_nothing l
set_there l need (to (Some x)) old (s ∷ []) long whole some = there_new l (need x) s [] [] [] whole.0 (lie_nothing l)
set_there l need c old spans long whole some = absurd (omega (arith, long))

-- what is among whole spans is whole
among_whole : (t : Span) (xs : List Span) → AllByRecursion IsWhole xs → list_any (same_span t) xs ≡ true → IsWhole t
among_whole t [] all e = absurd (cc (e))
among_whole t (x ∷ xs) all e = elim (cases_Bool (same_span t x)) [
  | inl f ↦ subst IsWhole (sym (same_is t x f)) all.0
  | inr f ↦ among_whole t xs all.1 (rw f at e)
]

all_among_whole : (ts xs : List Span) → AllByRecursion IsWhole xs → AllByRecursion (λ (t : Span). list_any (same_span t) xs ≡ true) ts → AllByRecursion IsWhole ts
all_among_whole [] xs all each = tt
all_among_whole (t ∷ ts) xs all each = (among_whole t xs all each.0, all_among_whole ts xs all each.1)

pub placed_placing : (s : State) (e : DocumentEffect) (needs : List ℕ) (pl : Placed) → IsDisjointState s → IsPlaced s e needs pl → Placing s (edit_asks s e) pl
placed_placing s e needs pl is p =
    let l : Layout = s.layout in
    let n : AskedLayout = edit_asks s e in
    let nx : IsAsked s n = edit_is_next s e is in
    let u : Uses (space_of s) p.fitted.space p.fitted.spans = uses_all (space_of s) needs p.fitted (is_space s is) p.good p.fits in
    let whole = all_among_whole (p.tiles ++ (p.attachments ++ p.metadata)) p.fitted.spans u.whole p.among in
    let w1 = All-append IsWhole p.tiles (p.attachments ++ p.metadata) whole in
    let w2 = All-append IsWhole p.attachments p.metadata w1.1 in
    let S : Place → Type 0 = λ (q : Place). 0 < q.span.len in
    let live = live_parts S l is.some.1 in
    let one = All-append S l.subblocks (l.attachments ++ option_to_list l.metadata) live.0 in
    let two = All-append S l.attachments (option_to_list l.metadata) one.1 in
    let it = put_there l subblock_need e.subblocks l.subblocks p.tiles p.tiles_long w1.0 one.0 in
    let ia = put_there l attachment_need e.attachments l.attachments p.attachments p.attachments_long w2.0 two.0 in
    let im = set_there l metadata_need e.metadata l.metadata p.metadata p.metadata_long w2.1 two.1 in
    let items = lie_both l n.subblocks (n.attachments ++ option_to_list n.metadata) _ _ [] [] p.tiles (p.attachments ++ p.metadata) it (lie_both l n.attachments (option_to_list n.metadata) _ _ [] [] p.attachments p.metadata ia im) in
    let g3 = All-append IsGood (option_to_list n.directory) (option_to_list n.attdir) nx.good_directories in
    let fd = fits_option l p.fitted.space n.directory p.directory u.space g3.0 p.directory_fits in
    let fx = fits_option l p.directory.space n.attdir p.attdir fd.uses.space g3.1 p.attdir_fits in
    let fdx = fits_both l p.fitted.space p.directory.space p.attdir.space (option_to_list n.directory) (option_to_list n.attdir) (option_to_list p.directory.places) (option_to_list p.attdir.places) p.directory.back p.attdir.back p.directory.used p.attdir.used fd fx in
    let none_back : p.directory.back ++ p.attdir.back ≡ [] = fdx.backs ∙ nx.no_directory_back in
    let no_back : going_back (items_asked n) ≡ [] = edit_goes_back s e in
    let R : List Span = p.directory.used ++ p.attdir.used in
    subst (Placing s n) (sym p.is) (record {
      used = p.fitted.spans ++ R;
      item_used = p.tiles ++ (p.attachments ++ p.metadata);
      directory_used = R;
      after = p.attdir.space;
      uses = uses_both (space_of s) p.fitted.space p.attdir.space p.fitted.spans R u fdx.uses;
      all_used = ap (λ z. z ++ (p.fitted.spans ++ R)) (sym no_back);
      used_parts = λ q. omega (arith, cover-append p.fitted.spans R q, p.covers q);
      length = refl;
      items = λ q. omega (arith, items.covers q, ap (λ z. cover z q) no_back);
      directories = λ q. omega (arith, fdx.lie.covers q, ap (λ z. cover z q) none_back);
      items_some = items.some;
      directories_some = fdx.lie.some;
      items_well = λ goes w. subst (LieWell _) (sym no_back) (items.well goes w);
      directories_well = λ goes w. subst (λ z. LieWell (option_to_list p.directory.places ++ option_to_list p.attdir.places) z) none_back (fdx.lie.well goes w);
      items_there = items.there;
      directories_stay = fdx.lie.there;
    })
