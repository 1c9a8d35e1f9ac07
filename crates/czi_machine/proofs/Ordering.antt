-- What an edit brings lies where its needs fit in order.
use Rattle.std.specs.Prelude.{⊤}
use Rattle.std.proofs.Common.{◌≡◌, ℕ, suc, List, [], ◌∷◌, ◌++◌, map, length, Bool, true, false, Option, Some, None, Result, Ok, Err, option_map, option_to_list, refl, ap, sym, ◌∙◌, arith, subst, inl, inr, ◌⊎◌}
use Rattle.czi_format.specs.FirstFault.{◌>>=◌, with_fault}
use Rattle.czi_format.specs.Layout.{Place, Layout}
use Rattle.czi_format.specs.Live.{Directory, Tile, AttItem, MetaItem}
use Rattle.czi_format.specs.Segment.{Segment, extent}
use Rattle.czi_format.specs.Space.{Space, Full, Fit, fit}
use Rattle.czi_format.specs.Span.{Span}
use Rattle.czi_format.proofs.Rules.{on_ok}
use Rattle.czi_machine.specs.Change.{Act, keep, omit, bring, changed, brought, Setting, same, to, set, set_new, mapped_setting}
use Rattle.czi_machine.specs.Edit.{DocumentEffect, after}
use Rattle.czi_machine.specs.Fits.{IsAt, SetsAt, FitsEffect}
use Rattle.czi_machine.specs.Grouped.{FitAll, fit_all, put_in, set_in}
use Rattle.czi_machine.specs.InOrder.{directory_needs, tiles_stay, attachments_stay, needs_of, StaysOrNew, directory_spans, LiesInOrder}
use Rattle.czi_machine.specs.Machine.{after_effect, as_refusal, edited}
use Rattle.czi_machine.specs.Places.{stays, fresh, Asked, AskedLayout, Fitted, fit_each, fit_option, placed, relaid, edit_asks, directory_asked, new_place, space_of, subblock_need, attachment_need, metadata_need, directory_need, attdir_need}
use Rattle.czi_machine.specs.Planned.{Brings, Sets}
use Rattle.czi_machine.specs.State.{State}
use Rattle.czi_machine.specs.Table.{fit_brought}
use Rattle.czi_machine.specs.LiveChange.{LiveChange}
use Rattle.czi_machine.proofs.TableSubblocks.{placed_change, each_brought, option_stays}
use Rattle.czi_machine.proofs.Restated.{ok_is}
use Rattle.std.proofs.lemmas.List.{length-map}

-- needs in two parts
record Parts (space : Space) (xs ys : List ℕ) (r : FitAll) : Type 0 where
  first : FitAll
  first_fit : fit_all space xs ≡ Ok first
  rest : FitAll
  rest_fit : fit_all first.space ys ≡ Ok rest
  spans : r.spans ≡ first.spans ++ rest.spans
  space_is : r.space ≡ rest.space

parts : (space : Space) (xs ys : List ℕ) (r : FitAll) → fit_all space (xs ++ ys) ≡ Ok r → Parts space xs ys r
parts space [] ys r e = record { first = record { spans = []; space = space }; first_fit = refl; rest = r; rest_fit = e; spans = refl; space_is = refl }
parts space (x ∷ xs) ys r e =
    on_ok (fit space x) _ r e λ f f_is more.
    on_ok (fit_all f.space (xs ++ ys)) _ r more λ q q_is done.
    let p = parts f.space xs ys q q_is in
    let its = ok_is _ r done in
    record {
      first = record { spans = f.span ∷ p.first.spans; space = p.first.space };
      first_fit = rw (f_is, p.first_fit) refl;
      rest = p.rest;
      rest_fit = p.rest_fit;
      spans = ap (λ (z : FitAll). z.spans) (sym its) ∙ ap (λ l. f.span ∷ l) p.spans;
      space_is = ap (λ (z : FitAll). z.space) (sym its) ∙ p.space_is;
    }

pub length-spans : (space : Space) (ns : List ℕ) (r : FitAll) → fit_all space ns ≡ Ok r → length r.spans ≡ length ns
length-spans space [] r e = ap (λ (z : FitAll). length z.spans) (sym (ok_is _ r e))
length-spans space (n ∷ ns) r e =
    on_ok (fit space n) _ r e λ f f_is more.
    on_ok (fit_all f.space ns) _ r more λ q q_is done.
    ap (λ (z : FitAll). length z.spans) (sym (ok_is _ r done)) ∙ ap suc (length-spans f.space ns q q_is)

split : {X : Type 0} (xs as' ys bs : List X) → xs ++ ys ≡ as' ++ bs → length xs ≡ length as' → (xs ≡ as') × (ys ≡ bs)
split [] [] ys bs e n = (refl, e)
split (x ∷ xs) (a ∷ as') ys bs e n =
    let first : x ≡ a = cc (e) in
    let more : xs ++ ys ≡ as' ++ bs = cc (e) in
    let rest = split xs as' ys bs more (omega (arith, n)) in
    (λ i. first i ∷ rest.0 i, rest.1)
split xs as' ys bs e n = absurd (omega (arith, n))

same_brought : {X Y : Type 0} (c : List (Act X)) (d : List (Act Y)) → Brings (λ x y. ⊤) c d → length (brought c) ≡ length (brought d)
same_brought [] [] b = refl
same_brought (keep ∷ c) (keep ∷ d) b = same_brought c d b
same_brought (omit ∷ c) (omit ∷ d) b = same_brought c d b
same_brought (bring x ∷ c) (bring y ∷ d) b = ap suc (same_brought c d b.1)
same_brought c d b = absurd b

brought_fit : {X : Type 0} (l : Layout) (space : Space) (need : X → ℕ) (c : List (Act X)) (r : FitAll) → fit_all space (map need (brought c)) ≡ Ok r
    → fit_brought l space need c ≡ Ok (record { places = put_in l c r.spans; back = []; used = r.spans; space = r.space })
brought_fit l space need [] r e = let its = ok_is _ r e in λ i. Ok (record { places = []; back = []; used = (its i).spans; space = (its i).space })
brought_fit l space need (keep ∷ c) r e = rw (brought_fit l space need c r e) refl
brought_fit l space need (omit ∷ c) r e = rw (brought_fit l space need c r e) refl
brought_fit l space need (bring x ∷ c) r e =
    on_ok (fit space (need x)) _ r e λ f f_is more.
    on_ok (fit_all f.space (map need (brought c))) _ r more λ q q_is done.
    subst (λ (z : FitAll). fit_brought l space need (bring x ∷ c) ≡ Ok (record { places = put_in l (bring x ∷ c) z.spans; back = []; used = z.spans; space = z.space })) (ok_is _ r done)
    (rw (f_is, brought_fit l f.space need c q q_is) refl)

pub put_at : {X Y : Type 0} (segment : X → Segment) (l : Layout) (c : List (Act X)) (d : List (Act Y)) (spans : List Span) → Brings (λ x y. ⊤) c d → spans ≡ map (λ x. extent (segment x)) (brought c) → Brings (IsAt segment) c (put_in l d spans)
put_at segment l [] [] spans b e = tt
put_at segment l (keep ∷ c) (keep ∷ d) spans b e = put_at segment l c d spans b e
put_at segment l (omit ∷ c) (omit ∷ d) spans b e = put_at segment l c d spans b e
put_at segment l (bring x ∷ c) (bring y ∷ d) [] b e = cc (e)
put_at segment l (bring x ∷ c) (bring y ∷ d) (s ∷ spans) b e =
    let first : s ≡ extent (segment x) = cc (e) in
    let rest : spans ≡ map (λ x. extent (segment x)) (brought c) = cc (e) in
    (first, put_at segment l c d spans b.1 rest)
put_at segment l c d spans b e = absurd b

-- where one thing was placed, or not
record Goes (l : Layout) (space : Space) (asked : Option Asked) (after : Space) (at : Option Place) : Type 0 where
  fitted : Fitted (Option Place)
  fits : fit_option l space asked ≡ Ok fitted
  is : fitted.places ≡ at
  left : fitted.space ≡ after

one_goes : (l : Layout) (space : Space) (need : ℕ) (r : FitAll) (at : List Span → Option Place) → ((s : Span) → at (s ∷ []) ≡ Some (new_place l s)) → fit_all space (need ∷ []) ≡ Ok r → Goes l space (Some (fresh need)) r.space (at r.spans)
one_goes l space need r at own e =
    on_ok (fit space need) _ r e λ g g_is done.
    let its = ok_is _ r done in
    record {
      fitted = record { places = Some (new_place l g.span); back = []; used = g.span ∷ []; space = g.space };
      fits = rw g_is refl;
      is = sym (own g.span) ∙ ap (λ (z : FitAll). at z.spans) its;
      left = ap (λ (z : FitAll). z.space) its;
    }

stays_there : (l : Layout) (space : Space) (old : Option Place) (r : FitAll) → fit_all space [] ≡ Ok r → Goes l space (option_map stays old) r.space old
stays_there l space old r e = record { fitted = record { places = old; back = []; used = []; space = space }; fits = option_stays l space old; is = refl; left = ap (λ (z : FitAll). z.space) (ok_is _ r e) }

metadata_goes : {M : Type 0} (l : Layout) (space : Space) (need : M → ℕ) (d : Setting M) (old : Option Place) (r : FitAll) → fit_all space (map need (option_to_list (set_new d))) ≡ Ok r
    → Goes l space (set (mapped_setting (λ x. fresh (need x)) d) (option_map stays old)) r.space (set (set_in l d r.spans) old)
metadata_goes l space need same old r e = stays_there l space old r e
metadata_goes l space need (to None) old r e = stays_there l space None r e
metadata_goes l space need (to (Some y)) old r e = one_goes l space (need y) r (λ spans. set (set_in l (to (Some y)) spans) old) (λ s. refl) e

directory_in : Layout → Bool → Option Place → List Span → Option Place
directory_in l true old spans = old
directory_in l false old [] = None
directory_in l false old (s ∷ spans) = Some (new_place l s)

directory_goes : (l : Layout) (space : Space) (stay : Bool) (need : ℕ) (old : Option Place) (r : FitAll) → fit_all space (directory_needs stay need) ≡ Ok r → Goes l space (directory_asked old stay need) r.space (directory_in l stay old r.spans)
unfolding directory_in
directory_goes l space true need old r e = stays_there l space old r e
directory_goes l space false need old r e = one_goes l space need r (directory_in l false old) (λ s. refl) e

directory_at : (l : Layout) (stay : Bool) (c : Setting Directory) (old : Option Place) (spans : List Span) → StaysOrNew stay old c → spans ≡ directory_spans stay c → SetsAt (λ (d : Directory). d.segment) c old (directory_in l stay old spans)
unfolding directory_in
directory_at l true same old spans b e = refl
directory_at l true (to (Some d)) old spans b e = b
directory_at l false (to (Some d)) old (s ∷ spans) b e = let first : s ≡ extent d.segment = cc (e) in ap Some first
directory_at l false (to (Some d)) old [] b e = cc (e)
directory_at l stay c old spans b e = absurd b

pub set_at : {M : Type 0} (l : Layout) (c : Setting MetaItem) (d : Setting M) (old : Option Place) (spans : List Span) → Sets (λ x y. ⊤) c d → spans ≡ map (λ (m : MetaItem). extent m.segment) (option_to_list (set_new c))
    → SetsAt (λ (m : MetaItem). m.segment) c old (set (set_in l d spans) old)
set_at l same same old spans b e = refl
set_at l (to None) (to None) old spans b e = refl
set_at l (to (Some x)) (to (Some y)) old [] b e = cc (e)
set_at l (to (Some x)) (to (Some y)) old (s ∷ spans) b e = let first : s ≡ extent x.segment = cc (e) in ap Some first
set_at l c d old spans b e = absurd b

length-option : {X Y : Type 0} (c : Setting X) (d : Setting Y) → Sets (λ x y. ⊤) c d → length (option_to_list (set_new c)) ≡ length (option_to_list (set_new d))
length-option same same b = refl
length-option (to None) (to None) b = refl
length-option (to (Some x)) (to (Some y)) b = refl
length-option c d b = absurd b

length-directory : (stay : Bool) (old : Option Place) (need : ℕ) (c : Setting Directory) → StaysOrNew stay old c → length (directory_needs stay need) ≡ length (directory_spans stay c)
length-directory false old need same b = absurd b
length-directory false old need (to None) b = absurd b
length-directory stay old need c b = refl

pub fits_in_order : (s : State) (e : DocumentEffect) (t : LiveChange) (r : FitAll) → fit_all (space_of s) (needs_of s e) ≡ Ok r → LiesInOrder s e t r.spans → FitsEffect s e t
fits_in_order s e t r all lies =
    let l : Layout = s.layout in
    let T : List Span = map (λ (x : Tile). extent x.segment) (brought t.tiles) in
    let A : List Span = map (λ (x : AttItem). extent x.segment) (brought t.attachments) in
    let M : List Span = map (λ (m : MetaItem). extent m.segment) (option_to_list (set_new t.metadata)) in
    let D : List Span = directory_spans (tiles_stay s e) t.directory in
    let X : List Span = directory_spans (attachments_stay s e) t.attdir in
    let nt : List ℕ = map subblock_need (brought e.subblocks) in
    let na : List ℕ = map attachment_need (brought e.attachments) in
    let nm : List ℕ = map metadata_need (option_to_list (set_new e.metadata)) in
    let nd : List ℕ = directory_needs (tiles_stay s e) (directory_need (after e s.document).subblocks) in
    let nx : List ℕ = directory_needs (attachments_stay s e) (attdir_need (after e s.document).attachments) in
    let p1 = parts (space_of s) nt (na ++ (nm ++ (nd ++ nx))) r all in
    let p2 = parts p1.first.space na (nm ++ (nd ++ nx)) p1.rest p1.rest_fit in
    let p3 = parts p2.first.space nm (nd ++ nx) p2.rest p2.rest_fit in
    let p4 = parts p3.first.space nd nx p3.rest p3.rest_fit in
    let s1 = split p1.first.spans T p1.rest.spans (A ++ (M ++ (D ++ X))) (sym p1.spans ∙ lies.spans_are)
    (length-spans (space_of s) nt p1.first p1.first_fit ∙ (length-map (brought e.subblocks) subblock_need ∙ (sym (same_brought t.tiles e.subblocks lies.tiles) ∙ sym (length-map (brought t.tiles) (λ (x : Tile). extent x.segment))))) in
    let s2 = split p2.first.spans A p2.rest.spans (M ++ (D ++ X)) (sym p2.spans ∙ s1.1)
    (length-spans p1.first.space na p2.first p2.first_fit ∙ (length-map (brought e.attachments) attachment_need ∙ (sym (same_brought t.attachments e.attachments lies.attachments) ∙ sym (length-map (brought t.attachments) (λ (x : AttItem). extent x.segment))))) in
    let s3 = split p3.first.spans M p3.rest.spans (D ++ X) (sym p3.spans ∙ s2.1)
    (length-spans p2.first.space nm p3.first p3.first_fit ∙ (length-map (option_to_list (set_new e.metadata)) metadata_need ∙ (sym (length-option t.metadata e.metadata lies.metadata) ∙ sym (length-map (option_to_list (set_new t.metadata)) (λ (m : MetaItem). extent m.segment))))) in
    let s4 = split p4.first.spans D p4.rest.spans X (sym p4.spans ∙ s3.1)
    (length-spans p3.first.space nd p4.first p4.first_fit ∙ length-directory (tiles_stay s e) l.directory (directory_need (after e s.document).subblocks) t.directory lies.directory) in
    let m = metadata_goes l p2.first.space metadata_need e.metadata l.metadata p3.first p3.first_fit in
    let d = directory_goes l p3.first.space (tiles_stay s e) (directory_need (after e s.document).subblocks) l.directory p4.first p4.first_fit in
    let x = directory_goes l p4.first.space (attachments_stay s e) (attdir_need (after e s.document).attachments) l.attdir p4.rest p4.rest_fit in
    record {
      tiles = record { places = put_in l e.subblocks p1.first.spans; back = []; used = p1.first.spans; space = p1.first.space };
      tiles_fit = brought_fit l (space_of s) subblock_need e.subblocks p1.first p1.first_fit;
      tiles_at = put_at (λ (x : Tile). x.segment) l t.tiles e.subblocks p1.first.spans lies.tiles s1.0;
      atts = record { places = put_in l e.attachments p2.first.spans; back = []; used = p2.first.spans; space = p2.first.space };
      atts_fit = brought_fit l p1.first.space attachment_need e.attachments p2.first p2.first_fit;
      atts_at = put_at (λ (x : AttItem). x.segment) l t.attachments e.attachments p2.first.spans lies.attachments s2.0;
      meta = m.fitted;
      meta_fit = m.fits;
      meta_at = subst (SetsAt (λ (m : MetaItem). m.segment) t.metadata l.metadata) (sym m.is) (set_at l t.metadata e.metadata l.metadata p3.first.spans lies.metadata s3.0);
      directory = d.fitted;
      directory_fit = subst (λ z. fit_option l z (edit_asks s e).directory ≡ Ok d.fitted) (sym m.left) d.fits;
      directory_at = subst (SetsAt (λ (d : Directory). d.segment) t.directory l.directory) (sym d.is) (directory_at l (tiles_stay s e) t.directory l.directory p4.first.spans lies.directory s4.0);
      attdir = x.fitted;
      attdir_fit = subst (λ z. fit_option l z (edit_asks s e).attdir ≡ Ok x.fitted) (sym d.left) x.fits;
      attdir_at = subst (SetsAt (λ (d : Directory). d.segment) t.attdir l.attdir) (sym x.is) (directory_at l (attachments_stay s e) t.attdir l.attdir p4.rest.spans lies.attdir s4.1);
    }

-- Where one of the needs has no place, the machine refuses the edit for it.
abbrev with_span : Span → FitAll → FitAll
with_span s q = record { spans = s ∷ q.spans; space = q.space }

abbrev FullParts : Space → List ℕ → List ℕ → Full → Type 0
FullParts space xs ys f = (fit_all space xs ≡ Err f) ⊎ ((r : FitAll) × (fit_all space xs ≡ Ok r) × (fit_all r.space ys ≡ Err f))

rest_full : (g : Fit) (r : Result FitAll Full) (f : Full) → (r >>= λ q. Ok (with_span g.span q)) ≡ Err f → r ≡ Err f
rest_full g (Ok q) f e = cc (e)
rest_full g (Err z) f e = let same_fault : z ≡ f = cc (e) in ap Err same_fault

full_parts : (space : Space) (xs ys : List ℕ) (f : Full) → fit_all space (xs ++ ys) ≡ Err f → FullParts space xs ys f
full_parts space [] ys f e = inr (record { spans = []; space = space }, refl, e)
full_parts space (x ∷ xs) ys f e = on_fit (fit space x) refl e (λ g none. full_parts g.space xs ys f none)
  where
    on_fit : (r : Result Fit Full) → fit space x ≡ r → (r >>= λ g. fit_all g.space (xs ++ ys) >>= λ q. Ok (with_span g.span q)) ≡ Err f → ((g : Fit) → fit_all g.space (xs ++ ys) ≡ Err f → FullParts g.space xs ys f) → FullParts space (x ∷ xs) ys f
    on_fit (Err z) r_is e' rest = let same_fault : z ≡ f = cc (e') in inl (rw r_is (ap Err same_fault))
    on_fit (Ok g) r_is e' rest = elim (rest g (rest_full g (fit_all g.space (xs ++ ys)) f e')) [
      | inl none ↦ inl (rw (r_is, none) refl)
      | inr more ↦ inr (with_span g.span more.0, rw (r_is, more.1) refl, more.2)
    ]

err_parts : {G : Type 0} (space : Space) (xs ys : List ℕ) (f : Full) → fit_all space (xs ++ ys) ≡ Err f → (fit_all space xs ≡ Err f → G) → ((r : FitAll) → fit_all space xs ≡ Ok r → fit_all r.space ys ≡ Err f → G) → G
err_parts space xs ys f e first rest = elim (full_parts space xs ys f e) [ inl a ↦ first a | inr b ↦ rest b.0 b.1 b.2 ]

one_need_full : (space : Space) (n : ℕ) (f : Full) → fit_all space (n ∷ []) ≡ Err f → fit space n ≡ Err f
one_need_full space n f e = on_fit (fit space n) refl e
  where
    on_fit : (r : Result Fit Full) → fit space n ≡ r → (r >>= λ g. fit_all g.space [] >>= λ q. Ok (with_span g.span q)) ≡ Err f → fit space n ≡ Err f
    on_fit (Ok g) r_is e' = cc (e')
    on_fit (Err z) r_is e' = let same_fault : z ≡ f = cc (e') in r_is ∙ ap Err same_fault

brought_full : {X : Type 0} (l : Layout) (space : Space) (need : X → ℕ) (c : List (Act X)) (f : Full) → fit_all space (map need (brought c)) ≡ Err f → fit_brought l space need c ≡ Err f
brought_full l space need [] f e = cc (e)
brought_full l space need (keep ∷ c) f e = rw (brought_full l space need c f e) refl
brought_full l space need (omit ∷ c) f e = rw (brought_full l space need c f e) refl
brought_full l space need (bring x ∷ c) f e =
    err_parts space (need x ∷ []) (map need (brought c)) f e
    (λ none. rw (one_need_full space (need x) f none) refl)
    (λ r r_is none. on_ok (fit space (need x)) _ r r_is λ g g_is done.
    let its = ok_is _ r done in
    rw (g_is, brought_full l g.space need c f (ap (λ (z : FitAll). fit_all z.space (map need (brought c))) its ∙ none)) refl)

metadata_full : {M : Type 0} (l : Layout) (space : Space) (need : M → ℕ) (d : Setting M) (old : Option Place) (f : Full) → fit_all space (map need (option_to_list (set_new d))) ≡ Err f
    → fit_option l space (set (mapped_setting (λ x. fresh (need x)) d) (option_map stays old)) ≡ Err f
metadata_full l space need (to (Some y)) old f e = rw (one_need_full space (need y) f e) refl
metadata_full l space need d old f e = cc (e)

directory_full : (l : Layout) (space : Space) (stay : Bool) (need : ℕ) (old : Option Place) (f : Full) → fit_all space (directory_needs stay need) ≡ Err f → fit_option l space (directory_asked old stay need) ≡ Err f
directory_full l space true need old f e = cc (e)
directory_full l space false need old f e = rw (one_need_full space need f e) refl

placed_full : (s : State) (e : DocumentEffect) (f : Full) → fit_all (space_of s) (needs_of s e) ≡ Err f → placed s.layout (space_of s) (edit_asks s e) ≡ Err f
unfolding placed_change
placed_full s e f all =
    let l : Layout = s.layout in
    let nt : List ℕ = map subblock_need (brought e.subblocks) in
    let na : List ℕ = map attachment_need (brought e.attachments) in
    let nm : List ℕ = map metadata_need (option_to_list (set_new e.metadata)) in
    let nd : List ℕ = directory_needs (tiles_stay s e) (directory_need (after e s.document).subblocks) in
    let nx : List ℕ = directory_needs (attachments_stay s e) (attdir_need (after e s.document).attachments) in
    let n : AskedLayout = edit_asks s e in
    err_parts (space_of s) nt (na ++ (nm ++ (nd ++ nx))) f all
    (λ none. let t : fit_each l (space_of s) n.subblocks ≡ Err f = each_brought l (space_of s) subblock_need e.subblocks l.subblocks ∙ ap (placed_change l l.subblocks) (brought_full l (space_of s) subblock_need e.subblocks f none) in rw t refl)
    (λ r1 is1 more1.
    let T : Fitted (List Place) = record { places = changed (put_in l e.subblocks r1.spans) l.subblocks; back = []; used = r1.spans; space = r1.space } in
    let t : fit_each l (space_of s) n.subblocks ≡ Ok T = each_brought l (space_of s) subblock_need e.subblocks l.subblocks ∙ ap (placed_change l l.subblocks) (brought_fit l (space_of s) subblock_need e.subblocks r1 is1) in
    err_parts r1.space na (nm ++ (nd ++ nx)) f more1
    (λ none. let a : fit_each l r1.space n.attachments ≡ Err f = each_brought l r1.space attachment_need e.attachments l.attachments ∙ ap (placed_change l l.attachments) (brought_full l r1.space attachment_need e.attachments f none) in rw (t, a) refl)
    (λ r2 is2 more2.
    let A : Fitted (List Place) = record { places = changed (put_in l e.attachments r2.spans) l.attachments; back = []; used = r2.spans; space = r2.space } in
    let a : fit_each l r1.space n.attachments ≡ Ok A = each_brought l r1.space attachment_need e.attachments l.attachments ∙ ap (placed_change l l.attachments) (brought_fit l r1.space attachment_need e.attachments r2 is2) in
    err_parts r2.space nm (nd ++ nx) f more2
    (λ none. let m : fit_option l r2.space n.metadata ≡ Err f = metadata_full l r2.space metadata_need e.metadata l.metadata f none in rw (t, a, m) refl)
    (λ r3 is3 more3.
    let g3 = metadata_goes l r2.space metadata_need e.metadata l.metadata r3 is3 in
    err_parts r3.space nd nx f more3
    (λ none. let d : fit_option l g3.fitted.space n.directory ≡ Err f = subst (λ z. fit_option l z n.directory ≡ Err f) (sym g3.left) (directory_full l r3.space (tiles_stay s e) (directory_need (after e s.document).subblocks) l.directory f none) in
    rw (t, a, g3.fits, d) refl)
    (λ r4 is4 none.
    let g4 = directory_goes l r3.space (tiles_stay s e) (directory_need (after e s.document).subblocks) l.directory r4 is4 in
    let d : fit_option l g3.fitted.space n.directory ≡ Ok g4.fitted = subst (λ z. fit_option l z n.directory ≡ Ok g4.fitted) (sym g3.left) g4.fits in
    let x : fit_option l g4.fitted.space n.attdir ≡ Err f = subst (λ z. fit_option l z n.attdir ≡ Err f) (sym g4.left) (directory_full l r4.space (attachments_stay s e) (attdir_need (after e s.document).attachments) l.attdir f none) in
    rw (t, a, g3.fits, d, x) refl))))

pub full_in_order : (s : State) (e : DocumentEffect) (f : Full) → fit_all (space_of s) (needs_of s e) ≡ Err f → after_effect s e ≡ Err (as_refusal f)
full_in_order s e f all = ap (λ r. with_fault as_refusal (r >>= λ p. Ok (relaid s.layout (edit_asks s e) p)) >>= λ l. Ok (edited s 1 (after e s.document) l)) (placed_full s e f all)
