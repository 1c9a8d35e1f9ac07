-- To which state a command leads: what was placed, and that the state is tidy, or sound.
use Rattle.std.proofs.Common.{◌≡◌, ℕ, ◌+◌, ◌≤◌, List, [], ◌∷◌, Result, Ok, Err, refl, ap, ◌∙◌, arith, subst, true, ◌⊎◌, inl, inr}
use Rattle.czi_format.specs.FirstFault.{with_fault}
use Rattle.std.specs.List.{AllByRecursion, list_any}
use Rattle.czi_format.specs.Space.{same_span}
use Rattle.czi_format.specs.Span.{Span, end_of}
use Rattle.czi_format.proofs.Rules.{on_ok}
use Rattle.czi_machine.specs.Cover.{between, cover}
use Rattle.czi_machine.specs.Edit.{Edit, DocumentEffect, effect, after}
use Rattle.czi_machine.specs.Laws.{Leads}
use Rattle.czi_machine.specs.Machine.{after_effect, after_edit, after_undo, after_undo_of, as_refusal, edited, restored}
use Rattle.czi_machine.specs.Places.{AskedLayout, Placed, edit_asks, undo_asks, placed, laid, relaid, live_places, space_of}
use Rattle.czi_machine.specs.Sound.{live_spans, IsDisjointState, IsGaplessState}
use Rattle.czi_machine.specs.State.{Former, State, held, spans_of}
use Rattle.czi_machine.specs.Writes.{dead}
use Rattle.czi_machine.proofs.Exact.{sound_tidy}
use Rattle.czi_machine.proofs.Nexts.{edit_is_next, undo_is_next}
use Rattle.czi_machine.proofs.Grouped.{placed_placing}
use Rattle.czi_machine.specs.Grouped.{IsPlaced}
use Rattle.czi_machine.proofs.Placing.{IsAsked, Placing, placing}
use Rattle.czi_machine.proofs.Tidy.{sound_edited, sound_restored, tidy_edited, tidy_restored, held_edited, held_restored, edited_from, restored_from, marked_once}
use Rattle.czi_machine.proofs.Restated.{ok_is}

pub record Led (s s' : State) : Type 0 where
  pub next : AskedLayout
  pub placed : Placed
  pub layout : s'.layout ≡ relaid s.layout next placed
  pub longer : s.layout.length ≤ s'.layout.length
  pub tidy : IsDisjointState s'
  pub sound : IsGaplessState s → IsGaplessState s'
  pub held_from : AllByRecursion (λ (h : Span). (list_any (same_span h) (spans_of (live_places s.layout)) ≡ true) ⊎ ((p : ℕ) → between h.at (end_of h) p ≤ cover (held s) p)) (held s')
  pub held_before : (p : ℕ) → s.layout.length ≤ p → cover (held s') p ≡ 0
  pub marks : (p : ℕ) → cover (live_spans s'.layout) p + (cover s'.layout.deleted p + cover (dead s.layout s'.layout) p) ≤ 1

pub no_fault : {A D E : Type 0} (f : D → E) (r : Result A D) (x : A) → with_fault f r ≡ Ok x → r ≡ Ok x
no_fault f (Ok y) x e = let same : y ≡ x = cc (e) in ap Ok same
no_fault f (Err y) x e = absurd (cc (e))

-- an edit of which what it brings was placed
pub placed_led : (s : State) (m : ℕ) (f : DocumentEffect) (pl : Placed) → IsDisjointState s → Placing s (edit_asks s f) pl → Led s (edited s m (after f s.document) (relaid s.layout (edit_asks s f) pl))
placed_led s m f pl is at =
    let n : AskedLayout = edit_asks s f in
    let nx : IsAsked s n = edit_is_next s f is in
    record {
      next = n;
      placed = pl;
      layout = refl;
      longer = omega (arith, at.uses.longer, at.length);
      tidy = tidy_edited s m f (after f s.document) pl is at;
      sound = λ sound. sound_edited s m f (after f s.document) pl sound at;
      held_from = edited_from s m (after f s.document) (relaid s.layout n pl);
      held_before = λ p h. held_edited s m (after f s.document) (relaid s.layout n pl) p is h;
      marks = λ p. marked_once s n pl p is nx at;
    }

pub effect_led : (s s' : State) (f : DocumentEffect) → IsDisjointState s → after_effect s f ≡ Ok s' → Led s s'
effect_led s s' f is e =
    on_ok (with_fault as_refusal (laid s (edit_asks s f))) _ s' e λ l l_is done.
    on_ok (placed s.layout (space_of s) (edit_asks s f)) _ l (no_fault as_refusal (laid s (edit_asks s f)) l l_is) λ pl pl_is laid_is.
    let n : AskedLayout = edit_asks s f in
    let its : relaid s.layout n pl ≡ l = ok_is (relaid s.layout n pl) l laid_is in
    let whole : edited s 1 (after f s.document) (relaid s.layout n pl) ≡ s' = ap (edited s 1 (after f s.document)) its ∙ ok_is _ s' done in
    subst (Led s) whole (placed_led s 1 f pl is (placing s n pl is (edit_is_next s f is) pl_is))

pub undo_led : (s s' : State) → IsDisjointState s → after_undo s ≡ Ok s' → Led s s'
undo_led s s' is e = on_formers s.formers refl e
  where
    on_formers : (formers : List Former) → s.formers ≡ formers → after_undo_of s formers ≡ Ok s' → Led s s'
    on_formers [] newest e' = absurd (cc (e'))
    on_formers (f ∷ formers) newest e' =
        on_ok (with_fault as_refusal (laid s (undo_asks s f))) _ s' e' λ l l_is done.
        on_ok (placed s.layout (space_of s) (undo_asks s f)) _ l (no_fault as_refusal (laid s (undo_asks s f)) l l_is) λ pl pl_is laid_is.
        let n : AskedLayout = undo_asks s f in
        let its : relaid s.layout n pl ≡ l = ok_is (relaid s.layout n pl) l laid_is in
        let whole : restored s f formers (relaid s.layout n pl) ≡ s' = ap (restored s f formers) its ∙ ok_is _ s' done in
        let nx : IsAsked s n = undo_is_next s f formers is newest in
        let at : Placing s n pl = placing s n pl is nx pl_is in
        subst (Led s) whole (record {
          next = n;
          placed = pl;
          layout = refl;
          longer = omega (arith, at.uses.longer, at.length);
          tidy = tidy_restored s f formers pl is newest pl_is;
          sound = λ sound. sound_restored s f formers pl sound newest pl_is;
          held_from = restored_from s f formers pl is newest pl_is;
          held_before = λ p h. held_restored s f formers pl p is newest pl_is h;
          marks = λ p. marked_once s n pl p is nx at;
        })

pub edits_lead : (s s' : State) (c : Edit) → after_edit s c ≡ Ok s' → Leads s s'
edits_lead s s' c goes = on_ok (effect s.document c) _ s' goes λ e e_is more. inl (e, more)

pub led : (s s' : State) → IsDisjointState s → Leads s s' → Led s s'
led s s' is leads = elim leads [
  | inl c ↦ effect_led s s' c.0 is c.1
  | inr other ↦ elim other [ inl u ↦ undo_led s s' is u | inr g ↦ subst (Led s) g.goes (placed_led s g.edits g.effect g.placed is (placed_placing s g.effect g.needs g.placed is g.places)) ]
]

pub stays_sound : (s s' : State) → IsGaplessState s → Leads s s' → IsGaplessState s'
stays_sound s s' is leads = (led s s' (sound_tidy s is) leads).sound is

pub stays_tidy : (s s' : State) → IsDisjointState s → Leads s s' → IsDisjointState s'
stays_tidy s s' is leads = (led s s' is leads).tidy

pub any_order : (s : State) (m : ℕ) (e : DocumentEffect) (needs : List ℕ) (pl : Placed) → IsDisjointState s → IsPlaced s e needs pl
    → IsDisjointState (edited s m (after e s.document) (relaid s.layout (edit_asks s e) pl)) × (IsGaplessState s → IsGaplessState (edited s m (after e s.document) (relaid s.layout (edit_asks s e) pl)))
any_order s m e needs pl is p =
    let ld : Led s (edited s m (after e s.document) (relaid s.layout (edit_asks s e) pl)) = placed_led s m e pl is (placed_placing s e needs pl is p) in
    (ld.tidy, ld.sound)
