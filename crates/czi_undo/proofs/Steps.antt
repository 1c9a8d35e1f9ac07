-- After an edit and after an undo what is kept brings the new state's former documents back.
use Rattle.std.proofs.Common.{◌≡◌, ℕ, zero, suc, List, [], ◌∷◌, map, take, length, true, Ok, refl, ap, sym, ◌∙◌, subst, inl, inr}
use Rattle.czi_format.specs.Live.{Live}
use Rattle.czi_machine.specs.Edit.{DocumentEffect, after}
use Rattle.czi_machine.specs.Formers.{BringBack, Return, present, undoing}
use Rattle.czi_machine.specs.Kept.{LiesWith}
use Rattle.czi_machine.specs.Laws.{Leads}
use Rattle.czi_machine.specs.LiveChange.{LiveChange, SpansAt, changed_live, effect_of}
use Rattle.czi_machine.specs.Machine.{after_effect, after_undo, kept_formers}
use Rattle.czi_machine.specs.Planned.{Plans}
use Rattle.czi_machine.specs.Sound.{IsDisjointState}
use Rattle.czi_machine.specs.State.{Former, State, items_of}
use Rattle.czi_machine.specs.Writes.{Writes}
use Rattle.czi_machine.specs.Written.{Piece, Wrote}
use Rattle.czi_machine.proofs.AnyCommand.{any_commanded}
use Rattle.czi_machine.proofs.FormersKept.{Made, edit_makes, edits_bring_back, Restored, undo_restores, undos_bring_back}
use Rattle.czi_machine.proofs.FromPlan.{plan_writes}
use Rattle.czi_machine.proofs.Led.{led, stays_tidy}
use Rattle.czi_undo.specs.Laws.{LiesBefore}
use Rattle.czi_undo.specs.Parts.{in_range}
use Rattle.czi_undo.specs.Told.{Single, return_of_single, FitAll, few_items}

fit_same : (a b : Former) (os : List Single) (fs : List Former) → a.document ≡ b.document → FitAll a os fs → FitAll b os fs
fit_same a b [] [] e fit = tt
fit_same a b [] (f ∷ fs) e fit = absurd fit
fit_same a b (o ∷ os) [] e fit = absurd fit
fit_same a b (o ∷ os) (f ∷ fs) e fit = (ap (in_range o.part) (sym e) ∙ fit.0, fit.1, fit.2)

fit_take : (k : ℕ) (a : Former) (os : List Single) (fs : List Former) → FitAll a os fs → FitAll a (take k os) (take k fs)
fit_take zero a os fs fit = tt
fit_take (suc k) a [] [] fit = tt
fit_take (suc k) a [] (f ∷ fs) fit = absurd fit
fit_take (suc k) a (o ∷ os) [] fit = absurd fit
fit_take (suc k) a (o ∷ os) (f ∷ fs) fit = (fit.0, fit.1, fit_take k f os fs fit.2)

take_mapped : {X Y : Type 0} (f : X → Y) (k : ℕ) (xs : List X) → take k (map f xs) ≡ map f (take k xs)
take_mapped f zero xs = refl
take_mapped f (suc k) [] = refl
take_mapped f (suc k) (x ∷ xs) = ap (λ l. f x ∷ l) (take_mapped f k xs)

-- what was written for a plan brings the former documents back that the new state has
keeps : (image other : List ℕ) (s s' : State) (live : Live) (e : DocumentEffect) (t : LiveChange) (pieces : List Piece) (old new : List Return) → LiesWith image live s old → Leads s s' → s'.document ≡ after e s.document
    → SpansAt s'.layout (changed_live t live) → Plans image s.layout s'.layout live e t pieces → Wrote image other pieces → length other ≡ s'.layout.length
    → ((effect_of other t ≡ e) → Writes image other t live s.layout s'.layout pieces → BringBack other (present s') new s'.formers) → LiesWith other (changed_live t live) s' new
keeps image other s s' live e t pieces old new w leads document at plan wrote long back =
    let is' : IsDisjointState s' = stays_tidy s s' w.tidy leads in
    let read = plan_writes image other s s' live e t pieces w.lies is' (led s s' w.tidy leads).longer at plan wrote long in
    record {
      lies = any_commanded image other s s' live t pieces w.lies w.tidy leads at (document ∙ ap (λ z. after z s.document) (sym read.0)) read.1;
      tidy = is';
      back = back read.0 read.1;
    }

pub edits_lie : (image other : List ℕ) (s s' : State) (live : Live) (e : DocumentEffect) (t : LiveChange) (pieces : List Piece) (o : Single) (os : List Single)
    → LiesBefore image live s os → few_items s.document ≡ true → after_effect s e ≡ Ok s' → SpansAt s'.layout (changed_live t live) → Plans image s.layout s'.layout live e t pieces → Wrote image other pieces
    → length other ≡ s'.layout.length → undoing 1 t live s.layout ≡ return_of_single o → in_range o.part s'.document ≡ true → LiesBefore other (changed_live t live) s' (o ∷ take (kept_formers 1 s) os)
edits_lie image other s s' live e t pieces o os lies few goes at plans wrote long inverse range =
    let k : ℕ = kept_formers 1 s in
    let m : Made s s' e = edit_makes s s' e goes in
    let document : s'.document ≡ after e s.document = ap (λ (z : State). z.document) (sym m.whole) in
    let w = lies.with' in
    let old : List Return = map return_of_single os in
    let new : LiesWith other (changed_live t live) s' (undoing 1 t live s.layout ∷ take k old) = keeps image other s s' live e t pieces old (undoing 1 t live s.layout ∷ take k old) w (inl (e, goes)) document at plans wrote long
    (λ same writes. edits_bring_back image other s s' live t pieces old w.lies w.tidy (ap (after_effect s) same ∙ goes) at writes w.back) in
    let first : Former = record { document = s.document; items = items_of s.layout; edits = 1 } in
    let formers : first ∷ take k s.formers ≡ s'.formers = ap (λ (z : State). z.formers) m.whole in
    record {
      with' = subst (LiesWith other (changed_live t live) s') (λ i. inverse i ∷ take_mapped return_of_single k os i) new;
      fit = subst (FitAll (present s') (o ∷ take k os)) formers (range, few, fit_same (present s) first (take k os) (take k s.formers) refl (fit_take k (present s) os s.formers lies.fit));
    }

pub undos_lie : (image other : List ℕ) (s s' : State) (live : Live) (e : DocumentEffect) (t : LiveChange) (pieces : List Piece) (o : Single) (os : List Single)
    → LiesBefore image live s (o ∷ os) → after_undo s ≡ Ok s' → s'.document ≡ after e s.document → SpansAt s'.layout (changed_live t live) → Plans image s.layout s'.layout live e t pieces → Wrote image other pieces
    → length other ≡ s'.layout.length → LiesBefore other (changed_live t live) s' os
undos_lie image other s s' live e t pieces o os lies goes document at plans wrote long = undone s.formers refl
  where
    undone : (fs : List Former) → s.formers ≡ fs → LiesBefore other (changed_live t live) s' os
    undone [] none = absurd (subst (FitAll (present s) (o ∷ os)) none lies.fit)
    undone (f ∷ formers) newest =
        let w = lies.with' in
        let r : Return = return_of_single o in
        let rest : List Return = map return_of_single os in
        let to : Restored s s' f formers = undo_restores s s' f formers newest goes in
        let same_document : f.document ≡ s'.document = ap (λ (z : Former). z.document) (sym to.now) in
        let fit0 : FitAll (present s) (o ∷ os) (f ∷ formers) = subst (FitAll (present s) (o ∷ os)) newest lies.fit in
        record {
          with' = keeps image other s s' live e t pieces (r ∷ rest) rest w (inr (inl goes)) document at plans wrote long
              (λ same writes. undos_bring_back image other s s' live t pieces r rest w.lies w.tidy goes at writes w.back);
          fit = subst (FitAll (present s') os) (sym to.older) (fit_same f (present s') os formers same_document fit0.2);
        }
