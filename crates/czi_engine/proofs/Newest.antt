-- The newest edit is undone: the inverses that are left bring the other former documents back, and hold back what these need.
use Rattle.std.proofs.Common.{◌≡◌, ℕ, ◌≤◌, List, [], ◌∷◌, drop, map, length, true, false, Option, Some, None, Result, Ok, Err, refl, ap, sym, ◌∙◌, subst, arith, inl, inr}
use Rattle.std.specs.Prelude.{IsTrue}
use Rattle.std.proofs.lemmas.Bool.{cases_Bool}
use Rattle.std.specs.Option.{ForSome}
use Rattle.czi_format.proofs.Rules.{on_ok}
use Rattle.czi_format.specs.FirstFault.{◌>>=◌, with_fault}
use Rattle.czi_format.specs.Layout.{Layout}
use Rattle.czi_format.specs.Live.{Live}
use Rattle.czi_format.specs.Space.{Full, same_span, released, with_held}
use Rattle.czi_format.specs.Span.{Span, span_le}
use Rattle.czi_image.specs.Change.{live_change_of}
use Rattle.czi_machine.proofs.Leaving.{same_is, same_self}
use Rattle.czi_machine.proofs.Restated.{ok_is}
use Rattle.czi_machine.proofs.Tidy.{undo_places}
use Rattle.czi_machine.specs.Cover.{cover}
use Rattle.czi_machine.specs.Edit.{Refusal, full, nothing}
use Rattle.czi_machine.specs.Formers.{Return, present}
use Rattle.czi_machine.specs.LiveChange.{LiveChange, SpansAt, changed_live}
use Rattle.czi_machine.specs.Machine.{after_undo, after_undo_of, as_refusal, one_more, restored}
use Rattle.czi_machine.specs.Planned.{Plans}
use Rattle.czi_machine.specs.Places.{laid, placed, relaid, space_of, undo_asks}
use Rattle.czi_machine.specs.Sound.{usable_held}
use Rattle.czi_machine.specs.State.{Former, Items, State, items_of}
use Rattle.czi_machine.specs.Written.{Wrote}
use Rattle.czi_num.specs.Span.{span_of}
use Rattle.czi_num.specs.declared.span.Span.{Span as CodeSpan}
use Rattle.czi_plan.proofs.Fitting.{newest_fits}
use Rattle.czi_plan.specs.Conditions.{IsMapOf}
use Rattle.czi_plan.specs.Does.{layout_by}
use Rattle.czi_plan.specs.Pieces.{pieces_of}
use Rattle.czi_plan.specs.Undoing.{InverseFits, Undoes, Undone, UndoesIn}
use Rattle.czi_plan.specs.declared.plan.EditPlan.{EditPlan}
use Rattle.czi_region.specs.declared.block.Region.{Region}
use Rattle.czi_space.specs.State.{IsHeld}
use Rattle.czi_undo.proofs.Steps.{undos_lie}
use Rattle.czi_undo.specs.Bounds.{first_of}
use Rattle.czi_undo.specs.Holding.{holds_of}
use Rattle.czi_undo.specs.Laws.{LiesBefore}
use Rattle.czi_undo.specs.Stands.{AreSingle, IsSingle}
use Rattle.czi_undo.specs.Told.{FitAll, Single, return_of_single}
use Rattle.czi_undo.specs.declared.inverse.Inverse.{Inverse}
use Rattle.czi_plan.specs.Apart.{BringsApart}
use Rattle.czi_engine.specs.Prepared.{GoesBy, PreparesUndo}
use Rattle.czi_engine.specs.Standing.{AreWhole, BringBack, FewKept, HasItsMap, HasState, HoldBack, Origin, held_by, spans_held}
use Rattle.std.specs.Prelude.{IsErrAnd, IsFalse}
use Rattle.czi_engine.specs.Devices.{is_device, undo_fault}
use Rattle.czi_engine.specs.Editing.{AsBefore, Refuses}
use Rattle.czi_engine.specs.UndoMemory.{HasNoPlaceFor, NoneFits}
use Rattle.czi_engine.specs.declared.error.UndoError.{UndoError}
use Rattle.czi_engine.specs.declared.engine.Engine.{Engine}
use Rattle.czi_engine.specs.declared.engine.EngineState.{EngineState}
use Rattle.czi_engine.proofs.Fitting.{held_cover, its_map}
use Rattle.czi_engine.proofs.Planned.{lies_in}

le_self : (s : Span) → span_le s s ≡ true
le_self s = grind arith

-- a span that came among the held ones is one of them, and where it goes again the others are left
pub held_own : (s : Span) (hs : List Span) → IsHeld s (with_held s hs)
held_own s [] = inl refl
held_own s (h ∷ hs) = elim (cases_Bool (span_le s h)) [
  | inl e ↦ rw e (inl refl)
  | inr e ↦ rw e (inr (held_own s hs))
]

pub released_own : (s : Span) (hs : List Span) → released s (with_held s hs) ≡ hs
released_own s [] = rw (same_self s) refl
released_own s (h ∷ hs) = elim (cases_Bool (span_le s h)) [
  | inl e ↦ rw (e, same_self s) refl
  | inr e ↦ elim (cases_Bool (same_span h s)) [
    | inl f ↦ absurd (let yes : span_le s h ≡ true = subst (λ (z : Span). span_le s z ≡ true) (sym (same_is h s f)) (le_self s) in cc (e, yes))
    | inr f ↦ rw (e, f) (ap (λ z. h ∷ z) (released_own s hs))
  ]
]

-- an undo gives the items that the former document had
pub items_back : (s : State) (f : Former) (l : Layout) → laid s (undo_asks s f) ≡ Ok l → items_of l ≡ f.items
items_back s f l goes =
    on_ok (placed s.layout (space_of s) (undo_asks s f)) _ l goes λ pl there is.
    let its : relaid s.layout (undo_asks s f) pl ≡ l = ok_is _ l is in
    ap items_of (sym its) ∙ undo_places s f pl there

-- what is told of inverses, and the former documents, begin with those of the newest
pub record Newest (i : Inverse) (rest : List Inverse) (s : State) (told : List Single) : Type 0 where
  pub single : Single
  pub others : List Single
  pub told_is : told ≡ single ∷ others
  pub is_single : IsSingle i single
  pub are_single : AreSingle rest others
  pub former : Former
  pub formers : List Former
  pub formers_are : s.formers ≡ former ∷ formers

first_told : (i : Inverse) (rest : List Inverse) (s : State) (told : List Single) → AreSingle (i ∷ rest) told → FitAll (present s) told s.formers → Newest i rest s told
first_told i rest s [] single fit = absurd single
first_told i rest s (o ∷ os) single fit = first_former s.formers refl fit
  where
    first_former : (fs : List Former) → s.formers ≡ fs → FitAll (present s) (o ∷ os) fs → Newest i rest s (o ∷ os)
    first_former [] is fit = absurd fit
    first_former (f ∷ fs) is fit = record { single = o; others = os; told_is = refl; is_single = single.0; are_single = single.1; former = f; formers = fs; formers_are = is }

module _ (x : EngineState) (i : Inverse) (rest : List Inverse) (newest : x.edits ≡ i ∷ rest) (own : HasItsMap x) (whole : AreWhole (spans_held x)) (start : Origin) (bytes : List ℕ) (live : Live) (s : State) (has : HasState start bytes live s x) where
  pub first : Newest i rest s has.back.told
  first = first_told i rest s has.back.told (subst (λ is. AreSingle is has.back.told) newest has.back.single) has.back.back.fit

  before : LiesBefore bytes live s (first.single ∷ first.others)
  before = subst (LiesBefore bytes live s) first.told_is has.back.back

  -- it fits
  pub newest_fits_there : InverseFits x.index x.map i
  newest_fits_there = newest_fits bytes live s x.index x.map i first.single first.others (lies_in start bytes live s x has own) (its_map x own whole) before first.is_single
      (λ q some. omega (arith, some, held_cover start bytes live s x q has, ap (λ (hs : List Span). cover hs q) own.held))

  undone : Undone bytes live s x.index x.map i first.single (map return_of_single first.others) first.former first.formers
  undone = record { lies = lies_in start bytes live s x has own; single = first.is_single; back = before.with'; newest = first.formers_are }

  held_before : HoldBack (items_of s.layout) (first.former ∷ first.formers) (holds_of i ∷ map holds_of rest)
  held_before = subst (λ fs. HoldBack (items_of s.layout) fs (holds_of i ∷ map holds_of rest)) first.formers_are (subst (λ is. HoldBack (items_of s.layout) s.formers (map holds_of is)) newest has.edits)

  -- where there is no place the machine refuses it so
  pub no_place_there : (need long : ℕ) → laid s (undo_asks s first.former) ≡ Err (record { need = need; length = long }) → after_undo s ≡ Err (full need long)
  no_place_there need long none = ap (after_undo_of s) first.formers_are ∙ ap (λ (r : Result Layout Full). with_fault as_refusal r >>= λ l. Ok (restored s first.former first.formers l)) none

  -- a plan that undoes it is what the machine makes of the state
  pub undo_means : (y : Engine) → y.state.index ≡ x.index → Undoes x.index x.map i y.scratch.region y.scratch.plan → GoesBy after_undo bytes live s y rest
  undo_means y same undoes =
      let p : EditPlan = y.scratch.plan in
      let turn : LiveChange = live_change_of p.change x.index in
      let u : UndoesIn bytes live s first.former x.index y.scratch.region p = undoes bytes live s first.single (map return_of_single first.others) first.former first.formers undone in
      let next : State = restored s first.former first.formers (layout_by p s) in
      let goes : after_undo s ≡ Ok next = ap (after_undo_of s) first.formers_are ∙ ap (λ (r : Result Layout Full). with_fault as_refusal r >>= λ l. Ok (restored s first.former first.formers l)) u.goes in
      let turns : live_change_of p.change y.state.index ≡ turn = ap (live_change_of p.change) same in
      record {
        state = next;
        goes = goes;
        leads = inr (inl goes);
        effect = u.effect;
        document = u.document;
        layout = refl;
        spans = subst (λ (t : LiveChange). SpansAt next.layout (changed_live t live)) (sym turns) u.spans;
        plans = subst (λ (t : LiveChange). Plans bytes s.layout next.layout live u.effect t (pieces_of y.scratch.region p)) (sym turns) u.plans;
        apart = subst (BringsApart live) (sym turns) u.apart;
        holds = subst (λ (items : Items). HoldBack items first.formers (map holds_of rest)) (sym (items_back s first.former (layout_by p s) u.goes)) held_before.2;
        back = λ other wrote long. record {
          told = first.others;
          single = first.are_single;
          back = subst (λ (t : LiveChange). LiesBefore other (changed_live t live) next first.others) (sym turns)
              (undos_lie bytes other s next live u.effect turn (pieces_of y.scratch.region p) first.single first.others before goes u.document u.spans u.plans wrote long);
        };
        number = refl;
      }

-- the same of an engine that has these inverses and this map
pub means_by : {x : EngineState} {y : Engine} (i : Inverse) (rest : List Inverse) → x.edits ≡ i ∷ rest → HasItsMap x → AreWhole (spans_held x) → (start : Origin) (bytes : List ℕ) (live : Live) (s : State) → HasState start bytes live s x → y.state.index ≡ x.index
    → Undoes x.index x.map i y.scratch.region y.scratch.plan → GoesBy after_undo bytes live s y rest
means_by {x = x} {y = y} i rest newest own whole start bytes live s has same undoes = undo_means x i rest newest own whole start bytes live s has y same undoes

-- without an edit the machine has no former document
no_former : (s : State) (told : List Single) → AreSingle [] told → FitAll (present s) told s.formers → s.formers ≡ []
no_former s [] single fit = of s.formers fit
  where
    of : (fs : List Former) → FitAll (present s) [] fs → fs ≡ []
    of [] fit = refl
    of (f ∷ fs) fit = absurd fit
no_former s (o ∷ os) single fit = absurd single

-- where no inverse fits as the newest, there is nothing to undo
pub nothing_to_undo : (x : EngineState) → NoneFits x.edits x.index x.map → HasItsMap x → AreWhole (spans_held x) → (start : Origin) (bytes : List ℕ) (live : Live) (s : State) → HasState start bytes live s x → after_undo s ≡ Err nothing
nothing_to_undo x none own whole start bytes live s has = of x.edits refl
  where
    of : (is : List Inverse) → x.edits ≡ is → after_undo s ≡ Err nothing
    of [] e = ap (after_undo_of s) (no_former s has.back.told (subst (λ is. AreSingle is has.back.told) e has.back.single) has.back.back.fit)
    of (i ∷ rest) e = absurd (none i (ap first_of e) (newest_fits_there x i rest e own whole start bytes live s has))

-- a list with its first
pub first_is : {X : Type 0} (xs : List X) (x : X) → Some x ≡ first_of xs → xs ≡ x ∷ drop 1 xs
first_is [] x e = absurd (cc (e))
first_is (y ∷ ys) x e = let same : x ≡ y = cc (e) in ap (λ z. z ∷ ys) (sym same)

-- what a list of inverses holds back before and after the newest goes
pub held_before_newest : (is : List Inverse) (i : Inverse) (s : CodeSpan) → Some i ≡ first_of is → holds_of i ≡ Some s → held_by (map holds_of is) ≡ with_held (span_of s) (held_by (map holds_of (drop 1 is)))
held_before_newest is i s first holds = ap (λ z. held_by (map holds_of z)) (first_is is i first) ∙ ap (λ h. held_by (h ∷ map holds_of (drop 1 is))) holds

pub none_held : (is : List Inverse) (i : Inverse) → Some i ≡ first_of is → holds_of i ≡ None → held_by (map holds_of is) ≡ held_by (map holds_of (drop 1 is))
none_held is i first holds = ap (λ z. held_by (map holds_of z)) (first_is is i first) ∙ ap (λ h. held_by (h ∷ map holds_of (drop 1 is))) holds

pub none_first : {X : Type 0} (xs : List X) → None ≡ first_of xs → xs ≡ drop 1 xs
none_first [] e = refl
none_first (x ∷ xs) e = absurd (cc (e))

-- the others are as few
pub few_left : (is : List Inverse) → FewKept is → FewKept (drop 1 is)
few_left [] few = few
few_left (i ∷ is) few = record { whole = few.whole.1; ones = few.ones.1; few = omega (arith, few.few) }

-- why an undo isn't prepared
pub unprepared_undo : (x y : Engine) (r : Result (Unit {0}) UndoError) (error : UndoError) → AsBefore x.state y.state → IsFalse (is_device (undo_fault error))
    → ((start : Origin) (bytes : List ℕ) (live : Live) (s : State) → HasState start bytes live s x.state → Refuses after_undo s (undo_fault error)) → IsErrAnd r (λ e. e ≡ error) → PreparesUndo x y r
unprepared_undo x y (Ok done) error same device refuses none = absurd none
unprepared_undo x y (Err e) error same device refuses is = record {
  same = record { journal = same.journal; index = same.index; map = same.map; edits = same.edits; number = same.number };
  ready = tt;
  refusal = subst (λ (z : UndoError). AsBefore x.state y.state × IsFalse (is_device (undo_fault z)) × ((start : Origin) (bytes : List ℕ) (live : Live) (s : State) → HasState start bytes live s x.state → Refuses after_undo s (undo_fault z))) (sym is) (same, device, refuses);
}

-- there is no place
pub no_place_to_undo : (x y : Engine) (r : Result (Unit {0}) UndoError) (i : Inverse) (error : UndoError) → AsBefore x.state y.state → HasItsMap x.state → AreWhole (spans_held x.state) → x.state.edits ≡ i ∷ drop 1 x.state.edits
    → HasNoPlaceFor x.state.index x.state.map i error → IsErrAnd r (λ e. e ≡ error) → PreparesUndo x y r
no_place_to_undo x y r i error same own whole newest none is = unprepared_undo x y r error same
    (subst (λ (z : UndoError). IsFalse (is_device (undo_fault z))) (sym none.is) refl)
    (λ start bytes live s has. subst (λ (z : UndoError). Refuses after_undo s (undo_fault z)) (sym none.is)
    (let n = first x.state i (drop 1 x.state.edits) newest own whole start bytes live s has in
    no_place_there x.state i (drop 1 x.state.edits) newest own whole start bytes live s has none.need none.length
    (none.none bytes live s n.single (map return_of_single n.others) n.former n.formers (undone x.state i (drop 1 x.state.edits) newest own whole start bytes live s has))))
    is
