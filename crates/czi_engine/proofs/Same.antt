-- An engine that is as it was stands where it stood; carrying a plan out leaves what the plan was made of.
use Rattle.std.proofs.Common.{ℕ, ◌≤◌, List, Option, map, length, ap, sym, subst, ◌∙◌, ◌≡◌, ◌+◌, ◌*◌, ◌∷◌, take, vec_len, vec_capacity}
use Rattle.std.specs.Option.{ForSome}
use Rattle.czi_format.specs.Live.{Live}
use Rattle.czi_image.proofs.Changed.{holds_still, lies_still}
use Rattle.czi_machine.specs.State.{State as MachineState, items_of}
use Rattle.czi_num.specs.Span.{span_of}
use Rattle.czi_num.specs.declared.span.Span.{Span as CodeSpan}
use Rattle.czi_opening.specs.Answers.{IsJournal}
use Rattle.czi_rig.specs.declared.file.File.TheVariants.{Journal}
use Rattle.czi_rig.specs.Disk.{Everywhere}
use Rattle.czi_rig.specs.State.{State, known}
use Rattle.czi_image.specs.Applied.{HasRoom, IsChanged}
use Rattle.czi_image.specs.declared.index.Index.{Index}
use Rattle.czi_machine.specs.Machine.{one_more}
use Rattle.czi_plan.specs.Plan.{IsPlan, extents_after}
use Rattle.czi_plan.specs.declared.plan.EditPlan.{EditPlan}
use Rattle.czi_region.specs.declared.block.Region.{Region}
use Rattle.czi_space.specs.State.{MapState}
use Rattle.czi_engine.specs.Editing.{AsBefore}
use Rattle.czi_undo.specs.Holding.{holds_of}
use Rattle.czi_undo.specs.declared.inverse.Inverse.{Inverse}
use Rattle.czi_engine.specs.Standing.{BringBack, FewKept, HasItsMap, HasState, HoldBack, Origin, StandsOnRig, held_by}
use Rattle.czi_engine.specs.declared.engine.EngineState.{EngineState}
use Rattle.czi_region.specs.Pieces.{bytes_put, room}
use Rattle.czi_engine.specs.Prepared.{CanKeep, HasMemory, IsSameButDown, IsUndoing, KeepsPlan, edits_after}
use Rattle.czi_engine.specs.UndoMemory.{CanGoOn}
use Rattle.czi_engine.specs.declared.reserve.UndoMemory.{UndoMemory}
use Rattle.czi_engine.specs.declared.engine.Engine.{Engine}

module _ (x y : EngineState) (same : IsSameButDown x y) where
  pub stays_has : (o : Origin) (bytes : List ℕ) (live : Live) (s : MachineState) → HasState o bytes live s x → HasState o bytes live s y
  stays_has o bytes live s has = record {
    stands = has.stands;
    holds = holds_still x.index y.index live same.index has.holds;
    lies = lies_still x.index y.index s.layout same.index has.lies;
    edits = subst (λ (is : List Inverse). HoldBack (items_of s.layout) s.formers (map holds_of is)) (sym same.edits) has.edits;
    back = subst (BringBack bytes live s) (sym same.edits) has.back;
    number = same.number ∙ has.number;
    kept = has.kept;
  }

  pub stays_map : HasItsMap x → HasItsMap y
  stays_map own = record {
    extents = same.map.extents ∙ (own.extents ∙ ap (map span_of) (sym same.index.extents));
    held = same.map.held ∙ (own.held ∙ ap (λ is. held_by (map holds_of is)) (sym same.edits));
    length = same.map.length ∙ (own.length ∙ sym same.index.length);
  }

  pub stays_stands : (s : State) → StandsOnRig s x → StandsOnRig s y
  stays_stands s on = record {
    image = on.image;
    itself = on.itself;
    state = λ bytes is. let some = on.state bytes is in record { start = some.start; live = some.live; state = some.state; has = stays_has some.start bytes some.live some.state some.has };
    armed = subst (λ j. ForSome (known s Journal) (Everywhere (IsJournal j))) (sym same.journal) on.armed;
    idle = λ off. on.idle (sym (ap (λ j. j.armed) same.journal) ∙ off);
    own_map = stays_map on.own_map;
    few = subst FewKept (sym same.edits) on.few;
  }

but_down : (x y : EngineState) → AsBefore x y → IsSameButDown x y
but_down x y same = record { journal = same.journal; index = same.index; map = same.map; edits = same.edits; number = same.number }

module _ (x y : EngineState) (same : AsBefore x y) where
  pub same_has : (o : Origin) (bytes : List ℕ) (live : Live) (s : MachineState) → HasState o bytes live s x → HasState o bytes live s y
  same_has = stays_has x y (but_down x y same)

  pub same_map : HasItsMap x → HasItsMap y
  same_map = stays_map x y (but_down x y same)

  pub same_stands : (s : State) → StandsOnRig s x → StandsOnRig s y
  same_stands = stays_stands x y (but_down x y same)

module _ (x z : Engine) (k : KeepsPlan x z) where
  pub plan_carried : IsPlan x.state.index x.state.map x.scratch.region x.scratch.plan → IsPlan z.state.index z.state.map z.scratch.region z.scratch.plan
  plan_carried p =
      subst (λ (i : Index). IsPlan i z.state.map z.scratch.region z.scratch.plan) (sym k.index)
      (subst (λ (m : MapState). IsPlan x.state.index m z.scratch.region z.scratch.plan) (sym k.map)
      (subst (λ (r : Region). IsPlan x.state.index x.state.map r z.scratch.plan) (sym k.region)
      (subst (λ (e : EditPlan). IsPlan x.state.index x.state.map x.scratch.region e) (sym k.plan) p)))

  pub memory_carried : HasMemory x.state x.scratch.plan → HasMemory z.state z.scratch.plan
  memory_carried h = record {
    spare = subst (λ (e : EditPlan). 2 * length e.used.items + 2 * length e.freed.items + 1 ≤ z.state.map.spare) (sym k.plan)
        (subst (λ (m : MapState). 2 * length x.scratch.plan.used.items + 2 * length x.scratch.plan.freed.items + 1 ≤ m.spare) (sym k.map) h.spare);
    index = subst (λ (e : EditPlan). HasRoom e.change (length z.state.map.extents + (2 * length e.used.items + 2 * length e.freed.items)) z.state.index) (sym k.plan)
        (subst (λ (m : MapState). HasRoom x.scratch.plan.change (length m.extents + (2 * length x.scratch.plan.used.items + 2 * length x.scratch.plan.freed.items)) z.state.index) (sym k.map)
        (subst (λ (i : Index). HasRoom x.scratch.plan.change (length x.state.map.extents + (2 * length x.scratch.plan.used.items + 2 * length x.scratch.plan.freed.items)) i) (sym k.index) h.index));
  }

  pub go_on_carried : (n count size : ℕ) → CanGoOn n x.state.index x.state.map x.scratch.plan count size → CanGoOn n z.state.index z.state.map z.scratch.plan count size
  go_on_carried n count size can =
      subst (λ (i : Index). CanGoOn n i z.state.map z.scratch.plan count size) (sym k.index)
      (subst (λ (m : MapState). CanGoOn n x.state.index m z.scratch.plan count size) (sym k.map)
      (subst (λ (e : EditPlan). CanGoOn n x.state.index x.state.map e count size) (sym k.plan) can))

  pub keep_carried : CanKeep x.state x.scratch.plan → CanKeep z.state z.scratch.plan
  keep_carried can =
      subst (λ (n : ℕ). CanGoOn n z.state.index z.state.map z.scratch.plan (vec_len z.state.undos.plans) (room z.state.undos.region)) (ap (λ is. 1 + length is) (sym k.edits))
      (subst (λ (u : UndoMemory). CanGoOn (1 + length x.state.edits) z.state.index z.state.map z.scratch.plan (vec_len u.plans) (room u.region)) (sym k.undos)
      (go_on_carried (1 + length x.state.edits) (vec_len x.state.undos.plans) (room x.state.undos.region) can))

  pub undoing_carried : IsUndoing x → IsUndoing z
  undoing_carried u = record {
    others = u.others;
    one = ap length k.edits ∙ u.one;
    memory = subst (λ (r : Region). CanGoOn u.others z.state.index z.state.map z.scratch.plan (vec_len z.state.undos.plans) (room r + length (bytes_put r))) (sym k.region)
        (subst (λ (w : UndoMemory). CanGoOn u.others z.state.index z.state.map z.scratch.plan (vec_len w.plans) (room x.scratch.region + length (bytes_put x.scratch.region))) (sym k.undos)
        (go_on_carried u.others (vec_len x.state.undos.plans) (room x.scratch.region + length (bytes_put x.scratch.region)) u.memory));
  }

  pub map_carried : HasItsMap x.state → HasItsMap z.state
  map_carried own = record {
    extents = ap (λ (m : MapState). m.extents) k.map ∙ (own.extents ∙ ap (λ (i : Index). map span_of i.extents.items) (sym k.index));
    held = ap (λ (m : MapState). m.held) k.map ∙ (own.held ∙ ap (λ is. held_by (map holds_of is)) (sym k.edits));
    length = ap (λ (m : MapState). m.length) k.map ∙ (own.length ∙ ap (λ (i : Index). i.length) (sym k.index));
  }

  -- what was taken over, told by the engine before
  pub changed_carried : (y : EngineState) → IsChanged z.scratch.plan.change y.index.extents.items z.scratch.plan.length z.state.index y.index → IsChanged x.scratch.plan.change y.index.extents.items x.scratch.plan.length x.state.index y.index
  changed_carried y c = subst (λ (i : Index). IsChanged x.scratch.plan.change y.index.extents.items x.scratch.plan.length i y.index) k.index
      (subst (λ (e : EditPlan). IsChanged e.change y.index.extents.items e.length z.state.index y.index) k.plan c)

  pub extents_carried : (y : EngineState) → map span_of y.index.extents.items ≡ extents_after z.scratch.plan z.state.map.extents → map span_of y.index.extents.items ≡ extents_after x.scratch.plan x.state.map.extents
  extents_carried y e = e ∙ (λ i. extents_after (k.plan i) ((k.map i).extents))

  pub edits_carried : (y : EngineState) (inverse : Inverse) → y.edits ≡ edits_after inverse z.state → y.edits ≡ edits_after inverse x.state
  edits_carried y inverse e = e ∙ ap (λ is. inverse ∷ take 31 is) k.edits

  pub number_carried : (y : EngineState) → y.number ≡ one_more z.state.number → y.number ≡ one_more x.state.number
  number_carried y e = e ∙ ap one_more k.number
