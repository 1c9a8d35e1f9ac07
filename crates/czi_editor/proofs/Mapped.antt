-- The map of an engine is that of its state.
use Rattle.std.proofs.Common.{◌≡◌, ℕ, List, [], ◌∷◌, ◌++◌, map, filter, Option, Some, None, option_to_list, refl, ap, sym, ◌∙◌}
use Rattle.std.proofs.lemmas.List.Elements.{filter-append}
use Rattle.czi_format.specs.Live.{Live}
use Rattle.czi_format.specs.Span.{Span, inserted, sorted, span_le}
use Rattle.czi_machine.specs.Places.{can_be_used}
use Rattle.czi_machine.specs.State.{Items, Former, State, item_places, item_spans, items_of, not_among, spans_of, held_by as held_places}
use Rattle.czi_machine.proofs.Asking.{spans-append}
use Rattle.czi_num.specs.Span.{span_of}
use Rattle.czi_num.specs.declared.span.Span.{Span as CodeSpan}
use Rattle.czi_report.specs.States.{map_of}
use Rattle.czi_report.specs.Text.{map_text}
use Rattle.czi_space.specs.State.{space_of}
use Rattle.czi_engine.specs.Standing.{HasItsMap, HasState, HoldBack, Origin, held_by, spans_held}
use Rattle.czi_engine.specs.declared.engine.EngineState.{EngineState}
use Rattle.czi_engine.proofs.Fitting.{map_length, same_space}

-- one more edit, before others that hold these spans back
one_more_sorted : (e : Option CodeSpan) (edits : List (Option CodeSpan)) (spans : List Span) → held_by edits ≡ sorted span_le spans → held_by (e ∷ edits) ≡ sorted span_le (map span_of (option_to_list e) ++ spans)
one_more_sorted None edits spans is = is
one_more_sorted (Some s) edits spans is = ap (inserted span_le (span_of s)) is

-- edits hold back, in order of place, what formers that can be used again have more
held_sorted : (newer : Items) (formers : List Former) (edits : List (Option CodeSpan)) → HoldBack newer formers edits → held_by edits ≡ sorted span_le (spans_of (filter can_be_used (held_places newer formers)))
held_sorted newer [] [] back = refl
held_sorted newer [] (e ∷ edits) back = absurd back
held_sorted newer (f ∷ formers) [] back = absurd back
held_sorted newer (f ∷ formers) (e ∷ edits) back =
    let first = not_among (item_spans newer) (item_places f.items) in
    let older = held_places f.items formers in
    let rest = spans_of (filter can_be_used older) in
    let parts = ap spans_of (filter-append can_be_used first older) ∙ spans-append (filter can_be_used first) (filter can_be_used older) in
    one_more_sorted e edits rest (held_sorted f.items formers edits back.2) ∙ (ap (λ (ss : List Span). sorted span_le (ss ++ rest)) back.0 ∙ ap (sorted span_le) (sym parts))

pub maps_state : (o : Origin) (bytes : List ℕ) (live : Live) (s : State) (x : EngineState) → HasState o bytes live s x → HasItsMap x → map_text x.map.length (space_of x.map).runs x.map.held ≡ map_of s
maps_state o bytes live s x has own =
    let held = own.held ∙ held_sorted (items_of s.layout) s.formers (spans_held x) has.edits in
    λ k. map_text (map_length o bytes live s x has own k) (same_space o bytes live s x has own k).runs (held k)
