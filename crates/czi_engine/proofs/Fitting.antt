-- A plan on an engine can be written and committed.
use Rattle.std.proofs.Common.{◌≡◌, ℕ, ◌+◌, List, [], ◌∷◌, ◌++◌, map, filter, Option, Some, None, option_to_list, refl, ap, sym, ◌∙◌, arith, ◌≤◌, ◌^◌, take, drop, length, subst}
use Rattle.std.proofs.lemmas.List.Elements.{filter-append}
use Rattle.std.specs.List.{AllByRecursion}
use Rattle.czi_format.specs.Layout.{Place}
use Rattle.czi_format.specs.Live.{Live, FileHeader}
use Rattle.czi_format.specs.Space.{free_runs}
use Rattle.czi_format.specs.Bytes.{bytes_at}
use Rattle.czi_format.specs.Span.{span_le, IsWhole}
use Rattle.czi_format.proofs.Local.{header_fronts, part_of_part}
use Rattle.czi_machine.specs.Cover.{cover}
use Rattle.czi_machine.specs.Places.{can_be_used, space_of}
use Rattle.czi_machine.specs.Sound.{usable_held}
use Rattle.czi_machine.specs.State.{Items, Former, State, items_of, item_places, item_spans, spans_of, not_among, held_by as held_places}
use Rattle.czi_num.specs.Span.{span_of}
use Rattle.czi_num.specs.declared.span.Span.{Span as CodeSpan}
use Rattle.czi_space.specs.State.{space_of as map_space, AreExtents}
use Rattle.czi_engine.specs.Standing.{held_by, HasItsMap, HoldBack, HasState, Origin, AreWhole, file_of, spans_held}
use Rattle.czi_engine.specs.declared.engine.EngineState.{EngineState}
use Rattle.czi_commit.specs.Made.{Fits, step_of}
use Rattle.czi_plan.specs.Conditions.{IsMapOf}
use Rattle.czi_plan.specs.Pieces.{AreNear, last_end, writes_of}
use Rattle.czi_plan.specs.Plan.{IsPlan}
use Rattle.czi_plan.specs.declared.plan.EditPlan.{EditPlan}
use Rattle.czi_region.specs.declared.block.Region.{Region}
use Rattle.czi_machine.proofs.Asking.{spans-append}
use Rattle.czi_machine.proofs.Cover.{cover-append, cover-inserted}
use Rattle.czi_machine.proofs.SameRuns.{usable_space}
use Rattle.czi_engine.proofs.Fresh.{extents_of_index}
use Rattle.czi_machine.proofs.Tiled.{All-inserted}

-- The map of an engine leaves the space that the machine's state does.

-- the places of what one edit holds back, and of the others
one_more_held : (e : Option CodeSpan) (edits : List (Option CodeSpan)) (p : ℕ) → cover (held_by (e ∷ edits)) p ≡ cover (map span_of (option_to_list e)) p + cover (held_by edits) p
one_more_held None edits p = omega arith
one_more_held (Some s) edits p = omega (arith, cover-inserted (span_of s) (held_by edits) p)

usable-append : (xs ys : List Place) (p : ℕ) → cover (spans_of (filter can_be_used (xs ++ ys))) p ≡ cover (spans_of (filter can_be_used xs)) p + cover (spans_of (filter can_be_used ys)) p
usable-append xs ys p =
    ap (λ ps. cover (spans_of ps) p) (filter-append can_be_used xs ys)
    ∙ (ap (λ ss. cover ss p) (spans-append (filter can_be_used xs) (filter can_be_used ys)) ∙ cover-append (spans_of (filter can_be_used xs)) (spans_of (filter can_be_used ys)) p)

held_same : (newer : Items) (formers : List Former) (edits : List (Option CodeSpan)) (p : ℕ) → HoldBack newer formers edits → cover (held_by edits) p ≡ cover (spans_of (filter can_be_used (held_places newer formers))) p
held_same newer [] [] p back = refl
held_same newer [] (e ∷ edits) p back = absurd back
held_same newer (f ∷ formers) [] p back = absurd back
held_same newer (f ∷ formers) (e ∷ edits) p back = omega (
  arith,
  one_more_held e edits p,
  ap (λ ss. cover ss p) back.0,
  held_same f.items formers edits p back.2,
  usable-append (not_among (item_spans newer) (item_places f.items)) (held_places f.items formers) p,
)

pub held_cover : (o : Origin) (bytes : List ℕ) (live : Live) (s : State) (x : EngineState) (p : ℕ) → HasState o bytes live s x → cover (held_by (spans_held x)) p ≡ cover (usable_held s) p
held_cover o bytes live s x p has = held_same (items_of s.layout) s.formers (spans_held x) p has.edits

-- the extents and the length of the map are those of the layout
pub map_deleted : (o : Origin) (bytes : List ℕ) (live : Live) (s : State) (x : EngineState) → HasState o bytes live s x → HasItsMap x → x.map.extents ≡ s.layout.deleted
map_deleted o bytes live s x has own = own.extents ∙ has.lies.deleted

pub map_length : (o : Origin) (bytes : List ℕ) (live : Live) (s : State) (x : EngineState) → HasState o bytes live s x → HasItsMap x → x.map.length ≡ s.layout.length
map_length o bytes live s x has own = own.length ∙ has.lies.length

pub same_space : (o : Origin) (bytes : List ℕ) (live : Live) (s : State) (x : EngineState) → HasState o bytes live s x → HasItsMap x → map_space x.map ≡ space_of s
same_space o bytes live s x has own =
    let runs : free_runs x.map.held x.map.extents ≡ free_runs (held_by (spans_held x)) s.layout.deleted = λ i. free_runs (own.held i) (map_deleted o bytes live s x has own i) in
    let both : map_space x.map ≡ record { runs = free_runs (held_by (spans_held x)) s.layout.deleted; length = s.layout.length } = λ i. record { runs = runs i; length = map_length o bytes live s x has own i } in
    both ∙ sym (usable_space s (held_by (spans_held x)) has.stands.tidy (λ p. held_cover o bytes live s x p has))

-- held spans begin and end at multiples of 32
held_whole : (edits : List (Option CodeSpan)) → AreWhole edits → AllByRecursion IsWhole (held_by edits)
held_whole [] all = tt
held_whole (None ∷ edits) all = held_whole edits all.1
held_whole (Some s ∷ edits) all = All-inserted IsWhole span_le (span_of s) (held_by edits) (all.0 s refl) (held_whole edits all.1)

pub its_map : (x : EngineState) → HasItsMap x → AreWhole (spans_held x) → IsMapOf x.index x.map
its_map x own whole = record {
  extents = sym own.extents;
  length = sym own.length;
  held = subst (AllByRecursion IsWhole) (sym own.held) (held_whole (spans_held x) whole);
}

pub fits_step : (x : EngineState) (region : Region) (p : EditPlan) → HasItsMap x → IsPlan x.index x.map region p → Fits x.index.length (step_of (file_of x) region p)
fits_step x region p own plan = record {
  header = omega (arith, x.index.headed, x.index.inside.0);
  behind = plan.far;
  near = subst (λ (n : ℕ). AreNear n (writes_of region p)) own.length plan.near;
  small = subst (λ (n : ℕ). last_end n (writes_of region p) ≤ 2 ^ 62) own.length plan.fits;
  least = omega (arith, x.index.headed, plan.can.inside.0);
  long = subst (λ (n : ℕ). p.length ≤ last_end n (writes_of region p)) own.length plan.reach;
  ends = plan.within;
  brief = plan.brief;
}

-- the map's extents are one behind another
pub map_rises : (x : EngineState) → HasItsMap x → AreExtents 0 x.map.length x.map.extents
map_rises x own = subst (λ (n : ℕ). AreExtents 0 n x.map.extents) (sym own.length) (subst (AreExtents 0 x.index.length) (sym own.extents) (extents_of_index x.index))

-- the GUID that the index has is the image's
pub image_guid : (o : Origin) (bytes : List ℕ) (live : Live) (s : State) (x : EngineState) → HasState o bytes live s x → take 16 (drop 64 bytes) ≡ (file_of x).guid
unfolding bytes_at
image_guid o bytes live s x has =
    let fields = (header_fronts bytes live.header has.stands.lies.reaches.header).0.fields in
    let own : x.index.header.identity ≡ bytes_at bytes 32 52 = has.holds.header.identity ∙ sym (ap (λ (h : FileHeader). h.identity) fields) in
    sym (ap (λ (b : List ℕ). bytes_at b 32 16) own ∙ part_of_part bytes 32 52 32 16 (omega arith))

pub image_length : (o : Origin) (bytes : List ℕ) (live : Live) (s : State) (x : EngineState) → HasState o bytes live s x → length bytes ≡ x.index.length
image_length o bytes live s x has = sym (has.lies.length ∙ has.stands.lies.length)
