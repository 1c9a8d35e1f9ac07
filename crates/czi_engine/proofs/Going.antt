-- A prepared plan on an engine that has a state: made before memory was taken, it is the plan of the engine that has the memory; it is a step of the machine, and the engine afterwards has the next state.
use Rattle.std.proofs.Common.{◌≡◌, ℕ, zero, suc, ◌<◌, ◌≤◌, List, [], ◌∷◌, ◌++◌, map, filter, take, length, Option, Some, option_map, option_to_list, Bool, None, Result, refl, sym, ap, ◌∙◌, subst, arith, inl, inr, ◌+◌, ◌^◌}
use Rattle.std.specs.Prelude.{IsTrue}
use Rattle.std.specs.List.{AllByRecursion}
use Rattle.std.proofs.lemmas.Bool.{cases_Bool}
use Rattle.std.proofs.lemmas.List.{map-append}
use Rattle.std.proofs.lemmas.Simd.{map-map}
use Rattle.std.specs.Option.{ForSome}
use Rattle.czi_format.specs.Bytes.{bytes_at}
use Rattle.czi_format.specs.Layout.{Place, Layout}
use Rattle.czi_format.specs.Live.{Live, Tile, AttItem, MetaItem}
use Rattle.czi_format.specs.Segment.{Segment, extent}
use Rattle.czi_format.specs.Span.{Span, end_of, AreDisjoint, sorted, span_le, IsWhole}
use Rattle.czi_format.specs.Space.{without}
use Rattle.czi_commit.specs.Filled.{AreFree, filled}
use Rattle.czi_commit.specs.Made.{Fits, Step, made, step_of}
use Rattle.czi_image.specs.Applied.{IsChanged, layout_after, CanChange, IsSame, directory_after, live_after}
use Rattle.czi_image.specs.Change.{live_change_of, AreWithin, acts_of, setting_of, directory_set, directory_in, attdir_in}
use Rattle.czi_image.specs.Holds.{LiesAs, tile_place, att_item_place, meta_item_place}
use Rattle.czi_image.proofs.Changed.{holds_changed, lies_changed}
use Rattle.czi_links.specs.Record.{Bytes}
use Rattle.czi_machine.specs.Cover.{cover}
use Rattle.czi_machine.specs.Edit.{Refusal}
use Rattle.czi_machine.specs.Machine.{one_more}
use Rattle.czi_machine.specs.State.{Former, Items, State, items_of, item_spans, spans_of}
use Rattle.czi_machine.specs.LiveChange.{LiveChange, changed_live, SpansAt}
use Rattle.czi_machine.specs.Written.{Wrote}
use Rattle.czi_machine.proofs.Cover.{between_in}
use Rattle.czi_machine.proofs.Leaving.{among_covers}
use Rattle.czi_machine.proofs.Tiled.{All-weaken}
use Rattle.czi_num.specs.Span.{span_of}
use Rattle.czi_num.specs.declared.span.Span.{Span as CodeSpan}
use Rattle.czi_plan.specs.Pieces.{writes_of, AreNear, last_end, pieces_of}
use Rattle.czi_plan.specs.Plan.{IsPlan, LiesFree as LiesFreeIn, extents_after, freed_of, left_directory, left_items, left_places, usable_of, used_of}
use Rattle.czi_rig.specs.Disk.{Covers}
use Rattle.czi_vault.specs.Puts.{ranges}
use Rattle.czi_image.specs.Spans.{AreFree as AreFreeExtents, live_spans}
use Rattle.czi_image.specs.View.{tile_of, att_item_of, meta_item_of}
use Rattle.czi_image.specs.declared.change.Change.{Change}
use Rattle.czi_image.specs.declared.index.Index.{Index}
use Rattle.czi_machine.specs.Change.{changed, mapped, mapped_setting, omitted, set, set_omitted}
use Rattle.czi_machine.specs.Planned.{Plans}
use Rattle.czi_plan.specs.Geometry.{AreUsed, AreFreed}
use Rattle.czi_plan.specs.declared.plan.EditPlan.{EditPlan}
use Rattle.czi_region.specs.declared.block.Region.{Region}
use Rattle.czi_space.specs.State.{MapState, Has}
use Rattle.czi_engine.specs.Commit.{IsPlanned, made_of, pieces_in}
use Rattle.czi_engine.specs.Free.{LiesFree}
use Rattle.czi_engine.specs.Holes.{AreHigh, view_of}
use Rattle.czi_engine.specs.Moment.{AlikeInItems}
use Rattle.czi_plan.specs.Apart.{item_segments, BringsApart}
use Rattle.czi_engine.specs.Prepared.{GoesBy, HasMemory, IsPrepared}
use Rattle.czi_undo.specs.Holding.{holds_of}
use Rattle.czi_undo.specs.declared.inverse.Inverse.{Inverse}
use Rattle.czi_engine.specs.Standing.{BringBack, FewKept, HasItsMap, HasState, HoldBack, IsKept, KeepsItems, Origin, file_of, is_among, origin_in}
use Rattle.czi_engine.specs.Stands.{StandsOn}
use Rattle.czi_engine.specs.declared.engine.Engine.{Engine}
use Rattle.czi_engine.specs.declared.engine.EngineState.{EngineState}
use Rattle.czi_engine.proofs.Committed.{commit_stands}
use Rattle.czi_engine.proofs.Made.{made_wrote}
use Rattle.czi_engine.proofs.Fitting.{fits_step, image_length, held_cover, map_deleted, map_length}
use Rattle.czi_engine.proofs.Outside.{holes_high}
use Rattle.czi_engine.proofs.Reading.{commit_leaves}
use Rattle.czi_engine.proofs.Keeping.{commit_touches, items_reached, live_inside, same_span_bytes, stays_same}
use Rattle.czi_engine.proofs.Writable.{filled_in_view, free_in_view}
use Rattle.czi_engine.specs.Editing.{AsBefore, Goes}
use Rattle.czi_engine.specs.declared.engine.Scratch.{Scratch}
use Rattle.czi_engine.proofs.Same.{same_has}

-- items have the places of their segments
places_of : {X : Type 0} (f : X → Segment) (ps : List Place) (xs : List X) → map (λ (p : Place). p.span) ps ≡ map (λ x. extent (f x)) xs → spans_of ps ≡ map extent (map f xs)
places_of f ps xs e = e ∙ sym (map-map extent f xs)

place_of : {X : Type 0} (f : X → Segment) (p : Option Place) (x : Option X) → option_map (λ (p : Place). p.span) p ≡ option_map (λ x. extent (f x)) x → spans_of (option_to_list p) ≡ map extent (option_to_list (option_map f x))
place_of f None None e = refl
place_of f None (Some x) e = absurd (cc (e))
place_of f (Some p) None e = absurd (cc (e))
place_of f (Some p) (Some x) e = let one : p.span ≡ extent (f x) = cc (e) in ap (λ s. s ∷ []) one

pub items_at : (l : Layout) (live : Live) → SpansAt l live → item_spans (items_of l) ≡ map extent (item_segments live)
items_at l live at =
    let T : List Segment = map (λ (t : Tile). t.segment) live.tiles in
    let A : List Segment = map (λ (a : AttItem). a.segment) live.attachments in
    let M : List Segment = option_to_list (option_map (λ (m : MetaItem). m.segment) live.metadata) in
    let span : Place → Span = λ p. p.span in
    let left : item_spans (items_of l) ≡ spans_of l.subblocks ++ (spans_of l.attachments ++ spans_of (option_to_list l.metadata)) =
    map-append span l.subblocks (l.attachments ++ option_to_list l.metadata) ∙ ap (λ z. spans_of l.subblocks ++ z) (map-append span l.attachments (option_to_list l.metadata)) in
    let right : map extent (item_segments live) ≡ map extent T ++ (map extent A ++ map extent M) = map-append extent T (A ++ M) ∙ ap (λ z. map extent T ++ z) (map-append extent A M) in
    left ∙ ((λ k. places_of (λ (t : Tile). t.segment) l.subblocks live.tiles at.subblocks k ++ (places_of (λ (a : AttItem). a.segment) l.attachments live.attachments at.attachments k ++ place_of (λ (m : MetaItem). m.segment) l.metadata live.metadata at.metadata k)) ∙ sym right)

-- what is picked of a list
all_picked : {X : Type 0} (P Q : X → Type 0) (q : X → Bool) (xs : List X) → ((x : X) → P x → IsTrue (q x) → Q x) → AllByRecursion P xs → AllByRecursion Q (filter q xs)
all_picked P Q q [] both all = tt
all_picked P Q q (x ∷ xs) both all = elim (cases_Bool (q x)) [
  | inl e ↦ rw e (both x all.0 e, all_picked P Q q xs both all.1)
  | inr e ↦ rw e (all_picked P Q q xs both all.1)
]

-- what the plan of an engine writes and commits, what it makes of what is live, and of an image
abbrev pub step : Engine → Step
step x = step_of (file_of x.state) x.scratch.region x.scratch.plan

abbrev pub turn : Engine → LiveChange
turn x = live_change_of x.scratch.plan.change x.state.index

abbrev pub made_by : Engine → List ℕ → List ℕ
made_by x bytes = made x.state.index.length (step x) bytes

module _ (o : Origin) (bytes : List ℕ) (live : Live) (s : State) (x : Engine) (has : HasState o bytes live s x.state) (own : HasItsMap x.state)
    (plan : IsPlan x.state.index x.state.map x.scratch.region x.scratch.plan) where
  pub high : AreHigh s
  high = holes_high o.bytes bytes live s has.stands

  long : length bytes ≡ x.state.index.length
  long = image_length o bytes live s x.state has

  fits : Fits (length bytes) (step x)
  fits = subst (λ (n : ℕ). Fits n (step x)) (sym long) (fits_step x.state x.scratch.region x.scratch.plan own plan)

  made_same : made_of (step x) bytes ≡ (made_by x bytes)
  made_same = ap (λ (n : ℕ). made n (step x) bytes) long

  -- what is written before the commit goes where nothing is needed
  pub writes_free : AreFree (view_of bytes s high) (filled x.state.index.length (writes_of x.scratch.region x.scratch.plan))
  writes_free =
      let ws : List Bytes = writes_of x.scratch.region x.scratch.plan in
      let m = x.state.map in
      let here : (w : Bytes) → LiesFreeIn m w → LiesFree m.held s.layout.deleted s.layout.length w.place (length w.bytes) =
      λ w free. subst (λ (n : ℕ). LiesFree m.held s.layout.deleted n w.place (length w.bytes)) (map_length o bytes live s x.state has own)
      (subst (λ (es : List Span). LiesFree m.held es m.length w.place (length w.bytes)) (map_deleted o bytes live s x.state has own) free) in
      let free : AreFree (view_of bytes s high) ws = free_in_view o.bytes bytes live s high m.held ws has.stands
      (λ k some. omega (arith, some, held_cover o bytes live s x.state k has, ap (λ (hs : List Span). cover hs k) own.held))
      (All-weaken (LiesFreeIn m) _ here ws plan.free) in
      subst (λ (n : ℕ). AreFree (view_of bytes s high) (filled n ws)) long (filled_in_view bytes s high ws free)

  module _ (go : State → Result State Refusal) (kept : List Inverse) (by : GoesBy go bytes live s x kept) where
    planned : IsPlanned bytes live s by.state (turn x) (step x)
    planned = record {
      effect = by.effect;
      leads = by.leads;
      document = by.document;
      spans = by.spans;
      plans = by.plans;
      length = sym (ap (λ (l : Layout). l.length) by.layout);
    }

    pub leaves_100 : Covers (ranges x.scratch.plan.links.links) 100 → ⊥
    leaves_100 = commit_leaves o.bytes bytes live s by.state (turn x) (step x) has.stands planned

    pub stands_next : StandsOn o.bytes (made_by x bytes) (changed_live (turn x) live) by.state
    stands_next = subst (λ (z : List ℕ). StandsOn o.bytes z (changed_live (turn x) live) by.state) made_same (commit_stands o.bytes bytes live s by.state (turn x) (step x) has.stands planned fits)

    pub touches : AlikeInItems (view_of bytes s high) (made_by x bytes)
    touches = subst (AlikeInItems (view_of bytes s high)) made_same (commit_touches o.bytes bytes live s by.state (turn x) (step x) high has.stands planned fits by.apart)

    -- an item of both states keeps its bytes
    same_items : (z : Span) → IsTrue (is_among (item_spans (items_of s.layout)) z) → IsTrue (is_among (item_spans (items_of by.state.layout)) z) → bytes_at (made_by x bytes) z.at z.len ≡ bytes_at bytes z.at z.len
    same_items z before after =
        let in_old : (k : ℕ) → z.at ≤ k → k < end_of z → 1 ≤ cover (map extent (item_segments live)) k =
        λ k from to. omega (arith, between_in z.at (end_of z) k from to, among_covers z (item_spans (items_of s.layout)) k before, ap (λ (ss : List Span). cover ss k) (items_at s.layout live has.stands.lies.extents)) in
        let in_new : (k : ℕ) → z.at ≤ k → k < end_of z → 1 ≤ cover (map extent (item_segments (changed_live (turn x) live))) k =
        λ k from to. omega (arith, between_in z.at (end_of z) k from to, among_covers z (item_spans (items_of by.state.layout)) k after, ap (λ (ss : List Span). cover ss k) (items_at by.state.layout (changed_live (turn x) live) by.spans)) in
        let wrote = (made_wrote bytes (step x) fits).0 in
        let next = stands_next in
        same_span_bytes (made_by x bytes) bytes z (λ k from to.
        let small : k < length (made_by x bytes) = live_inside (made_by x bytes) (changed_live (turn x) live) by.state k next.lies next.tidy (omega (arith, in_new k from to, items_reached (changed_live (turn x) live) k)) in (
          small,
          live_inside bytes live s k has.stands.lies has.stands.tidy (omega (arith, in_old k from to, items_reached live k)),
          stays_same bytes (made_by x bytes) live s by.state (turn x) (pieces_in (step x)) has.stands.lies has.stands.tidy by.leads by.spans by.plans.around.inside (subst (λ (z : List ℕ). Wrote bytes z (pieces_in (step x))) made_same wrote) by.apart k (in_old k from to) (in_new k from to) small,
        ))

    pub kept_next : KeepsItems (origin_in o by.state) (made_by x bytes) by.state.layout
    kept_next = all_picked (IsKept o bytes s.layout) (IsKept (origin_in o by.state) (made_by x bytes) by.state.layout) (is_among (item_spans (items_of by.state.layout))) o.items
        (λ z was there. record { there = there; same = same_items z was.there there ∙ was.same }) has.kept

    -- the engine that has the index, the edits and the number afterwards
    pub has_next : (y : EngineState) → IsChanged x.scratch.plan.change y.index.extents.items x.scratch.plan.length x.state.index y.index → map span_of y.index.extents.items ≡ extents_after x.scratch.plan x.state.map.extents
        → y.edits ≡ kept → y.number ≡ one_more x.state.number → HasState (origin_in o by.state) (made_by x bytes) (changed_live (turn x) live) by.state y
    has_next y index extents edits number =
        let p = x.scratch.plan in
        let lies : layout_after p.change (map span_of y.index.extents.items) p.length s.layout ≡ by.state.layout =
        ap (λ (es : List Span). layout_after p.change es p.length s.layout) (extents ∙ ap (extents_after p) (map_deleted o bytes live s x.state has own)) ∙ sym by.layout in
        let wrote = made_wrote bytes (step x) fits in
        let here = subst (λ (z : List ℕ). Wrote bytes z (pieces_in (step x)) × (length z ≡ p.length)) made_same (wrote.0, wrote.1) in
        let back : BringBack (made_by x bytes) (changed_live (turn x) live) by.state kept = by.back (made_by x bytes) here.0 (here.1 ∙ sym (ap (λ (l : Layout). l.length) by.layout)) in
        record {
          stands = stands_next;
          holds = holds_changed p.change y.index.extents.items p.length x.state.index y.index live index has.holds;
          lies = subst (λ (l : Layout). LiesAs l y.index) lies (lies_changed p.change y.index.extents.items p.length x.state.index y.index s.layout index has.lies);
          edits = subst (λ (is : List Inverse). HoldBack (items_of by.state.layout) by.state.formers (map holds_of is)) (sym edits) by.holds;
          back = subst (BringBack (made_by x bytes) (changed_live (turn x) live) by.state) (sym edits) back;
          number = number ∙ (ap one_more has.number ∙ sym by.number);
          kept = kept_next;
        }

module _ (old new : Index) (same : IsSame old new) where
  lives : live_spans new.header new.directory new.tiles.items new.attdir new.attachments.items new.metadata ≡ live_spans old.header old.directory old.tiles.items old.attdir old.attachments.items old.metadata
  lives = λ i. live_spans (same.header i) (same.directory i) (same.tiles i) (same.attdir i) (same.attachments i) (same.metadata i)

  lives_after : (c : Change) → live_after c new ≡ live_after c old
  lives_after c = λ i. live_spans (same.header i) (directory_after c.directory (same.directory i)) (changed (acts_of c.tiles.items) (same.tiles i)) (directory_after c.attdir (same.attdir i)) (changed (acts_of c.attachments.items) (same.attachments i)) (set (setting_of c.metadata) (same.metadata i))

  items_left : (c : Change) → left_items c new ≡ left_items c old
  items_left c = λ i. map tile_place (omitted (acts_of c.tiles.items) (same.tiles i))
      ++ (map att_item_place (omitted (acts_of c.attachments.items) (same.attachments i)) ++ option_to_list (option_map meta_item_place (set_omitted (setting_of c.metadata) (same.metadata i))))

  places_left : (c : Change) → left_places c new ≡ left_places c old
  places_left c = λ i. items_left c i ++ (left_directory c.directory (same.directory i) ++ left_directory c.attdir (same.attdir i))

  turn_same : (c : Change) → live_change_of c new ≡ live_change_of c old
  turn_same c = λ i. record {
    directory = directory_set (λ s. directory_in s (map (λ (t : Tile). t.entry) (changed (mapped tile_of (acts_of c.tiles.items)) (map tile_of (same.tiles i))))) c.directory (same.directory i);
    tiles = mapped tile_of (acts_of c.tiles.items);
    attdir = directory_set (λ s. attdir_in s (map (λ (a : AttItem). a.entry) (changed (mapped att_item_of (acts_of c.attachments.items)) (map att_item_of (same.attachments i))))) c.attdir (same.attdir i);
    attachments = mapped att_item_of (acts_of c.attachments.items);
    metadata = mapped_setting meta_item_of (setting_of c.metadata);
  }

  can_same : (c : Change) (es : List Span) (n : ℕ) → CanChange c es n old → CanChange c es n new
  can_same c es n can = record {
    tiles = subst (λ ts. AreWithin c.tiles.items (length ts)) (sym same.tiles) can.tiles;
    attachments = subst (λ as'. AreWithin c.attachments.items (length as')) (sym same.attachments) can.attachments;
    few_tiles = subst (λ ts. length (changed (acts_of c.tiles.items) ts) ≤ 2 ^ 20) (sym same.tiles) can.few_tiles;
    few_attachments = subst (λ as'. length (changed (acts_of c.attachments.items) as') ≤ 2 ^ 12) (sym same.attachments) can.few_attachments;
    longer = subst (λ (k : ℕ). k ≤ n) (sym same.length) can.longer;
    small = can.small;
    inside = subst (AllByRecursion (λ (s : Span). end_of s ≤ n)) (sym (lives_after c)) can.inside;
    disjoint = subst AreDisjoint (sym (lives_after c)) can.disjoint;
    free = subst (λ (ss : List Span). AreFreeExtents n ss es) (sym (lives_after c)) can.free;
  }

  module _ (m m' : MapState) (map_is : Has m' m.extents m.held m.length) where
    free_same : (w : Bytes) → LiesFreeIn m w → LiesFreeIn m' w
    free_same w free = subst (λ (es : List Span). LiesFreeIn (record m' { extents = es }) w) (sym map_is.extents)
        (subst (λ (hs : List Span). LiesFreeIn (record m' { extents = m.extents; held = hs }) w) (sym map_is.held)
        (subst (λ (n : ℕ). LiesFreeIn (record m' { extents = m.extents; held = m.held; length = n }) w) (sym map_is.length) free))

    pub plan_same : (region : Region) (p : EditPlan) → IsPlan old m region p → IsPlan new m' region p
    plan_same region p plan = record {
      staged = plan.staged;
      free = All-weaken (LiesFreeIn m) (LiesFreeIn m') free_same (writes_of region p) plan.free;
      far = plan.far;
      near = subst (λ (n : ℕ). AreNear n (writes_of region p)) (sym map_is.length) plan.near;
      reach = subst (λ (n : ℕ). p.length ≤ last_end n (writes_of region p)) (sym map_is.length) plan.reach;
      fits = subst (λ (n : ℕ). last_end n (writes_of region p) ≤ 2 ^ 62) (sym map_is.length) plan.fits;
      rising = plan.rising;
      within = plan.within;
      brief = plan.brief;
      once = plan.once;
      takes = subst (λ (n : ℕ). AreUsed n (used_of p) m'.extents) (sym map_is.length) (subst (AreUsed m.length (used_of p)) (sym map_is.extents) plan.takes);
      frees = subst (λ (n : ℕ). AreFreed n (freed_of p) (without (used_of p) m'.extents)) (sym map_is.length) (subst (λ (es : List Span). AreFreed m.length (freed_of p) (without (used_of p) es)) (sym map_is.extents) plan.frees);
      in_order = plan.in_order;
      freed = plan.freed ∙ ap (λ ps. sorted span_le (usable_of ps)) (sym (places_left p.change));
      held = plan.held ∙ ap usable_of (sym (items_left p.change));
      apart = λ q. subst (λ (ss : List Span). cover ss q + cover (used_of p) q ≤ 1) (sym lives) (plan.apart q);
      can = subst (λ (es : List Span). CanChange p.change (extents_after p es) p.length new) (sym map_is.extents) (can_same p.change (extents_after p m.extents) p.length plan.can);
    }

-- an engine is as another one was
pub before_back : (a b : EngineState) → AsBefore a b → AsBefore b a
before_back a b p = record {
  journal = sym p.journal;
  index = record {
    header = sym p.index.header;
    length = sym p.index.length;
    directory = sym p.index.directory;
    tiles = sym p.index.tiles;
    attdir = sym p.index.attdir;
    attachments = sym p.index.attachments;
    metadata = sym p.index.metadata;
    extents = sym p.index.extents;
    unknown = sym p.index.unknown;
    walk_end = sym p.index.walk_end;
  };
  map = record { extents = sym p.map.extents; held = sym p.map.held; length = sym p.map.length };
  edits = sym p.edits;
  number = sym p.number;
  down = sym p.down;
}

pub before_here : (a : EngineState) → AsBefore a a
before_here a = record {
  journal = refl;
  index = record { header = refl; length = refl; directory = refl; tiles = refl; attdir = refl; attachments = refl; metadata = refl; extents = refl; unknown = refl; walk_end = refl };
  map = record { extents = refl; held = refl; length = refl };
  edits = refl;
  number = refl;
  down = refl;
}

-- what a plan is on a state, told by an engine that was as this one
goes_same : (go : Goes) (bytes : List ℕ) (live : Live) (s : State) (x y : Engine) (kept : List Inverse) → AsBefore x.state y.state → y.scratch ≡ x.scratch → GoesBy go bytes live s x kept → GoesBy go bytes live s y kept
goes_same go bytes live s x y kept same scratch by =
    let z : Engine = record { state = y.state; scratch = x.scratch } in
    let turn : live_change_of x.scratch.plan.change y.state.index ≡ live_change_of x.scratch.plan.change x.state.index = turn_same x.state.index y.state.index same.index x.scratch.plan.change in
    let here : GoesBy go bytes live s z kept = record {
      state = by.state;
      goes = by.goes;
      leads = by.leads;
      effect = by.effect;
      document = by.document;
      layout = by.layout;
      spans = subst (λ (t : LiveChange). SpansAt by.state.layout (changed_live t live)) (sym turn) by.spans;
      plans = subst (λ (t : LiveChange). Plans bytes s.layout by.state.layout live by.effect t (pieces_of x.scratch.region x.scratch.plan)) (sym turn) by.plans;
      apart = subst (BringsApart live) (sym turn) by.apart;
      holds = by.holds;
      back = λ other wrote long. subst (λ (t : LiveChange). BringBack other (changed_live t live) by.state kept) (sym turn) (by.back other wrote long);
      number = by.number;
    } in
    subst (λ (c : Scratch). GoesBy go bytes live s (record { state = y.state; scratch = c }) kept) (sym scratch) here

-- so the plan stays prepared
pub prepared_after : (go : Goes) (x y : Engine) (kept : List Inverse) → AsBefore x.state y.state → y.scratch ≡ x.scratch → HasMemory y.state y.scratch.plan → FewKept kept → IsPlan x.state.index x.state.map x.scratch.region x.scratch.plan
    → ((o : Origin) (bytes : List ℕ) (live : Live) (s : State) → HasState o bytes live s x.state → GoesBy go bytes live s x kept) → IsPrepared go y kept
prepared_after go x y kept same scratch memory few plan means = record {
  plan = subst (λ (c : Scratch). IsPlan y.state.index y.state.map c.region c.plan) (sym scratch) (plan_same x.state.index y.state.index same.index x.state.map y.state.map same.map x.scratch.region x.scratch.plan plan);
  memory = memory;
  few = few;
  means = λ o bytes live s has. goes_same go bytes live s x y kept same scratch (means o bytes live s (same_has y.state x.state (before_back x.state y.state same) o bytes live s has));
}
