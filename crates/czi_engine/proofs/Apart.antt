-- What a plan brings lies where no item was live.
use Rattle.std.proofs.Common.{◌≡◌, ℕ, ◌+◌, ◌≤◌, List, [], ◌∷◌, ◌++◌, map, Bool, true, false, Option, Some, None, option_map, option_to_list, refl, ap, sym, ◌∙◌, arith}
use Rattle.std.proofs.lemmas.List.{map-append}
use Rattle.czi_format.specs.Layout.{Place}
use Rattle.czi_format.specs.Live.{Live, Directory, Tile, AttItem, MetaItem}
use Rattle.czi_format.specs.Segment.{Segment, extent}
use Rattle.czi_format.specs.Span.{Span}
use Rattle.czi_image.specs.Change.{live_change_of}
use Rattle.czi_image.specs.Holds.{LiesAs, tile_place, att_item_place, meta_item_place}
use Rattle.czi_image.specs.Spans.{directory_span, live_spans, tile_span, att_item_span, meta_item_span}
use Rattle.czi_machine.specs.Change.{Setting, same, to, brought, set_new}
use Rattle.czi_machine.specs.Cover.{cover}
use Rattle.czi_machine.specs.Edit.{DocumentEffect}
use Rattle.czi_machine.specs.InOrder.{LiesInOrder, StaysOrNew, directory_spans, tiles_stay, attachments_stay}
use Rattle.czi_machine.specs.Laws.{LiesInImage}
use Rattle.czi_machine.specs.Places.{directories}
use Rattle.czi_machine.specs.Sound.{IsDisjointState}
use Rattle.czi_machine.specs.State.{State, items_of, item_spans, spans_of}
use Rattle.czi_machine.specs.LiveChange.{LiveChange, new_segments}
use Rattle.czi_machine.proofs.Asking.{spans-append}
use Rattle.czi_machine.proofs.Cover.{cover-append}
use Rattle.czi_machine.proofs.Placing.{cover-live_places}
use Rattle.czi_plan.specs.Plan.{used_of}
use Rattle.czi_plan.specs.declared.plan.EditPlan.{EditPlan}
use Rattle.czi_plan.specs.Apart.{BringsApart}
use Rattle.czi_engine.specs.declared.engine.EngineState.{EngineState}
use Rattle.czi_engine.proofs.Going.{items_at}
use Rattle.std.proofs.lemmas.Simd.{map-map}

abbrev segment_of : Directory → Segment
segment_of d = d.segment

-- a directory that is brought is new, or it lies where the old one lay
one_directory : (stay : Bool) (old : Option Place) (c : Setting Directory) (k : ℕ) → StaysOrNew stay old c
    → cover (map extent (option_to_list (option_map segment_of (set_new c)))) k ≤ cover (directory_spans stay c) k + cover (spans_of (option_to_list old)) k
one_directory true old same k is = omega arith
one_directory true old (to None) k is = absurd is
one_directory true None (to (Some d)) k is = absurd (cc (is))
one_directory true (Some p) (to (Some d)) k is = let one : p.span ≡ extent d.segment = cc (is) in omega (arith, ap (λ (s : Span). cover (s ∷ []) k) one)
one_directory false old same k is = omega arith
one_directory false old (to None) k is = omega arith
one_directory false old (to (Some d)) k is = omega arith

both : (xs ys : List Segment) (k : ℕ) → cover (map extent (xs ++ ys)) k ≡ cover (map extent xs) k + cover (map extent ys) k
both xs ys k = ap (λ l. cover l k) (map-append extent xs ys) ∙ cover-append (map extent xs) (map extent ys) k

one_twice : {X : Type 0} (f : X → Segment) (o : Option X) → map (λ x. extent (f x)) (option_to_list o) ≡ map extent (option_to_list (option_map f o))
one_twice f None = refl
one_twice f (Some x) = refl

-- what is brought lies in the spans, or where a directory lay
in_spans : (s : State) (e : DocumentEffect) (t : LiveChange) (spans : List Span) (k : ℕ) → LiesInOrder s e t spans → cover (map extent (new_segments t)) k ≤ cover spans k + cover (spans_of (directories s.layout)) k
in_spans s e t spans k order =
    let D : List Segment = option_to_list (option_map segment_of (set_new t.directory)) in
    let T : List Segment = map (λ (x : Tile). x.segment) (brought t.tiles) in
    let X : List Segment = option_to_list (option_map segment_of (set_new t.attdir)) in
    let A : List Segment = map (λ (x : AttItem). x.segment) (brought t.attachments) in
    let M : List Segment = option_to_list (option_map (λ (m : MetaItem). m.segment) (set_new t.metadata)) in
    let sT : List Span = map (λ (x : Tile). extent x.segment) (brought t.tiles) in
    let sA : List Span = map (λ (x : AttItem). extent x.segment) (brought t.attachments) in
    let sM : List Span = map (λ (m : MetaItem). extent m.segment) (option_to_list (set_new t.metadata)) in
    let sD : List Span = directory_spans (tiles_stay s e) t.directory in
    let sX : List Span = directory_spans (attachments_stay s e) t.attdir in
    omega (
      arith,
      both D (T ++ (X ++ (A ++ M))) k,
      both T (X ++ (A ++ M)) k,
      both X (A ++ M) k,
      both A M k,
      ap (λ l. cover l k) order.spans_are,
      cover-append sT (sA ++ (sM ++ (sD ++ sX))) k,
      cover-append sA (sM ++ (sD ++ sX)) k,
      cover-append sM (sD ++ sX) k,
      cover-append sD sX k,
      ap (λ l. cover l k) (sym (map-map extent (λ (x : Tile). x.segment) (brought t.tiles))),
      ap (λ l. cover l k) (sym (map-map extent (λ (x : AttItem). x.segment) (brought t.attachments))),
      ap (λ l. cover l k) (one_twice (λ (m : MetaItem). m.segment) (set_new t.metadata)),
      one_directory (tiles_stay s e) s.layout.directory t.directory k order.directory,
      one_directory (attachments_stay s e) s.layout.attdir t.attdir k order.attdir,
      ap (λ l. cover l k) (spans-append (option_to_list s.layout.directory) (option_to_list s.layout.attdir)),
      cover-append (spans_of (option_to_list s.layout.directory)) (spans_of (option_to_list s.layout.attdir)) k,
    )

span_option : {X : Type 0} (f : X → Place) (o : Option X) → spans_of (option_to_list (option_map f o)) ≡ option_to_list (option_map (λ x. (f x).span) o)
span_option f None = refl
span_option f (Some x) = refl

-- the items of an index are among what is live in it
items_live : (s : State) (x : EngineState) (k : ℕ) → LiesAs s.layout x.index
    → cover (item_spans (items_of s.layout)) k ≤ cover (live_spans x.index.header x.index.directory x.index.tiles.items x.index.attdir x.index.attachments.items x.index.metadata) k
items_live s x k lies =
    let i = x.index in
    let D : List Span = option_to_list (option_map directory_span i.directory) in
    let T : List Span = map tile_span i.tiles.items in
    let X : List Span = option_to_list (option_map directory_span i.attdir) in
    let A : List Span = map att_item_span i.attachments.items in
    let M : List Span = option_to_list (option_map meta_item_span i.metadata) in
    let R : List Place = s.layout.attachments ++ option_to_list s.layout.metadata in
    omega (
      arith,
      ap (λ l. cover l k) (spans-append s.layout.subblocks R),
      cover-append (spans_of s.layout.subblocks) (spans_of R) k,
      ap (λ l. cover l k) (spans-append s.layout.attachments (option_to_list s.layout.metadata)),
      cover-append (spans_of s.layout.attachments) (spans_of (option_to_list s.layout.metadata)) k,
      ap (λ l. cover (spans_of l) k) (sym lies.subblocks),
      ap (λ l. cover (spans_of l) k) (sym lies.attachments),
      ap (λ o. cover (spans_of (option_to_list o)) k) (sym lies.metadata),
      ap (λ l. cover l k) (map-map (λ (p : Place). p.span) tile_place i.tiles.items),
      ap (λ l. cover l k) (map-map (λ (p : Place). p.span) att_item_place i.attachments.items),
      ap (λ l. cover l k) (span_option meta_item_place i.metadata),
      cover-append D (T ++ (X ++ (A ++ M))) k,
      cover-append T (X ++ (A ++ M)) k,
      cover-append X (A ++ M) k,
      cover-append A M k,
    )

pub in_order_apart : (bytes : List ℕ) (live : Live) (s : State) (x : EngineState) (e : DocumentEffect) (p : EditPlan) → LiesInImage bytes live s → IsDisjointState s → LiesAs s.layout x.index
    → ((q : ℕ) → cover (live_spans x.index.header x.index.directory x.index.tiles.items x.index.attdir x.index.attachments.items x.index.metadata) q + cover (used_of p) q ≤ 1)
    → LiesInOrder s e (live_change_of p.change x.index) (used_of p) → BringsApart live (live_change_of p.change x.index)
in_order_apart bytes live s x e p lies tidy at once order k some = omega (
  arith,
  some,
  in_spans s e (live_change_of p.change x.index) (used_of p) k order,
  once k,
  items_live s x k at,
  ap (λ (ss : List Span). cover ss k) (items_at s.layout live lies.extents),
  tidy.once k,
  cover-live_places s.layout k,
)
