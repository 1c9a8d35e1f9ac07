-- After an edit and after an undo the former documents are brought back still.
use Rattle.std.proofs.Common.{◌≡◌, ℕ, ◌+◌, ◌≤◌, ◌<◌, List, [], ◌∷◌, map, false, Option, Some, None, Ok, option_map, refl, ap, sym, ◌∙◌, arith, subst, inl, inr, zero, ℤ, pos, ◌++◌, take, Bool, true, not, option_to_list, length}
use Rattle.std.specs.List.{AllByRecursion, list_any}
use Rattle.std.proofs.lemmas.Bool.{cases_lt}
use Rattle.czi_format.specs.FirstFault.{with_fault}
use Rattle.czi_format.specs.Layout.{Place, Layout}
use Rattle.czi_format.specs.Live.{Live, subblock_of, attachment_of, metadata_of, Tile, tile, AttItem, att_item, MetaItem, meta_item, document}
use Rattle.czi_format.specs.Space.{Space, same_span}
use Rattle.czi_format.specs.Span.{Span, end_of}
use Rattle.czi_format.proofs.Rules.{on_ok}
use Rattle.czi_format.specs.Document.{Document}
use Rattle.czi_format.specs.Partial.{none_or}
use Rattle.czi_format.specs.Same.{SameExtent}
use Rattle.czi_format.specs.Segment.{Segment, extent, data_of, in_segment, subblock_id, attachment_id, metadata_id}
use Rattle.czi_format.specs.Shows.{Reaches, subblock_at, attachment_at}
use Rattle.czi_format.proofs.Local.{All-append, data_same, tile_own, att_item_own, meta_item_own}
use Rattle.czi_format.proofs.Readings.{bind_some}
use Rattle.czi_machine.specs.Change.{Act, changed, mapped, Setting, same, to, set, mapped_setting, kept, omitted, set_kept, set_omitted, keep, omit, bring, brought, set_new}
use Rattle.czi_machine.specs.Cover.{between, cover}
use Rattle.czi_machine.specs.Edit.{DocumentEffect, after}
use Rattle.czi_machine.specs.Formers.{Return, BringBack, present, Lain, return_effect, return_items, brought_back, LiesHeld, undoing}
use Rattle.czi_machine.specs.Laws.{LiesInImage, Leads}
use Rattle.czi_machine.specs.Machine.{after_effect, after_undo, after_undo_of, as_refusal, edited, restored, kept_formers}
use Rattle.czi_machine.specs.Places.{stays, fresh, AskedLayout, Placed, Fitted, fit_each, fit_option, subblock_need, attachment_need, metadata_need, edit_asks, undo_asks, placed, laid, relaid, staying, items_asked, space_of}
use Rattle.czi_machine.specs.Sound.{IsDisjointState}
use Rattle.czi_machine.specs.State.{Items, Former, State, held, items_of, item_places, item_spans, spans_of, not_among, held_by}
use Rattle.czi_machine.specs.LiveChange.{LiveChange, changed_live, effect_of, SpansAt}
use Rattle.czi_machine.specs.Writes.{Writes, marked}
use Rattle.czi_machine.specs.Written.{Piece}
use Rattle.czi_machine.specs.Table.{fit_brought}
use Rattle.czi_machine.specs.Grouped.{put_in, set_in, IsPlaced, Groups}
use Rattle.czi_machine.proofs.AnyCommand.{any_held_kept, once_after}
use Rattle.czi_machine.proofs.Asking.{going_back}
use Rattle.czi_machine.proofs.Inverse.{SameShape, SameSetting, placed_shape, IsRead, is_read, contents_back, place_by, places_back, left_out_have, left_out_items, setting_contents_back, setting_places_back, left_out_setting, left_out_setting_items, rejoined_setting, All-rejoined, All-omitted, omitted_mapped, set_omitted_mapped}
use Rattle.czi_machine.proofs.Leaving.{cover-leaving, none_among}
use Rattle.czi_machine.proofs.Nexts.{edit_goes_back, edit_is_next}
use Rattle.czi_machine.proofs.Placing.{IsAsked, Placing, used_is, used_covered, few_items, cover-live_places, live_parts, covers_own, placing}
use Rattle.czi_machine.proofs.Steady.{on_all}
use Rattle.czi_machine.proofs.TableSubblocks.{placed_change, each_brought, option_stays, asked_by, items_leave, new_moves}
use Rattle.czi_machine.proofs.Tiled.{All-filter, All-map, map-All, All-weaken}
use Rattle.czi_machine.proofs.BroughtBack.{SameBehind, bring_back_same, same_data, All-passing, bring_back_fewer}
use Rattle.czi_machine.proofs.Led.{no_fault, Led, led}
use Rattle.czi_machine.proofs.Tidy.{undo_places}
use Rattle.czi_machine.proofs.Restated.{ok_is}
use Rattle.czi_machine.proofs.Grouped.{placed_placing}
use Rattle.czi_machine.proofs.Clear.{all_kept}
use Rattle.czi_machine.proofs.Shown.{Kept, kept_parts, each_found}

-- an undo leads to the newest former document
pub record Restored (s s' : State) (f : Former) (formers : List Former) : Type 0 where
  pub now : (let z : Former = record (present s') { edits = f.edits } in z) ≡ f
  pub older : s'.formers ≡ formers

pub undo_restores : (s s' : State) (f : Former) (formers : List Former) → s.formers ≡ f ∷ formers → after_undo s ≡ Ok s' → Restored s s' f formers
undo_restores s s' f formers newest e =
    on_ok (with_fault as_refusal (laid s (undo_asks s f))) _ s' (sym (ap (after_undo_of s) newest) ∙ e) λ l l_is done.
    on_ok (placed s.layout (space_of s) (undo_asks s f)) _ l (no_fault as_refusal (laid s (undo_asks s f)) l l_is) λ pl pl_is laid_is.
    let n : AskedLayout = undo_asks s f in
    let its : relaid s.layout n pl ≡ l = ok_is (relaid s.layout n pl) l laid_is in
    let whole : restored s f formers (relaid s.layout n pl) ≡ s' = ap (restored s f formers) its ∙ ok_is _ s' done in
    let items : pl.items ≡ f.items = undo_places s f pl pl_is in
    subst (λ z. Restored s z f formers) whole (record { now = λ i. record { document = f.document; items = items i; edits = f.edits }; older = refl })

-- how many edits the newer one takes back doesn't count
whatever_edits : (image : List ℕ) (newer : Former) (n : ℕ) (returns : List Return) (formers : List Former) → BringBack image (record newer { edits = n }) returns formers → BringBack image newer returns formers
whatever_edits image newer n [] [] b = tt
whatever_edits image newer n (r ∷ returns) (f ∷ formers) b = b
whatever_edits image newer n returns formers b = absurd b

pub with_edits : (image : List ℕ) (newer : Former) (n : ℕ) (returns : List Return) (formers : List Former) → BringBack image newer returns formers → BringBack image (record newer { edits = n }) returns formers
with_edits image newer n [] [] b = tt
with_edits image newer n (r ∷ returns) (f ∷ formers) b = b
with_edits image newer n returns formers b = absurd b

pub undos_bring_back : (image other : List ℕ) (s s' : State) (live : Live) (t : LiveChange) (pieces : List Piece) (r : Return) (returns : List Return) → LiesInImage image live s → IsDisjointState s
    → after_undo s ≡ Ok s' → SpansAt s'.layout (changed_live t live) → Writes image other t live s.layout s'.layout pieces
    → BringBack image (present s) (r ∷ returns) s.formers → BringBack other (present s') returns s'.formers
undos_bring_back image other s s' live t pieces r returns lies is e at w back = on_formers s.formers refl back
  where
    on_formers : (formers : List Former) → s.formers ≡ formers → BringBack image (present s) (r ∷ returns) formers → BringBack other (present s') returns s'.formers
    on_formers [] newest b = absurd b
    on_formers (f ∷ formers) newest b =
        let to_former : Restored s s' f formers = undo_restores s s' f formers newest e in
        let same_bytes : AllByRecursion (SameBehind image other) (held s') = any_held_kept image other s s' live t pieces lies is (inr (inl e)) at w in
        let here : BringBack image (present s') returns s'.formers =
        subst (λ fs. BringBack image (present s') returns fs) (sym to_former.older) (whatever_edits image (present s') f.edits returns formers (subst (λ z. BringBack image z returns formers) (sym to_former.now) b.2)) in
        bring_back_same image other (present s') returns s'.formers same_bytes here

-- An edit, and where it put things.
pub record Made (s s' : State) (e : DocumentEffect) : Type 0 where
  pub at : Placed
  pub there : placed s.layout (space_of s) (edit_asks s e) ≡ Ok at
  pub whole : edited s 1 (after e s.document) (relaid s.layout (edit_asks s e) at) ≡ s'

pub edit_makes : (s s' : State) (f : DocumentEffect) → after_effect s f ≡ Ok s' → Made s s' f
edit_makes s s' f goes =
    on_ok (with_fault as_refusal (laid s (edit_asks s f))) _ s' goes λ l l_is done.
    on_ok (placed s.layout (space_of s) (edit_asks s f)) _ l (no_fault as_refusal (laid s (edit_asks s f)) l l_is) λ pl pl_is laid_is.
    let its : relaid s.layout (edit_asks s f) pl ≡ l = ok_is (relaid s.layout (edit_asks s f) pl) l laid_is in
    record {
      at = pl;
      there = pl_is;
      whole = ap (edited s 1 (after f s.document)) its ∙ ok_is _ s' done;
    }

-- The items after it are those before, changed at the same places.
pub record ChangedLike (t : LiveChange) (l : Layout) (i : Items) : Type 0 where
  pub tiles : List (Act Place)
  pub tiles_shape : SameShape t.tiles tiles
  pub subblocks : i.subblocks ≡ changed tiles l.subblocks
  pub atts : List (Act Place)
  pub atts_shape : SameShape t.attachments atts
  pub attachments : i.attachments ≡ changed atts l.attachments
  pub meta : Setting Place
  pub meta_shape : SameSetting t.metadata meta
  pub metadata : i.metadata ≡ set meta l.metadata

list_like : {W X : Type 0} (l : Layout) (space : Space) (need : X → ℕ) (g : W → X) (c : List (Act W)) (ps : List Place) (r : Fitted (List Place)) → fit_each l space (changed (mapped (λ x. fresh (need x)) (mapped g c)) (map stays ps)) ≡ Ok r
    → (d : List (Act Place)) × SameShape c d × (r.places ≡ changed d ps)
unfolding placed_change
list_like l space need g c ps r e =
    on_ok (fit_brought l space need (mapped g c)) _ r (sym (each_brought l space need (mapped g c) ps) ∙ e) λ f f_is done.
    (f.places, placed_shape l space need g c f f_is, ap (λ (z : Fitted (List Place)). z.places) (sym (ok_is _ r done)))

setting_like : {W X : Type 0} (l : Layout) (space : Space) (need : X → ℕ) (g : W → X) (c : Setting W) (old : Option Place) (r : Fitted (Option Place))
    → fit_option l space (set (mapped_setting (λ x. fresh (need x)) (mapped_setting g c)) (option_map stays old)) ≡ Ok r
    → (d : Setting Place) × SameSetting c d × (r.places ≡ set d old)
unfolding SameSetting
setting_like l space need g same old r e = (same, tt, ap (λ (z : Fitted (Option Place)). z.places) (sym (ok_is _ r (sym (option_stays l space old) ∙ e))))
setting_like l space need g (to None) old r e = (to None, tt, ap (λ (z : Fitted (Option Place)). z.places) (sym (ok_is _ r e)))
setting_like l space need g (to (Some x)) old r e = (to r.places, tt, refl)

pub items_like : (image : List ℕ) (s : State) (t : LiveChange) (pl : Placed) → placed s.layout (space_of s) (edit_asks s (effect_of image t)) ≡ Ok pl → ChangedLike t s.layout pl.items
items_like image s t pl e =
    let l : Layout = s.layout in
    let n : AskedLayout = edit_asks s (effect_of image t) in
    on_ok (fit_each l (space_of s) n.subblocks) _ pl e λ a a_is e1.
    on_ok (fit_each l a.space n.attachments) _ pl e1 λ b b_is e2.
    on_ok (fit_option l b.space n.metadata) _ pl e2 λ m m_is e3.
    on_ok (fit_option l m.space n.directory) _ pl e3 λ d d_is e4.
    on_ok (fit_option l d.space n.attdir) _ pl e4 λ x x_is e5.
    let ts = list_like l (space_of s) subblock_need (subblock_of image) t.tiles l.subblocks a a_is in
    let as' = list_like l a.space attachment_need (attachment_of image) t.attachments l.attachments b b_is in
    let ms = setting_like l b.space metadata_need (metadata_of image) t.metadata l.metadata m m_is in
    let its : pl.items ≡ (let i : Items = record { subblocks = a.places; attachments = b.places; metadata = m.places } in i) = ap (λ (z : Placed). z.items) (sym (ok_is _ pl e5)) in
    record {
      tiles = ts.0;
      tiles_shape = ts.1;
      subblocks = ap (λ (i : Items). i.subblocks) its ∙ ts.2;
      atts = as'.0;
      atts_shape = as'.1;
      attachments = ap (λ (i : Items). i.attachments) its ∙ as'.2;
      meta = ms.0;
      meta_shape = ms.1;
      metadata = ap (λ (i : Items). i.metadata) its ∙ ms.2;
    }

-- the items that leave
unfoldable pub gone_items : State → AskedLayout → List Place
gone_items s n = not_among (staying (items_asked n)) (item_places (items_of s.layout))

-- they aren't among the items afterwards
pub gone_new : (s s' : State) (e : DocumentEffect) (pl : Placed) → IsDisjointState s → IsDisjointState s' → Placing s (edit_asks s e) pl → items_of s'.layout ≡ pl.items
    → AllByRecursion (λ (q : Place). list_any (same_span q.span) (item_spans pl.items) ≡ false) (gone_items s (edit_asks s e))
unfolding gone_items
gone_new s s' e pl is is' at items_are =
    let n : AskedLayout = edit_asks s e in
    let nx : IsAsked s n = edit_is_next s e is in
    let gone : List Place = not_among (staying (items_asked n)) (item_places (items_of s.layout)) in
    let some : AllByRecursion (λ (q : Place). 0 < q.span.len) gone = All-filter _ _ (item_places (items_of s.layout)) (live_parts (λ (q : Place). 0 < q.span.len) s.layout is.some.1).0 in
    let left : (p : ℕ) → cover (spans_of gone) p + cover (staying (items_asked n)) p ≡ cover (item_spans (items_of s.layout)) p =
    λ p. cover-leaving (staying (items_asked n)) (item_places (items_of s.layout)) p (λ q. omega (arith, few_items s q is)) nx.items_once nx.items_there in
    let none_back : (p : ℕ) → cover (going_back (items_asked n)) p ≡ 0 = λ p. ap (λ z. cover z p) (edit_goes_back s e) in
    on_all (λ (q : Place). 0 < q.span.len) (λ (q : Place). (p : ℕ) → between q.span.at (end_of q.span) p ≤ cover (spans_of gone) p) (λ (q : Place). list_any (same_span q.span) (item_spans pl.items) ≡ false)
    (λ q long own. none_among q.span (item_spans pl.items) long (λ p. elim (cases_lt 0 (between q.span.at (end_of q.span) p)) [
      | inr h ↦ omega (arith, h, few_items s' p is', ap (λ i. cover (item_spans i) p) items_are)
      | inl h ↦ elim (cases_lt p s.layout.length) [
        | inl k ↦ omega (
          arith,
          h,
          own p,
          left p,
          few_items s p is,
          is.once p,
          cover-live_places s.layout p,
          at.items p,
          none_back p,
          at.used_parts p,
          used_is s n pl at p,
          used_covered s n pl at p is nx k,
        )
        | inr k ↦ absurd (omega (arith, h, own p, left p, is.inside p k, cover-live_places s.layout p))
      ]
    ])) gone some (All-map (λ (q : Place). q.span) (λ (h : Span). (p : ℕ) → between h.at (end_of h) p ≤ cover (spans_of gone) p) gone (covers_own (spans_of gone)))

-- After an edit, what undoes it brings back the document before it, and the older ones are brought back as they were.

-- what is known of the places of what is left out
record LeftOut (P : Place → Type 0) (t : LiveChange) (l : Layout) : Type 0 where
  tiles : AllByRecursion P (omitted t.tiles l.subblocks)
  attachments : AllByRecursion P (omitted t.attachments l.attachments)
  metadata : AllByRecursion P (option_to_list (set_omitted t.metadata l.metadata))

-- they are the items that leave
left_out : (image : List ℕ) (s : State) (t : LiveChange) (P : Place → Type 0) → IsDisjointState s → AllByRecursion P (gone_items s (edit_asks s (effect_of image t))) → LeftOut P t s.layout
unfolding gone_items asked_by
left_out image s t P is all =
    let e : DocumentEffect = effect_of image t in
    let l : Layout = s.layout in
    let leave = items_leave (λ x. fresh (subblock_need x)) (λ x. fresh (attachment_need x)) (λ x. fresh (metadata_need x)) e.subblocks e.attachments e.metadata l
    (new_moves subblock_need) (new_moves attachment_need) (new_moves metadata_need) (record { once = λ p. omega (arith, is.once p); some = is.some.1 }) in
    let parts : AllByRecursion P (omitted e.subblocks l.subblocks ++ (omitted e.attachments l.attachments ++ option_to_list (set_omitted e.metadata l.metadata))) = subst (AllByRecursion P) leave all in
    let one = All-append P (omitted e.subblocks l.subblocks) _ parts in
    let two = All-append P (omitted e.attachments l.attachments) _ one.1 in
    record {
      tiles = subst (AllByRecursion P) (omitted_mapped (subblock_of image) t.tiles l.subblocks) one.0;
      attachments = subst (AllByRecursion P) (omitted_mapped (attachment_of image) t.attachments l.attachments) two.0;
      metadata = subst (λ z. AllByRecursion P (option_to_list z)) (set_omitted_mapped (metadata_of image) t.metadata l.metadata) two.1;
    }

-- the metadata, where it is read
metadata_read : {A : Type 0} (z : ℤ) (o : Option A) (x : A) → none_or z o ≡ Some (Some x) → o ≡ Some x
metadata_read (pos zero) o x e = cc (e)
metadata_read z o x e = let b = bind_some o (λ x. Some (Some x)) (Some x) e in let same : b.0 ≡ x = cc (b.2) in b.1 ∙ ap Some same

-- Both images have the same contents in every item that was live.
record SameContents (image other : List ℕ) (live : Live) : Type 0 where
  tiles : AllByRecursion (λ (x : Tile). data_of other x.segment ≡ data_of image x.segment) live.tiles
  attachments : AllByRecursion (λ (x : AttItem). data_of other x.segment ≡ data_of image x.segment) live.attachments
  metadata : AllByRecursion (λ (x : MetaItem). data_of other x.segment ≡ data_of image x.segment) (option_to_list live.metadata)

same_contents : (image other : List ℕ) (l : Layout) (live : Live) (t : LiveChange) → SpansAt l live → Kept image other live t → LeftOut (λ (p : Place). SameBehind image other p.span) t l → SameContents image other live
same_contents image other l live t at k out =
    let P : Span → Type 0 = SameBehind image other in
    record {
      tiles = All-rejoined (λ (x : Tile). data_of other x.segment ≡ data_of image x.segment) t.tiles live.tiles
          (All-weaken (λ (x : Tile). SameExtent image other x.segment) _ (λ x h. sym (data_same image other x.segment h)) (kept t.tiles live.tiles) k.tiles)
          (All-weaken (λ (x : Tile). P (extent x.segment)) _ (λ x h. same_data image other x.segment h) (omitted t.tiles live.tiles)
          (left_out_items (λ (x : Tile). extent x.segment) P t.tiles live.tiles l.subblocks at.subblocks out.tiles));
      attachments = All-rejoined (λ (x : AttItem). data_of other x.segment ≡ data_of image x.segment) t.attachments live.attachments
          (All-weaken (λ (x : AttItem). SameExtent image other x.segment) _ (λ x h. sym (data_same image other x.segment h)) (kept t.attachments live.attachments) k.attachments)
          (All-weaken (λ (x : AttItem). P (extent x.segment)) _ (λ x h. same_data image other x.segment h) (omitted t.attachments live.attachments)
          (left_out_items (λ (x : AttItem). extent x.segment) P t.attachments live.attachments l.attachments at.attachments out.attachments));
      metadata = rejoined_setting (λ (x : MetaItem). data_of other x.segment ≡ data_of image x.segment) t.metadata live.metadata
          (kept_setting t.metadata live.metadata k.metadata)
          (All-weaken (λ (x : MetaItem). P (extent x.segment)) _ (λ x h. same_data image other x.segment h) (option_to_list (set_omitted t.metadata live.metadata))
          (left_out_setting_items (λ (x : MetaItem). extent x.segment) P t.metadata live.metadata l.metadata at.metadata out.metadata));
    }
  where
    kept_setting : (c : Setting MetaItem) (o : Option MetaItem) → AllByRecursion (SameExtent image other) (option_to_list (option_map (λ (m : MetaItem). m.segment) (set_kept c o)))
        → AllByRecursion (λ (x : MetaItem). data_of other x.segment ≡ data_of image x.segment) (option_to_list (set_kept c o))
    kept_setting same None all = tt
    kept_setting same (Some x) all = (sym (data_same image other x.segment all.0), tt)
    kept_setting (to c) o all = tt

-- What undoes an edit brings back the document and where its items lay.
back_again : (image other : List ℕ) (n : ℕ) (s s' : State) (live : Live) (t : LiveChange) → SpansAt s.layout live → SameContents image other live → s.document ≡ document image live → s'.document ≡ after (effect_of other t) s.document
    → ChangedLike t s.layout (items_of s'.layout) → (let z : Former = record (present s) { edits = n } in z) ≡ brought_back other (undoing n t live s.layout) (present s')
back_again image other n s s' live t at alike shown edited_is like =
    let l : Layout = s.layout in
    let r : Return = undoing n t live l in
    let e : DocumentEffect = effect_of other t in
    let before : Document = document image live in
    let its : s'.document ≡ after e before = edited_is ∙ ap (after e) shown in
    let tiles = contents_back (λ (x : Tile). extent x.segment) (subblock_of image) (subblock_of other) t.tiles live.tiles l.subblocks at.subblocks
    (All-weaken (λ (x : Tile). data_of other x.segment ≡ data_of image x.segment) (λ (x : Tile). subblock_of other x ≡ subblock_of image x) (λ x d. cc (d)) live.tiles alike.tiles) in
    let atts = contents_back (λ (x : AttItem). extent x.segment) (attachment_of image) (attachment_of other) t.attachments live.attachments l.attachments at.attachments
    (All-weaken (λ (x : AttItem). data_of other x.segment ≡ data_of image x.segment) (λ (x : AttItem). attachment_of other x ≡ attachment_of image x) (λ x d. cc (d)) live.attachments alike.attachments) in
    let meta = setting_contents_back (λ (x : MetaItem). extent x.segment) (metadata_of image) (metadata_of other) t.metadata live.metadata l.metadata at.metadata
    (All-weaken (λ (x : MetaItem). data_of other x.segment ≡ data_of image x.segment) (λ (x : MetaItem). metadata_of other x ≡ metadata_of image x) (λ x d. cc (d)) (option_to_list live.metadata) alike.metadata) in
    let doc : after (return_effect other r) (after e before) ≡ before = λ i. record { identity = before.identity; subblocks = tiles i; attachments = atts i; metadata = meta i } in
    let tile_places = places_back (λ (x : Tile). extent x.segment) t.tiles like.tiles live.tiles l.subblocks at.subblocks like.tiles_shape in
    let att_places = places_back (λ (x : AttItem). extent x.segment) t.attachments like.atts live.attachments l.attachments at.attachments like.atts_shape in
    let meta_place = setting_places_back (λ (x : MetaItem). extent x.segment) t.metadata like.meta live.metadata l.metadata at.metadata like.meta_shape in
    let there : items_of s'.layout ≡ (let z : Items = record { subblocks = changed like.tiles l.subblocks; attachments = changed like.atts l.attachments; metadata = set like.meta l.metadata } in z) =
    λ i. record { subblocks = like.subblocks i; attachments = like.attachments i; metadata = like.metadata i } in
    let items : return_items r (items_of s'.layout) ≡ items_of l = ap (return_items r) there ∙ (λ i. record { subblocks = tile_places i; attachments = att_places i; metadata = meta_place i }) in
    let back : after (return_effect other r) s'.document ≡ s.document = ap (after (return_effect other r)) its ∙ (doc ∙ sym shown) in
    sym (λ i. record { document = back i; items = items i; edits = n })

-- what is known of an item that was live, in the other image
record IsKnown {X : Type 0} (other id : List ℕ) (position : X → ℤ) (read : X → Segment → List ℕ → Option X) (segment : X → Segment) (x : X) : Type 0 where
  reads : read x (segment x) (data_of other (segment x)) ≡ Some x
  id_is : (segment x).id ≡ id
  sound : (segment x).used ≤ (segment x).allocated
  place : position x ≡ pos (segment x).at

-- What undoes an edit is read where it was, and what it brings isn't among the items.
lies_held : (image other : List ℕ) (n : ℕ) (s s' : State) (live : Live) (t : LiveChange) → Reaches image live → SpansAt s.layout live → SameContents image other live
    → LeftOut (λ (q : Place). list_any (same_span q.span) (item_spans (items_of s'.layout)) ≡ false) t s.layout → LiesHeld other (items_of s'.layout) (undoing n t live s.layout)
lies_held image other n s s' live t reaches at alike out =
    let l : Layout = s.layout in
    let P : Place → Type 0 = λ (q : Place). list_any (same_span q.span) (item_spans (items_of s'.layout)) ≡ false in
    let F : Tile → Type 0 = λ x. IsKnown other subblock_id (λ (x : Tile). x.entry.position) (λ (x : Tile). tile x.entry) (λ (x : Tile). x.segment) x in
    let G : AttItem → Type 0 = λ x. IsKnown other attachment_id (λ (x : AttItem). x.entry.position) (λ (x : AttItem). att_item x.entry) (λ (x : AttItem). x.segment) x in
    let H : MetaItem → Type 0 = λ x. IsKnown other metadata_id (λ (x : MetaItem). live.header.metadata) (λ (x : MetaItem). meta_item) (λ (x : MetaItem). x.segment) x in
    let tiles : AllByRecursion F live.tiles = on_all (λ (x : Tile). subblock_at image x.entry ≡ Some x) (λ (x : Tile). data_of other x.segment ≡ data_of image x.segment) F
    (λ x f d. let r : IsRead image subblock_id x.entry.position (tile x.entry) (λ (x : Tile). x.segment) x = is_read image subblock_id x.entry.position (tile x.entry) (λ (x : Tile). x.segment) x (tile_own x.entry) f in
    record { reads = ap (tile x.entry x.segment) d ∙ r.reads; id_is = r.id_is; sound = r.sound; place = r.place }) live.tiles (each_found (subblock_at image) (λ (x : Tile). x.entry) live.tiles reaches.tiles) alike.tiles in
    let atts : AllByRecursion G live.attachments = on_all (λ (x : AttItem). attachment_at image x.entry ≡ Some x) (λ (x : AttItem). data_of other x.segment ≡ data_of image x.segment) G
    (λ x f d. let r : IsRead image attachment_id x.entry.position (att_item x.entry) (λ (x : AttItem). x.segment) x = is_read image attachment_id x.entry.position (att_item x.entry) (λ (x : AttItem). x.segment) x (att_item_own x.entry) f in
    record { reads = ap (att_item x.entry x.segment) d ∙ r.reads; id_is = r.id_is; sound = r.sound; place = r.place }) live.attachments (each_found (attachment_at image) (λ (x : AttItem). x.entry) live.attachments reaches.attachments) alike.attachments in
    let meta : AllByRecursion H (option_to_list live.metadata) = on_metadata live.metadata reaches.metadata alike.metadata in
    record {
      tiles = All-weaken (λ (y : Lain Tile). F y.item × P (place_by (λ (x : Tile). extent x.segment) y)) _ (λ y h. (h.0.reads, h.0.id_is, h.0.place, h.0.sound, h.1)) _
          (left_out_have (λ (x : Tile). extent x.segment) F P t.tiles live.tiles l.subblocks at.subblocks tiles out.tiles);
      attachments = All-weaken (λ (y : Lain AttItem). G y.item × P (place_by (λ (x : AttItem). extent x.segment) y)) _ (λ y h. (h.0.reads, h.0.id_is, h.0.place, h.0.sound, h.1)) _
          (left_out_have (λ (x : AttItem). extent x.segment) G P t.attachments live.attachments l.attachments at.attachments atts out.attachments);
      metadata = All-weaken (λ (y : Lain MetaItem). H y.item × P (place_by (λ (x : MetaItem). extent x.segment) y)) _ (λ y h. (h.0.reads, h.0.id_is, h.0.sound, h.1)) _
          (left_out_setting (λ (x : MetaItem). extent x.segment) H P t.metadata live.metadata l.metadata at.metadata meta out.metadata);
    }
  where
    on_metadata : (o : Option MetaItem) → none_or live.header.metadata (in_segment image metadata_id live.header.metadata meta_item) ≡ Some o → AllByRecursion (λ (x : MetaItem). data_of other x.segment ≡ data_of image x.segment) (option_to_list o)
        → AllByRecursion (λ (x : MetaItem). IsKnown other metadata_id (λ (x : MetaItem). live.header.metadata) (λ (x : MetaItem). meta_item) (λ (x : MetaItem). x.segment) x) (option_to_list o)
    on_metadata None found d = tt
    on_metadata (Some m) found d =
        let z : ℤ = live.header.metadata in
        let r : IsRead image metadata_id z meta_item (λ (x : MetaItem). x.segment) m =
        is_read image metadata_id z meta_item (λ (x : MetaItem). x.segment) m meta_item_own (metadata_read z (in_segment image metadata_id z meta_item) m found) in
        (record { reads = ap (meta_item m.segment) d.0 ∙ r.reads; id_is = r.id_is; sound = r.sound; place = r.place }, tt)

-- after an edit of which what it brings was placed
pub placed_bring_back : (image other : List ℕ) (m : ℕ) (s s' : State) (live : Live) (t : LiveChange) (pieces : List Piece) (returns : List Return) (pl : Placed) → LiesInImage image live s → IsDisjointState s
    → Leads s s' → Placing s (edit_asks s (effect_of other t)) pl → edited s m (after (effect_of other t) s.document) (relaid s.layout (edit_asks s (effect_of other t)) pl) ≡ s' → ChangedLike t s.layout pl.items
    → SpansAt s'.layout (changed_live t live) → Writes image other t live s.layout s'.layout pieces
    → BringBack image (present s) returns s.formers → BringBack other (present s') (undoing m t live s.layout ∷ take (kept_formers m s) returns) s'.formers
placed_bring_back image other m s s' live t pieces returns pl lies is leads pp whole like' at w back =
    let e : DocumentEffect = effect_of other t in
    let K : ℕ = kept_formers m s in
    let new : Former = record (present s) { edits = m } in
    let ld : Led s s' = led s s' is leads in
    let is' : IsDisjointState s' = ld.tidy in
    let n : AskedLayout = edit_asks s e in
    let its : items_of s'.layout ≡ pl.items = ap (λ (z : State). items_of z.layout) (sym whole) in
    let like : ChangedLike t s.layout (items_of s'.layout) = subst (ChangedLike t s.layout) (sym its) like' in
    let out_new : LeftOut (λ (q : Place). list_any (same_span q.span) (item_spans (items_of s'.layout)) ≡ false) t s.layout =
    left_out other s t (λ (q : Place). list_any (same_span q.span) (item_spans (items_of s'.layout)) ≡ false) is
    (subst (λ z. AllByRecursion (λ (q : Place). list_any (same_span q.span) (item_spans z) ≡ false) (gone_items s n)) (sym its) (gone_new s s' e pl is is' pp its)) in
    let formers : s'.formers ≡ new ∷ take K s.formers = ap (λ (z : State). z.formers) (sym whole) in
    let edited_is : s'.document ≡ after e s.document = ap (λ (z : State). z.document) (sym whole) in
    let same_bytes : AllByRecursion (SameBehind image other) (held s') = any_held_kept image other s s' live t pieces lies is leads at w in
    let parted : AllByRecursion (SameBehind image other) (spans_of (held_by (items_of s'.layout) (new ∷ take K s.formers))) =
    subst (λ z. AllByRecursion (SameBehind image other) (spans_of (held_by (items_of s'.layout) z))) formers same_bytes in
    let B : Place → Type 0 = λ p. SameBehind image other p.span in
    let places : AllByRecursion B (not_among (item_spans (items_of s'.layout)) (item_places (items_of s.layout)) ++ held_by (items_of s.layout) (take K s.formers)) =
    All-map (λ (p : Place). p.span) (SameBehind image other) _ parted in
    let halves = All-append B (not_among (item_spans (items_of s'.layout)) (item_places (items_of s.layout))) (held_by (items_of s.layout) (take K s.formers)) places in
    let out_same : LeftOut B t s.layout = passing (items_of s'.layout) B s.layout t halves.0 out_new in
    let k : Kept image other live t = kept_parts image other live t (all_kept image other live t (marked s.layout s'.layout) pieces lies.reaches w.around.inside (once_after s s' live t image lies ld at) w.wrote
    (omega (arith, ld.longer, lies.length, w.long))) in
    let alike : SameContents image other live = same_contents image other s.layout live t lies.extents k out_same in
    let first : new ≡ brought_back other (undoing m t live s.layout) (present s') = back_again image other m s s' live t lies.extents alike lies.document edited_is like in
    let read : LiesHeld other (items_of s'.layout) (undoing m t live s.layout) = lies_held image other m s s' live t lies.reaches lies.extents alike out_new in
    let fewer : BringBack image (present s) (take K returns) (take K s.formers) = bring_back_fewer image (present s) returns s.formers K back in
    let older : BringBack other (present s) (take K returns) (take K s.formers) =
    bring_back_same image other (present s) (take K returns) (take K s.formers) (map-All (λ (p : Place). p.span) (SameBehind image other) _ halves.1) fewer in
    let all : BringBack other (present s') (undoing m t live s.layout ∷ take K returns) (new ∷ take K s.formers) = (first, read, with_edits other (present s) m (take K returns) (take K s.formers) older) in
    subst (BringBack other (present s') (undoing m t live s.layout ∷ take K returns)) (sym formers) all
  where
    passing : (i : Items) (B : Place → Type 0) (l : Layout) (t : LiveChange) → AllByRecursion B (not_among (item_spans i) (item_places (items_of l)))
        → LeftOut (λ (q : Place). list_any (same_span q.span) (item_spans i) ≡ false) t l → LeftOut B t l
    passing i B l t all out =
        let q : Place → Bool = λ p. not (list_any (same_span p.span) (item_spans i)) in
        let each : AllByRecursion (λ p. q p ≡ true → B p) (item_places (items_of l)) = All-passing B q (item_places (items_of l)) all in
        let one = All-append (λ p. q p ≡ true → B p) l.subblocks _ each in
        let two = All-append (λ p. q p ≡ true → B p) l.attachments _ one.1 in
        let N : Place → Type 0 = λ (p : Place). list_any (same_span p.span) (item_spans i) ≡ false in
        record {
          tiles = on_all (λ p. q p ≡ true → B p) N B (λ p f e. f (ap not e)) (omitted t.tiles l.subblocks) (All-omitted (λ p. q p ≡ true → B p) t.tiles l.subblocks one.0) out.tiles;
          attachments = on_all (λ p. q p ≡ true → B p) N B (λ p f e. f (ap not e)) (omitted t.attachments l.attachments) (All-omitted (λ p. q p ≡ true → B p) t.attachments l.attachments two.0) out.attachments;
          metadata = on_all (λ p. q p ≡ true → B p) N B (λ p f e. f (ap not e)) (option_to_list (set_omitted t.metadata l.metadata)) (of_setting (λ p. q p ≡ true → B p) t.metadata l.metadata two.1) out.metadata;
        }
      where
        of_setting : (P : Place → Type 0) (c : Setting MetaItem) (o : Option Place) → AllByRecursion P (option_to_list o) → AllByRecursion P (option_to_list (set_omitted c o))
        of_setting P same o all = tt
        of_setting P (to c) o all = all

pub edits_bring_back : (image other : List ℕ) (s s' : State) (live : Live) (t : LiveChange) (pieces : List Piece) (returns : List Return) → LiesInImage image live s → IsDisjointState s
    → after_effect s (effect_of other t) ≡ Ok s' → SpansAt s'.layout (changed_live t live) → Writes image other t live s.layout s'.layout pieces
    → BringBack image (present s) returns s.formers → BringBack other (present s') (undoing 1 t live s.layout ∷ take (kept_formers 1 s) returns) s'.formers
edits_bring_back image other s s' live t pieces returns lies is goes at w back =
    let e : DocumentEffect = effect_of other t in
    let made : Made s s' e = edit_makes s s' e goes in
    placed_bring_back image other 1 s s' live t pieces returns made.at lies is (inl (e, goes)) (placing s (edit_asks s e) made.at is (edit_is_next s e is) made.there) made.whole (items_like other s t made.at made.there) at w back

-- after a group
put_shape : {W X : Type 0} (l : Layout) (g : W → X) (c : List (Act W)) (spans : List Span) → length spans ≡ length (brought (mapped g c)) → SameShape c (put_in l (mapped g c) spans)
unfolding SameShape
put_shape l g [] spans long = tt
put_shape l g (keep ∷ c) spans long = put_shape l g c spans long
put_shape l g (omit ∷ c) spans long = put_shape l g c spans long
put_shape l g (bring x ∷ c) [] long = absurd (omega (arith, long))
put_shape l g (bring x ∷ c) (s ∷ spans) long = put_shape l g c spans (omega (arith, long))

set_shape : {W X : Type 0} (l : Layout) (g : W → X) (c : Setting W) (spans : List Span) → length spans ≡ length (option_to_list (set_new (mapped_setting g c))) → SameSetting c (set_in l (mapped_setting g c) spans)
unfolding SameSetting
set_shape l g (to (Some x)) [] long = absurd (omega (arith, long))
set_shape l g c spans long = tt

placed_like : (other : List ℕ) (s : State) (t : LiveChange) (needs : List ℕ) (pl : Placed) → IsPlaced s (effect_of other t) needs pl → ChangedLike t s.layout pl.items
placed_like other s t needs pl p =
    let items = ap (λ (z : Placed). z.items) p.is in
    record {
      tiles = put_in s.layout (effect_of other t).subblocks p.tiles;
      tiles_shape = put_shape s.layout (subblock_of other) t.tiles p.tiles p.tiles_long;
      subblocks = ap (λ (i : Items). i.subblocks) items;
      atts = put_in s.layout (effect_of other t).attachments p.attachments;
      atts_shape = put_shape s.layout (attachment_of other) t.attachments p.attachments p.attachments_long;
      attachments = ap (λ (i : Items). i.attachments) items;
      meta = set_in s.layout (effect_of other t).metadata p.metadata;
      meta_shape = set_shape s.layout (metadata_of other) t.metadata p.metadata p.metadata_long;
      metadata = ap (λ (i : Items). i.metadata) items;
    }

pub groups_bring_back : (image other : List ℕ) (s s' : State) (live : Live) (t : LiveChange) (pieces : List Piece) (returns : List Return) → LiesInImage image live s → IsDisjointState s
    → (g : Groups s s') → g.effect ≡ effect_of other t → SpansAt s'.layout (changed_live t live) → Writes image other t live s.layout s'.layout pieces
    → BringBack image (present s) returns s.formers → BringBack other (present s') (undoing g.edits t live s.layout ∷ take (kept_formers g.edits s) returns) s'.formers
groups_bring_back image other s s' live t pieces returns lies is g same_effect at w back =
    let p : IsPlaced s (effect_of other t) g.needs g.placed = subst (λ e. IsPlaced s e g.needs g.placed) same_effect g.places in
    let goes : edited s g.edits (after (effect_of other t) s.document) (relaid s.layout (edit_asks s (effect_of other t)) g.placed) ≡ s' =
    ap (λ e. edited s g.edits (after e s.document) (relaid s.layout (edit_asks s e) g.placed)) (sym same_effect) ∙ g.goes in
    placed_bring_back image other g.edits s s' live t pieces returns g.placed lies is (inr (inr g)) (placed_placing s (effect_of other t) g.needs g.placed is p) goes (placed_like other s t g.needs g.placed p) at w back
