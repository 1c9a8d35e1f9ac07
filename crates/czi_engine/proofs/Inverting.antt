-- What undoes a task brings the former document back, and holds back what leaves.
use Rattle.std.proofs.Common.{◌≡◌, ℕ, zero, suc, ◌+◌, ◌<◌, ◌≤◌, List, [], ◌∷◌, ◌++◌, map, filter, take, length, true, Option, None, Some, Result, Ok, Err, option_map, nat_le, nat_lt, inl, inr, refl, ap, sym, ◌∙◌, subst, arith}
use Rattle.std.specs.Prelude.{⊤, IfOk, option_to_list, slice_index_or}
use Rattle.std.specs.declared.alloc.AllocError.{AllocError}
use Rattle.std.specs.List.{AllByRecursion}
use Rattle.std.specs.Option.{ForSome}
use Rattle.std.proofs.lemmas.Bool.{cases_Bool, le-leb, lt-ltb}
use Rattle.std.proofs.lemmas.List.{length-map, length-take}
use Rattle.czi_format.specs.Document.{Document}
use Rattle.czi_format.specs.Layout.{Layout, Place}
use Rattle.czi_format.specs.Live.{AttItem, Live, MetaItem, Tile}
use Rattle.czi_format.specs.Span.{IsWhole, Span, is_aligned}
use Rattle.czi_format.proofs.Readings.{both_true}
use Rattle.czi_image.specs.Change.{acts_of, live_change_of, setting_of}
use Rattle.czi_image.specs.Holds.{Holds, LiesAs, att_item_place, meta_item_place, tile_place}
use Rattle.czi_image.specs.View.{att_item_of, meta_item_of, tile_of}
use Rattle.czi_image.specs.declared.change.Change.{Change as CodeChange}
use Rattle.czi_image.specs.declared.change.Setting.{Setting as CodeSetting}
use Rattle.czi_image.specs.declared.change.Setting.TheVariants.{Same, To}
use Rattle.czi_image.specs.declared.index.Index.{Index}
use Rattle.czi_image.specs.declared.types.AttItem.{AttItem as CodeAttItem}
use Rattle.czi_image.specs.declared.types.MetaItem.{MetaItem as CodeMetaItem}
use Rattle.czi_image.specs.declared.types.Tile.{Tile as CodeTile}
use Rattle.czi_machine.specs.Change.{Act, bring, brought, changed, inverted, inverted_setting, keep, mapped, mapped_setting, omit, omitted, out, past, put, same, set, set_new, set_omitted, Setting, to}
use Rattle.czi_machine.specs.Edit.{DocumentEffect, after}
use Rattle.czi_machine.specs.Formers.{Lain, Return, attachment_place, lain, lain_option, metadata_place, undoing, tile_place as lain_place}
use Rattle.czi_machine.specs.LiveChange.{LiveChange}
use Rattle.czi_machine.specs.Planned.{Brings, Sets}
use Rattle.czi_machine.specs.Places.{can_be_used}
use Rattle.czi_machine.specs.State.{spans_of}
use Rattle.czi_machine.proofs.Inverse.{brought_inverted, set_inverted}
use Rattle.czi_machine.proofs.Tiled.{All-both, aligned_is}
use Rattle.czi_num.specs.Span.{span_of}
use Rattle.czi_num.specs.declared.span.Span.{Span as CodeSpan}
use Rattle.czi_plan.specs.Plan.{left_items}
use Rattle.czi_undo.specs.Holding.{holds_of}
use Rattle.czi_undo.specs.Laws.{ItemAt}
use Rattle.czi_undo.specs.Told.{return_of_single}
use Rattle.czi_undo.specs.declared.inverse.Inverse.{Inverse}
use Rattle.czi_undo.specs.declared.inverse.Part.{Part}
use Rattle.czi_undo.specs.Parts.{LainPart, change_of, drops, in_range, inserts, puts, return_of, return_places}
use Rattle.czi_undo.proofs.Usable.{holds_usable}
use Rattle.czi_undo.proofs.Undone.{undone_last, undone_out, undone_put}
use Rattle.czi_engine.specs.Prepared.{edits_after}
use Rattle.czi_engine.specs.Standing.{AreWhole, FewKept, TakeOneBack}
use Rattle.czi_engine.specs.Inverting.{InverseUndoes, IsUndoneBy, PartUndoes, lain_attachment, lain_metadata, lain_tile, metadata_back}
use Rattle.czi_engine.specs.Tasks.{effect_of, subblock_of}
use Rattle.czi_engine.specs.declared.engine.EngineState.{EngineState}
use Rattle.czi_engine.specs.declared.planning.Task.{Task}
use Rattle.czi_engine.specs.declared.planning.Task.TheVariants.{Add, Attach, Detach, Reattach, Remove, Replace, SetMeta}

-- What undoes a change hangs on its shape alone.
inverted_alike : {X Z Y : Type 0} (P : X → Z → Type 0) (c : List (Act X)) (d : List (Act Z)) (ys : List Y) → Brings P c d → inverted c ys ≡ inverted d ys
inverted_alike P [] [] ys b = refl
inverted_alike P [] (a ∷ d) ys b = absurd b
inverted_alike P (a ∷ c) [] ys b = absurd b
inverted_alike P (keep ∷ c) (keep ∷ d) [] b = inverted_alike P c d [] b
inverted_alike P (keep ∷ c) (keep ∷ d) (y ∷ ys) b = ap (λ l. keep ∷ l) (inverted_alike P c d ys b)
inverted_alike P (keep ∷ c) (omit ∷ d) ys b = absurd b
inverted_alike P (keep ∷ c) (bring z ∷ d) ys b = absurd b
inverted_alike P (omit ∷ c) (keep ∷ d) ys b = absurd b
inverted_alike P (omit ∷ c) (omit ∷ d) [] b = inverted_alike P c d [] b
inverted_alike P (omit ∷ c) (omit ∷ d) (y ∷ ys) b = ap (λ l. bring y ∷ l) (inverted_alike P c d ys b)
inverted_alike P (omit ∷ c) (bring z ∷ d) ys b = absurd b
inverted_alike P (bring x ∷ c) (keep ∷ d) ys b = absurd b
inverted_alike P (bring x ∷ c) (omit ∷ d) ys b = absurd b
inverted_alike P (bring x ∷ c) (bring z ∷ d) ys b = ap (λ l. omit ∷ l) (inverted_alike P c d ys b.1)

setting_alike : {X Z Y : Type 0} (P : X → Z → Type 0) (c : Setting X) (d : Setting Z) (old : Option Y) → Sets P c d → inverted_setting c old ≡ inverted_setting d old
setting_alike P same same old b = refl
setting_alike P same (to d) old b = absurd b
setting_alike P (to c) same old b = absurd b
setting_alike P (to c) (to d) old b = refl

-- items where they lie
lain_mapped : {X Y : Type 0} (f : X → Y) (g : X → Place) (xs : List X) → lain (map f xs) (map g xs) ≡ map (λ x. record { item = f x; walked = (g x).walked }) xs
lain_mapped f g [] = refl
lain_mapped f g (x ∷ xs) = ap (λ l. record { item = f x; walked = (g x).walked } ∷ l) (lain_mapped f g xs)

lain_option_mapped : {X Y : Type 0} (f : X → Y) (g : X → Place) (x : Option X) → lain_option (option_map f x) (option_map g x) ≡ option_map (λ x. record { item = f x; walked = (g x).walked }) x
lain_option_mapped f g None = refl
lain_option_mapped f g (Some x) = refl

item_mapped : {X Y : Type 0} (f : X → Y) (i : ℕ) (x : X) (xs : List X) → ItemAt i x xs → ItemAt i (f x) (map f xs)
item_mapped f zero x [] at = at
item_mapped f (suc i) x [] at = at
item_mapped f zero x (y ∷ xs) at = ap f at
item_mapped f (suc i) x (y ∷ xs) at = item_mapped f i x xs at

-- what comes behind all others goes again
last_undone : {X Y : Type 0} (x : X) (ys : List Y) (n : ℕ) → length ys ≡ n → inverted (past n (bring x ∷ [])) ys ≡ change_of (drops n)
last_undone x ys n long = subst (λ (n : ℕ). inverted (past n (bring x ∷ [])) ys ≡ change_of (drops n)) long (undone_last x ys)

module _ (x : Index) (live : Live) (l : Layout) (holds : Holds live x) (lies : LiesAs l x) where
  tiles_lain : lain live.tiles l.subblocks ≡ map lain_tile x.tiles.items
  tiles_lain = (λ k. lain (sym holds.tiles k) (sym lies.subblocks k)) ∙ lain_mapped tile_of tile_place x.tiles.items

  attachments_lain : lain live.attachments l.attachments ≡ map lain_attachment x.attachments.items
  attachments_lain = (λ k. lain (sym holds.attachments k) (sym lies.attachments k)) ∙ lain_mapped att_item_of att_item_place x.attachments.items

  metadata_lain : lain_option live.metadata l.metadata ≡ option_map lain_metadata x.metadata
  metadata_lain = (λ k. lain_option (sym holds.metadata k) (sym lies.metadata k)) ∙ lain_option_mapped meta_item_of meta_item_place x.metadata

  -- a turn does what a task does
  abbrev pub TurnsAs : LiveChange → DocumentEffect → Type 0
  TurnsAs t e = Brings (λ x y. ⊤) t.tiles e.subblocks × Brings (λ x y. ⊤) t.attachments e.attachments × Sets (λ x y. ⊤) t.metadata e.metadata

  -- what undoes it, list by list, told by the effect
  undoing_as : (t : LiveChange) (e : DocumentEffect) → TurnsAs t e
      → undoing 1 t live l ≡ record { tiles = inverted e.subblocks (map lain_tile x.tiles.items); attachments = inverted e.attachments (map lain_attachment x.attachments.items); metadata = inverted_setting e.metadata (option_map lain_metadata x.metadata); edits = 1 }
  undoing_as t e as' = λ k. record {
    tiles = (inverted_alike (λ x y. ⊤) t.tiles e.subblocks (lain live.tiles l.subblocks) as'.0 ∙ ap (inverted e.subblocks) tiles_lain) k;
    attachments = (inverted_alike (λ x y. ⊤) t.attachments e.attachments (lain live.attachments l.attachments) as'.1 ∙ ap (inverted e.attachments) attachments_lain) k;
    metadata = (setting_alike (λ x y. ⊤) t.metadata e.metadata (lain_option live.metadata l.metadata) as'.2 ∙ ap (inverted_setting e.metadata) metadata_lain) k;
    edits = 1;
  }

  abbrev of_effect : DocumentEffect → Return
  of_effect e = record { tiles = inverted e.subblocks (map lain_tile x.tiles.items); attachments = inverted e.attachments (map lain_attachment x.attachments.items); metadata = inverted_setting e.metadata (option_map lain_metadata x.metadata); edits = 1 }

  by_effect : (task : Task) (q : LainPart) → IsUndoneBy task x q → of_effect (effect_of task x) ≡ return_of 1 q
  by_effect (Add new) q is =
      let at = last_undone (subblock_of new) (map lain_tile x.tiles.items) (length x.tiles.items) (length-map x.tiles.items lain_tile) in
      (λ k. record { tiles = at k; attachments = []; metadata = same; edits = 1 }) ∙ sym (ap (return_of 1) is)
  by_effect (Replace i new) q is =
      let put_back = undone_put i (subblock_of new) (lain_tile is.0) (map lain_tile x.tiles.items) (item_mapped lain_tile i is.0 x.tiles.items is.1) in
      (λ k. record { tiles = put_back k; attachments = []; metadata = same; edits = 1 }) ∙ sym (ap (return_of 1) is.2)
  by_effect (Remove i) q is =
      let back = undone_out _ i (lain_tile is.0) (map lain_tile x.tiles.items) (item_mapped lain_tile i is.0 x.tiles.items is.1) in
      (λ k. record { tiles = back k; attachments = []; metadata = same; edits = 1 }) ∙ sym (ap (return_of 1) is.2)
  by_effect (Attach info bytes) q is =
      let at = last_undone _ (map lain_attachment x.attachments.items) (length x.attachments.items) (length-map x.attachments.items lain_attachment) in
      (λ k. record { tiles = []; attachments = at k; metadata = same; edits = 1 }) ∙ sym (ap (return_of 1) is)
  by_effect (Reattach i info bytes) q is =
      let put_back = undone_put i _ (lain_attachment is.0) (map lain_attachment x.attachments.items) (item_mapped lain_attachment i is.0 x.attachments.items is.1) in
      (λ k. record { tiles = []; attachments = put_back k; metadata = same; edits = 1 }) ∙ sym (ap (return_of 1) is.2)
  by_effect (Detach i) q is =
      let back = undone_out _ i (lain_attachment is.0) (map lain_attachment x.attachments.items) (item_mapped lain_attachment i is.0 x.attachments.items is.1) in
      (λ k. record { tiles = []; attachments = back k; metadata = same; edits = 1 }) ∙ sym (ap (return_of 1) is.2)
  by_effect (SetMeta xml tail) q is = of_metadata x.metadata ∙ sym (ap (return_of 1) is)
    where
      of_metadata : (m : Option CodeMetaItem) → (let r : Return = record { tiles = []; attachments = []; metadata = to (option_map lain_metadata m); edits = 1 } in r) ≡ return_of 1 (metadata_back m)
      of_metadata None = refl
      of_metadata (Some m) = refl

  pub undone_by : (task : Task) (q : LainPart) (t : LiveChange) → IsUndoneBy task x q → TurnsAs t (effect_of task x) → undoing 1 t live l ≡ return_of 1 q
  undone_by task q t is as' = undoing_as t (effect_of task x) as' ∙ by_effect task q is

  -- the places that this brings are those of what leaves
  omitted_mapped : {X Y Z : Type 0} (f : X → Z) (c : List (Act X)) (ys : List Y) → omitted (mapped f c) ys ≡ omitted c ys
  omitted_mapped f [] ys = refl
  omitted_mapped f (bring z ∷ c) ys = omitted_mapped f c ys
  omitted_mapped f (keep ∷ c) [] = omitted_mapped f c []
  omitted_mapped f (keep ∷ c) (y ∷ ys) = omitted_mapped f c ys
  omitted_mapped f (omit ∷ c) [] = omitted_mapped f c []
  omitted_mapped f (omit ∷ c) (y ∷ ys) = ap (λ l. y ∷ l) (omitted_mapped f c ys)

  omitted_there : {X Y Z : Type 0} (g : Y → Z) (c : List (Act X)) (ys : List Y) → omitted c (map g ys) ≡ map g (omitted c ys)
  omitted_there g [] ys = refl
  omitted_there g (bring z ∷ c) ys = omitted_there g c ys
  omitted_there g (keep ∷ c) [] = omitted_there g c []
  omitted_there g (keep ∷ c) (y ∷ ys) = omitted_there g c ys
  omitted_there g (omit ∷ c) [] = omitted_there g c []
  omitted_there g (omit ∷ c) (y ∷ ys) = ap (λ l. g y ∷ l) (omitted_there g c ys)

  tiles_at : (ts : List CodeTile) → map lain_place (map lain_tile ts) ≡ map tile_place ts
  tiles_at [] = refl
  tiles_at (t ∷ ts) = λ k. record { span = record { at = t.span.at; len = sym t.extent k }; walked = t.walked } ∷ tiles_at ts k

  attachments_at : (as' : List CodeAttItem) → map attachment_place (map lain_attachment as') ≡ map att_item_place as'
  attachments_at [] = refl
  attachments_at (a ∷ as') = λ k. record { span = record { at = a.span.at; len = sym a.extent k }; walked = a.walked } ∷ attachments_at as' k

  metadata_at : (c : CodeSetting CodeMetaItem) (m : Option CodeMetaItem) → map metadata_place (option_to_list (set_omitted (mapped_setting meta_item_of (setting_of c)) (option_map lain_metadata m))) ≡ option_to_list (option_map meta_item_place (set_omitted (setting_of c) m))
  metadata_at Same m = refl
  metadata_at (To None) None = refl
  metadata_at (To None) (Some m) = λ k. record { span = record { at = m.span.at; len = sym m.extent k }; walked = m.walked } ∷ []
  metadata_at (To (Some n)) None = refl
  metadata_at (To (Some n)) (Some m) = λ k. record { span = record { at = m.span.at; len = sym m.extent k }; walked = m.walked } ∷ []

  pub places_left : (c : CodeChange) → return_places (undoing 1 (live_change_of c x) live l) ≡ left_items c x
  places_left c =
      let T = mapped tile_of (acts_of c.tiles.items) in
      let A = mapped att_item_of (acts_of c.attachments.items) in
      let M = mapped_setting meta_item_of (setting_of c.metadata) in
      let tiles : map lain_place (brought (inverted T (lain live.tiles l.subblocks))) ≡ map tile_place (omitted (acts_of c.tiles.items) x.tiles.items) =
      ap (map lain_place) (brought_inverted T (lain live.tiles l.subblocks) ∙ (ap (omitted T) tiles_lain ∙ (omitted_mapped tile_of (acts_of c.tiles.items) (map lain_tile x.tiles.items) ∙ omitted_there lain_tile (acts_of c.tiles.items) x.tiles.items)))
      ∙ tiles_at (omitted (acts_of c.tiles.items) x.tiles.items) in
      let atts : map attachment_place (brought (inverted A (lain live.attachments l.attachments))) ≡ map att_item_place (omitted (acts_of c.attachments.items) x.attachments.items) =
      ap (map attachment_place) (brought_inverted A (lain live.attachments l.attachments) ∙ (ap (omitted A) attachments_lain ∙ (omitted_mapped att_item_of (acts_of c.attachments.items) (map lain_attachment x.attachments.items) ∙ omitted_there lain_attachment (acts_of c.attachments.items) x.attachments.items)))
      ∙ attachments_at (omitted (acts_of c.attachments.items) x.attachments.items) in
      let meta : map metadata_place (option_to_list (set_new (inverted_setting M (lain_option live.metadata l.metadata)))) ≡ option_to_list (option_map meta_item_place (set_omitted (setting_of c.metadata) x.metadata)) =
      ap (λ o. map metadata_place (option_to_list o)) (set_inverted M (lain_option live.metadata l.metadata) ∙ ap (set_omitted M) metadata_lain) ∙ metadata_at c.metadata x.metadata in
      λ k. tiles k ++ (atts k ++ meta k)

-- its place is in range in the document afterwards
item_inside : {X : Type 0} (i : ℕ) (x : X) (xs : List X) → ItemAt i x xs → i < length xs
item_inside zero x [] at = absurd at
item_inside (suc i) x [] at = absurd at
item_inside zero x (y ∷ xs) at = omega arith
item_inside (suc i) x (y ∷ xs) at = omega (arith, item_inside i x xs at)

one_more : {X : Type 0} (x : X) (n : ℕ) (xs : List X) → length xs ≡ n → n < length (changed (past n (bring x ∷ [])) xs)
one_more x zero [] long = omega arith
one_more x (suc n) [] long = absurd (cc (long))
one_more x zero (y ∷ xs) long = absurd (cc (long))
one_more x (suc n) (y ∷ xs) long = omega (arith, one_more x n xs (omega (arith, long)))

as_many : {X : Type 0} (x : X) (i : ℕ) (xs : List X) → i < length xs → i < length (changed (put i x) xs)
as_many x i [] low = omega (arith, low)
as_many x zero (y ∷ xs) low = omega arith
as_many x (suc i) (y ∷ xs) low = omega (arith, as_many x i xs (omega (arith, low)))

one_less : {X : Type 0} (i : ℕ) (xs : List X) → i < length xs → i ≤ length (changed (out i) xs)
one_less i [] low = omega (arith, low)
one_less zero (y ∷ xs) low = omega arith
one_less (suc i) (y ∷ xs) low = omega (arith, one_less i xs (omega (arith, low)))

pub in_range_after : (x : Index) (d : Document) (task : Task) (q : LainPart) → length d.subblocks ≡ length x.tiles.items → length d.attachments ≡ length x.attachments.items → IsUndoneBy task x q
    → in_range q (after (effect_of task x) d) ≡ true
in_range_after x d (Add new) q tiles atts is = ap (λ z. in_range z (after (effect_of (Add new) x) d)) is ∙ lt-ltb _ _ (one_more (subblock_of new) (length x.tiles.items) d.subblocks tiles)
in_range_after x d (Replace i new) q tiles atts is = ap (λ z. in_range z (after (effect_of (Replace i new) x) d)) is.2 ∙ lt-ltb _ _ (as_many (subblock_of new) i d.subblocks (omega (arith, tiles, item_inside i is.0 x.tiles.items is.1)))
in_range_after x d (Remove i) q tiles atts is = ap (λ z. in_range z (after (effect_of (Remove i) x) d)) is.2 ∙ le-leb _ _ (one_less i d.subblocks (omega (arith, tiles, item_inside i is.0 x.tiles.items is.1)))
in_range_after x d (Attach info bytes) q tiles atts is = ap (λ z. in_range z (after (effect_of (Attach info bytes) x) d)) is ∙ lt-ltb _ _ (one_more _ (length x.attachments.items) d.attachments atts)
in_range_after x d (Reattach i info bytes) q tiles atts is = ap (λ z. in_range z (after (effect_of (Reattach i info bytes) x) d)) is.2 ∙ lt-ltb _ _ (as_many _ i d.attachments (omega (arith, atts, item_inside i is.0 x.attachments.items is.1)))
in_range_after x d (Detach i) q tiles atts is = ap (λ z. in_range z (after (effect_of (Detach i) x) d)) is.2 ∙ le-leb _ _ (one_less i d.attachments (omega (arith, atts, item_inside i is.0 x.attachments.items is.1)))
in_range_after x d (SetMeta xml tail) q tiles atts is = ap (λ z. in_range z (after (effect_of (SetMeta xml tail) x) d)) is ∙ of_metadata x.metadata
  where
    of_metadata : (m : Option CodeMetaItem) → in_range (metadata_back m) (after (effect_of (SetMeta xml tail) x) d) ≡ true
    of_metadata None = refl
    of_metadata (Some m) = refl

-- What an inverse holds back begins and ends at multiples of 32.
usable_whole : (places : List Place) → AllByRecursion (λ (p : Place). 0 < p.span.len) places → AllByRecursion IsWhole (spans_of (filter can_be_used places))
usable_whole [] all = tt
usable_whole (p ∷ places) all = elim (cases_Bool (can_be_used p)) [
  | inl e ↦ rw e (
      let even = both_true p.walked (is_aligned p.span) e in
      let both = aligned_is p.span even.1 in
      (record { at = both.0; len = both.1; some = all.0 }, usable_whole places all.1))
  | inr e ↦ rw e (usable_whole places all.1)
]

all_some : {X : Type 0} (f : X → Place) (xs : List X) → ((x : X) → 0 < (f x).span.len) → AllByRecursion (λ (p : Place). 0 < p.span.len) (map f xs)
all_some f [] some = tt
all_some f (x ∷ xs) some = (some x, all_some f xs some)

places_some : (r : Return) → AllByRecursion (λ (p : Place). 0 < p.span.len) (return_places r)
places_some r =
    All-both (λ (p : Place). 0 < p.span.len) (map lain_place (brought r.tiles)) _ (all_some lain_place (brought r.tiles) (λ y. omega arith))
    (All-both (λ (p : Place). 0 < p.span.len) (map attachment_place (brought r.attachments)) _ (all_some attachment_place (brought r.attachments) (λ y. omega arith))
    (all_some metadata_place (option_to_list (set_new r.metadata)) (λ y. omega arith)))

one_whole : (held : Option CodeSpan) (spans : List Span) → map span_of (option_to_list held) ≡ spans → AllByRecursion IsWhole spans → ForSome held (λ s. IsWhole (span_of s))
one_whole None spans is all s e = absurd (cc (e))
one_whole (Some a) spans is all s e =
    let whole : AllByRecursion IsWhole (span_of a ∷ []) = subst (AllByRecursion IsWhole) (sym is) all in
    let same : a ≡ s = cc (e) in
    subst (λ (z : CodeSpan). IsWhole (span_of z)) same whole.0

fewer_whole : (n : ℕ) (edits : List (Option CodeSpan)) → AreWhole edits → AreWhole (take n edits)
fewer_whole zero edits all = tt
fewer_whole (suc n) [] all = tt
fewer_whole (suc n) (e ∷ edits) all = (all.0, fewer_whole n edits all.1)

fewer_ones : (n : ℕ) (is : List Inverse) → TakeOneBack is → TakeOneBack (take n is)
fewer_ones zero is all = tt
fewer_ones (suc n) [] all = tt
fewer_ones (suc n) (i ∷ is) all = (all.0, fewer_ones n is all.1)

pub take_map : {X Y : Type 0} (f : X → Y) (n : ℕ) (xs : List X) → map f (take n xs) ≡ take n (map f xs)
take_map f zero xs = refl
take_map f (suc n) [] = refl
take_map f (suc n) (x ∷ xs) = ap (λ l. f x ∷ l) (take_map f n xs)

pub one_back : (task : Task) (x : Index) (i : Inverse) → InverseUndoes task x i → i.edits ≡ 1
one_back task x i undoes = undoes.1.edits ∙ undoes.3

-- the inverse of an edit before those that are kept
pub few_after : (x : EngineState) (task : Task) (i : Inverse) → InverseUndoes task x.index i → FewKept x.edits → FewKept (edits_after i x)
few_after x task i undoes few = record {
  whole = (
    one_whole (holds_of i) _ (holds_usable i undoes.0 undoes.1) (usable_whole (return_places (return_of_single undoes.0)) (places_some (return_of_single undoes.0))),
    subst AreWhole (sym (take_map holds_of 31 x.edits)) (fewer_whole 31 (map holds_of x.edits) few.whole),
  );
  ones = (one_back task x.index i undoes, fewer_ones 31 x.edits few.ones);
  few = omega (arith, length-take 31 x.edits);
}

-- the inverse of one part
pub inverse_undoes : (r : Result Inverse AllocError) (part : Part) (task : Task) (x : Index) → PartUndoes task x part → IfOk r (λ i. (i.parts.items ≡ part ∷ []) × (i.edits ≡ 1)) → IfOk r (InverseUndoes task x)
inverse_undoes (Ok i) part task x undoes one = (record { part = undoes.0; edits = 1 }, record { part = part; only = one.0; is = undoes.1; edits = one.1 }, undoes.2, refl)
inverse_undoes (Err e) part task x undoes one = tt

-- the item at a place
pub item_there : {X : Type 0} (i : ℕ) (xs : List X) (y : X) → i < length xs → y ≡ slice_index_or xs i y → ItemAt i y xs
item_there i [] y low e = let none : ℕ = 0 in let no : none ≡ 1 = omega (arith, low) in absurd (cc (no))
item_there zero (x ∷ xs) y low e = sym e
item_there (suc i) (x ∷ xs) y low e = item_there i xs y (omega (arith, low)) e
