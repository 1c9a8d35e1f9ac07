-- The plan of an edit, as a command of the machine.
use Rattle.std.proofs.Common.{◌≡◌, ℕ, zero, suc, ◌+◌, ◌-◌, ◌<◌, ◌≤◌, ◌^◌, List, [], ◌∷◌, map, take, length, true, false, nat_le, nat_lt, Bool, not, bytes_eq, cond, position, Option, Some, None, filter, option_map, option_to_list, Result, Ok, Err, refl, ap, sym, ◌∙◌, subst, arith, inl, inr}
use Rattle.std.specs.Prelude.{IfSome, IsErrAnd, IsFalse}
use Rattle.std.specs.List.{AllByRecursion, prefix_len}
use Rattle.std.specs.Option.{ForSome, option_or}
use Rattle.std.proofs.lemmas.Bool.{and_from, cases_Bool, le-leb, leb-true, lt-ltb, le-ltb}
use Rattle.std.proofs.lemmas.List.{length-map}
use Rattle.std.proofs.lemmas.List.Quantifiers.{position-Some}
use Rattle.czi_format.specs.Document.{Attachment, Document, Metadata, Subblock}
use Rattle.czi_format.specs.Entry.{Dim}
use Rattle.czi_format.specs.FirstFault.{◌>>=◌, ◌>>◌, unless, with_fault}
use Rattle.czi_format.specs.Key.{attachment_key, key}
use Rattle.czi_format.specs.Layout.{Place, Layout}
use Rattle.czi_format.specs.Live.{AttItem, Live, Tile, attachment_of, document, subblock_of}
use Rattle.czi_format.specs.Space.{Full}
use Rattle.czi_image.specs.Change.{live_change_of}
use Rattle.czi_image.specs.View.{att_item_of, tile_of}
use Rattle.czi_image.specs.declared.types.AttItem.{AttItem as CodeAttItem}
use Rattle.czi_image.specs.declared.types.Tile.{Tile as CodeTile}
use Rattle.czi_image.specs.declared.index.Index.{Index}
use Rattle.czi_machine.specs.Change.{into, out, put}
use Rattle.czi_machine.specs.Edit.{Edit, DocumentEffect, Refusal, add, after, attach, attachment_with as named_in_document, detach, duplicate, effect, fits, found, in_attachments, in_subblocks, not_found, reattach, remove, replace, same_key, set_meta, subblock_with, to_metadata, too_many}
use Rattle.czi_machine.specs.Fits.{FitsEffect}
use Rattle.czi_machine.specs.Machine.{after_edit, after_effect, as_refusal, edited, kept_formers, within_bounds}
use Rattle.czi_machine.specs.Places.{can_be_used}
use Rattle.czi_machine.specs.Formers.{present, undoing}
use Rattle.czi_machine.specs.State.{Former, Items, State, item_places, item_spans, items_of, not_among, spans_of}
use Rattle.czi_machine.specs.LiveChange.{LiveChange, changed_live}
use Rattle.czi_machine.proofs.Follow.{fits_turn, spans_follow}
use Rattle.czi_machine.proofs.Ordering.{fits_in_order, full_in_order}
use Rattle.czi_num.specs.Span.{span_of}
use Rattle.czi_num.specs.declared.span.Span.{Span as CodeSpan}
use Rattle.czi_plan.specs.Conditions.{LiesIn}
use Rattle.czi_plan.specs.Does.{Does, DoesIn, HasNoPlan, layout_by}
use Rattle.czi_plan.specs.Plan.{IsPlan}
use Rattle.czi_plan.specs.Search.{attachment_with, tile_with}
use Rattle.czi_plan.specs.declared.plan.PlanFault.{PlanFault}
use Rattle.czi_plan.specs.declared.plan.PlanFault.TheVariants.{Full as NoPlaceIn, Memory as NoMemory}
use Rattle.czi_engine.specs.Devices.{Fault, of_refusal, of_memory, of_device, edit_fault, is_device, refusal_in, refusal_of}
use Rattle.czi_engine.specs.Editing.{AsBefore, Goes, Refuses, unplanned}
use Rattle.czi_engine.specs.Limits.{TellsNew, attachment_pieces, first_past_limit, metadata_pieces, subblock_pieces}
use Rattle.czi_undo.specs.Holding.{holds_of}
use Rattle.czi_undo.specs.Laws.{LiesBefore}
use Rattle.czi_undo.specs.Parts.{return_of, return_places}
use Rattle.czi_undo.specs.Stands.{AreSingle}
use Rattle.czi_undo.specs.Told.{FitAll, Single, few_items, return_of_single}
use Rattle.czi_undo.specs.declared.inverse.Inverse.{Inverse}
use Rattle.czi_undo.proofs.Steps.{edits_lie}
use Rattle.czi_undo.proofs.Usable.{holds_usable}
use Rattle.czi_engine.specs.Inverting.{InverseUndoes}
use Rattle.czi_engine.specs.Prepared.{GoesBy, Prepares, edits_after}
use Rattle.czi_engine.specs.Tasks.{Means, effect_of}
use Rattle.czi_engine.specs.Standing.{HasItsMap, HasState, HoldBack, Origin, spans_held}
use Rattle.czi_engine.specs.declared.engine.Engine.{Engine}
use Rattle.czi_engine.specs.declared.engine.EngineState.{EngineState}
use Rattle.czi_engine.specs.declared.error.EditError.{EditError}
use Rattle.czi_engine.specs.declared.planning.Task.{Task}
use Rattle.czi_engine.specs.declared.error.EditError.TheVariants as edits
use Rattle.czi_engine.proofs.Apart.{in_order_apart}
use Rattle.czi_engine.proofs.Fitting.{same_space}
use Rattle.czi_engine.proofs.Inverting.{in_range_after, places_left, take_map, undone_by}
use Rattle.czi_engine.proofs.Going.{before_here}

prefix_map : {X Y : Type 0} (f : X → Y) (p : Y → Bool) (xs : List X) → prefix_len p (map f xs) ≡ prefix_len (λ x. p (f x)) xs
prefix_map f p [] = refl
prefix_map f p (x ∷ xs) = ap (λ n. cond (p (f x)) (1 + n) 0) (prefix_map f p xs)

position_map : {X Y : Type 0} (f : X → Y) (p : Y → Bool) (xs : List X) → position p (map f xs) ≡ position (λ x. p (f x)) xs
position_map f p xs =
    let same = prefix_map f (λ y. not (p y)) xs in
    λ i. cond (nat_lt (same i) (length-map xs f i)) (Some (same i)) None

-- what is read of subblocks has the keys of their entries
same_search : (bytes : List ℕ) (live : Live) (d : Document) (tiles : List CodeTile) (dims : List Dim) → d ≡ document bytes live → map tile_of tiles ≡ live.tiles → subblock_with dims d ≡ tile_with dims (map tile_of tiles)
same_search bytes live d tiles dims is holds =
    ap (subblock_with dims) is
    ∙ (position_map (subblock_of bytes) (λ (s : Subblock). same_key (key s.info.dims) (key dims)) live.tiles ∙ ap (tile_with dims) (sym holds))

-- what is read of attachments has the names of their entries
same_name : (bytes : List ℕ) (live : Live) (d : Document) (items : List CodeAttItem) (name : List ℕ) → d ≡ document bytes live → map att_item_of items ≡ live.attachments → named_in_document name d ≡ attachment_with name (map att_item_of items)
same_name bytes live d items name is holds =
    ap (named_in_document name) is
    ∙ (position_map (attachment_of bytes) (λ (a : Attachment). bytes_eq (attachment_key a.info) name) live.attachments ∙ ap (attachment_with name) (sym holds))

-- where the engine finds an item the document has it, and both have as many
tile_there : (x : EngineState) (dims : List Dim) (o : Origin) (bytes : List ℕ) (live : Live) (s : State) → HasState o bytes live s x → subblock_with dims s.document ≡ tile_with dims (map tile_of x.index.tiles.items)
tile_there x dims o bytes live s has = same_search bytes live s.document x.index.tiles.items dims has.stands.lies.document has.holds.tiles

attachment_there : (x : EngineState) (name : List ℕ) (o : Origin) (bytes : List ℕ) (live : Live) (s : State) → HasState o bytes live s x → named_in_document name s.document ≡ attachment_with name (map att_item_of x.index.attachments.items)
attachment_there x name o bytes live s has = same_name bytes live s.document x.index.attachments.items name has.stands.lies.document has.holds.attachments

as_many_tiles : (x : EngineState) (o : Origin) (bytes : List ℕ) (live : Live) (s : State) → HasState o bytes live s x → length s.document.subblocks ≡ length x.index.tiles.items
as_many_tiles x o bytes live s has =
    ap (λ (d : Document). length d.subblocks) has.stands.lies.document ∙ (length-map live.tiles (subblock_of bytes) ∙ (ap (length {A = Tile}) (sym has.holds.tiles) ∙ length-map x.index.tiles.items tile_of))

as_many_attachments : (x : EngineState) (o : Origin) (bytes : List ℕ) (live : Live) (s : State) → HasState o bytes live s x → length s.document.attachments ≡ length x.index.attachments.items
as_many_attachments x o bytes live s has =
    ap (λ (d : Document). length d.attachments) has.stands.lies.document ∙ (length-map live.attachments (attachment_of bytes) ∙ (ap (length {A = AttItem}) (sym has.holds.attachments) ∙ length-map x.index.attachments.items att_item_of))

-- What refuses an edit before anything else: a piece past its limit, and where an item comes to a list, one with its key, or
-- that the list is full.
abbrev pub in_limits : List (List ℕ × ℕ) → Result DocumentEffect Refusal → Result DocumentEffect Refusal
in_limits [] rest = rest
in_limits (p ∷ pieces) rest = fits p.0 p.1 >> in_limits pieces rest

abbrev pub as_new : Option ℕ → (count limit : ℕ) → DocumentEffect → Result DocumentEffect Refusal
as_new there count limit e = not_found there >> (unless (nat_lt count limit) (too_many count) >> Ok e)

abbrev pub at_found : Option ℕ → (ℕ → DocumentEffect) → Result DocumentEffect Refusal
at_found there e = found there >>= λ i. Ok (e i)

-- What each edit does, in the words of the engine.
pub addition_means : (x : EngineState) (s : Subblock)
    → Means x (add s) (in_limits (subblock_pieces s.meta s.pixels s.tail) (as_new (tile_with s.info.dims (map tile_of x.index.tiles.items)) (length x.index.tiles.items) (2 ^ 20) (in_subblocks (into (length x.index.tiles.items) s))))
addition_means x s o bytes live t has = λ j. in_limits (subblock_pieces s.meta s.pixels s.tail)
    (as_new (tile_there x s.info.dims o bytes live t has j) (as_many_tiles x o bytes live t has j) (2 ^ 20) (in_subblocks (into (as_many_tiles x o bytes live t has j) s)))

pub replacement_means : (x : EngineState) (s : Subblock) → Means x (replace s) (in_limits (subblock_pieces s.meta s.pixels s.tail) (at_found (tile_with s.info.dims (map tile_of x.index.tiles.items)) (λ i. in_subblocks (put i s))))
replacement_means x s o bytes live t has = λ j. in_limits (subblock_pieces s.meta s.pixels s.tail) (at_found (tile_there x s.info.dims o bytes live t has j) (λ i. in_subblocks (put i s)))

pub removal_means : (x : EngineState) (dims : List Dim) → Means x (remove dims) (at_found (tile_with dims (map tile_of x.index.tiles.items)) (λ i. in_subblocks (out i)))
removal_means x dims o bytes live t has = λ j. at_found (tile_there x dims o bytes live t has j) (λ i. in_subblocks (out i))

pub attachment_means : (x : EngineState) (a : Attachment)
    → Means x (attach a) (in_limits (attachment_pieces a.bytes) (as_new (attachment_with (attachment_key a.info) (map att_item_of x.index.attachments.items)) (length x.index.attachments.items) (2 ^ 12) (in_attachments (into (length x.index.attachments.items) a))))
attachment_means x a o bytes live t has = λ j. in_limits (attachment_pieces a.bytes)
    (as_new (attachment_there x (attachment_key a.info) o bytes live t has j) (as_many_attachments x o bytes live t has j) (2 ^ 12) (in_attachments (into (as_many_attachments x o bytes live t has j) a)))

pub reattachment_means : (x : EngineState) (a : Attachment)
    → Means x (reattach a) (in_limits (attachment_pieces a.bytes) (at_found (attachment_with (attachment_key a.info) (map att_item_of x.index.attachments.items)) (λ i. in_attachments (put i a))))
reattachment_means x a o bytes live t has = λ j. in_limits (attachment_pieces a.bytes) (at_found (attachment_there x (attachment_key a.info) o bytes live t has j) (λ i. in_attachments (put i a)))

pub detachment_means : (x : EngineState) (name : List ℕ) → Means x (detach name) (at_found (attachment_with name (map att_item_of x.index.attachments.items)) (λ i. in_attachments (out i)))
detachment_means x name o bytes live t has = λ j. at_found (attachment_there x name o bytes live t has j) (λ i. in_attachments (out i))

pub metadata_means : (x : EngineState) (m : Metadata) → Means x (set_meta m) (in_limits (metadata_pieces m.xml m.tail) (Ok (to_metadata m)))
metadata_means x m o bytes live t has = refl

-- the same told otherwise
pub means_as : (x : EngineState) (c : Edit) (r r' : Result DocumentEffect Refusal) → Means x c r → r ≡ r' → Means x c r'
means_as x c r r' means is o bytes live s has = means o bytes live s has ∙ is

-- the first piece past its limit refuses, whatever comes after it
pub limit_refuses : (pieces : List (List ℕ × ℕ)) (rest : Result DocumentEffect Refusal) (r : Refusal) → first_past_limit pieces ≡ Some r → in_limits pieces rest ≡ Err r
limit_refuses [] rest r e = absurd (cc (e))
limit_refuses (p ∷ pieces) rest r e = on_first (fits p.0 p.1) (first_past_limit pieces) (in_limits pieces rest) r e (limit_refuses pieces rest r)
  where
    on_first : (f more : Option Refusal) (rest : Result DocumentEffect Refusal) (r : Refusal) → option_or f more ≡ Some r → (more ≡ Some r → rest ≡ Err r) → f >> rest ≡ Err r
    on_first (Some a) more rest r e go = let one : a ≡ r = cc (e) in ap (λ (z : Refusal). Err z) one
    on_first None more rest r e go = go e

none_of : (a b : Option Refusal) → option_or a b ≡ None → (a ≡ None) × (b ≡ None)
none_of None b e = (refl, e)
none_of (Some r) b e = absurd (cc (e))

pub limit_passes : (pieces : List (List ℕ × ℕ)) (rest : Result DocumentEffect Refusal) → first_past_limit pieces ≡ None → in_limits pieces rest ≡ rest
limit_passes [] rest e = refl
limit_passes (p ∷ pieces) rest e = let both = none_of (fits p.0 p.1) (first_past_limit pieces) e in (λ j. both.0 j >> in_limits pieces rest) ∙ limit_passes pieces rest both.1

-- pieces within their limits are no longer than these
fits_short : (piece : List ℕ) (limit : ℕ) → fits piece limit ≡ None → length piece ≤ limit
fits_short piece limit none = elim (cases_Bool (nat_le (length piece) limit)) [
  | inl e ↦ leb-true _ _ e
  | inr e ↦ absurd (let some = rw e at none in cc (some))
]

pub short_pieces : (pieces : List (List ℕ × ℕ)) → first_past_limit pieces ≡ None → AllByRecursion (λ (p : List ℕ × ℕ). length p.0 ≤ p.1) pieces
short_pieces [] e = tt
short_pieces (p ∷ pieces) e = let both = none_of (fits p.0 p.1) (first_past_limit pieces) e in (fits_short p.0 p.1 both.0, short_pieces pieces both.1)

-- why an item may not come, and that it may
pub new_refuses : (there : Option ℕ) (count limit : ℕ) (e : DocumentEffect) (error : EditError) → TellsNew there count limit error → (r : Refusal) × (refusal_of error ≡ Some r) × (as_new there count limit e ≡ Err r)
new_refuses there count limit e (edits.Duplicate place) told = (duplicate place, refl, ap (λ (f : Option ℕ). as_new f count limit e) told)
new_refuses there count limit e (edits.TooMany n) told =
    let full : nat_lt count limit ≡ false = le-ltb _ _ (omega (arith, told.1, told.2)) in
    (too_many n, refl, λ j. not_found (told.0 j) >> (unless (full j) (too_many (sym told.1 j)) >> Ok e))
new_refuses there count limit e (edits.TooLong n most) told = absurd told
new_refuses there count limit e edits.NoKey told = absurd told
new_refuses there count limit e (edits.Full need n) told = absurd told
new_refuses there count limit e edits.Memory told = absurd told
new_refuses there count limit e edits.ImageDevice told = absurd told
new_refuses there count limit e edits.JournalDevice told = absurd told

pub new_passes : (there : Option ℕ) (count limit : ℕ) (e : DocumentEffect) → there ≡ None → count < limit → as_new there count limit e ≡ Ok e
new_passes there count limit e none few = let room : nat_lt count limit ≡ true = lt-ltb _ _ few in λ j. not_found (none j) >> (unless (room j) (too_many count) >> Ok e)

pub tile_inside : (dims : List Dim) (tiles : List Tile) (i : ℕ) → tile_with dims tiles ≡ Some i → i < length tiles
tile_inside dims [] i e = absurd (cc (e))
tile_inside dims (t ∷ tiles) i e = (position-Some (λ (x : Tile). same_key (key x.entry.info.dims) (key dims)) (t ∷ tiles) i t e).0

pub attachment_inside : (name : List ℕ) (items : List AttItem) (i : ℕ) → attachment_with name items ≡ Some i → i < length items
attachment_inside name [] i e = absurd (cc (e))
attachment_inside name (a ∷ items) i e = (position-Some (λ (x : AttItem). bytes_eq (attachment_key x.entry.info) name) (a ∷ items) i a e).0

-- as many formers are kept as edits, while each takes one edit back
bounded : (n left : ℕ) (newer : Items) (fs : List Former) (edits : List (Option CodeSpan)) → HoldBack newer fs edits → n ≤ left → take (within_bounds n left fs) fs ≡ take n fs
bounded zero left newer fs edits back few = refl
bounded (suc n) left newer [] edits back few = refl
bounded (suc n) left newer (f ∷ fs) [] back few = absurd back
bounded (suc n) left newer (f ∷ fs) (e ∷ edits) back few =
    let one : nat_le f.edits left ≡ true = le-leb _ _ (omega (arith, back.1, few)) in
    rw one (ap (λ z. f ∷ z) (bounded n (left - f.edits) f.items fs edits back.2 (omega (arith, back.1, few))))

formers_kept : (s : State) (edits : List (Option CodeSpan)) → HoldBack (items_of s.layout) s.formers edits → take (kept_formers 1 s) s.formers ≡ take 31 s.formers
unfolding kept_formers
formers_kept s edits back = bounded 31 127 (items_of s.layout) s.formers edits back (omega arith)

-- the edits that are kept hold back what the formers that are kept do
fewer_back : (n : ℕ) (newer : Items) (formers : List Former) (edits : List (Option CodeSpan)) → HoldBack newer formers edits → HoldBack newer (take n formers) (take n edits)
fewer_back zero newer formers edits back = tt
fewer_back (suc n) newer [] [] back = tt
fewer_back (suc n) newer [] (e ∷ edits) back = absurd back
fewer_back (suc n) newer (f ∷ formers) [] back = absurd back
fewer_back (suc n) newer (f ∷ formers) (e ∷ edits) back = (back.0, back.1, fewer_back n f.items formers edits back.2)

-- and so it is of what brings them back
told_kept : (n left : ℕ) (newer : Items) (a : Former) (fs : List Former) (edits : List (Option CodeSpan)) (os : List Single) → HoldBack newer fs edits → FitAll a os fs → n ≤ left → take (within_bounds n left fs) os ≡ take n os
told_kept zero left newer a fs edits os back fit few = refl
told_kept (suc n) left newer a [] edits [] back fit few = refl
told_kept (suc n) left newer a [] edits (o ∷ os) back fit few = absurd fit
told_kept (suc n) left newer a (f ∷ fs) [] os back fit few = absurd back
told_kept (suc n) left newer a (f ∷ fs) (e ∷ edits) [] back fit few = absurd fit
told_kept (suc n) left newer a (f ∷ fs) (e ∷ edits) (o ∷ os) back fit few =
    let one : nat_le f.edits left ≡ true = le-leb _ _ (omega (arith, back.1, few)) in
    rw one (ap (λ z. o ∷ z) (told_kept n (left - f.edits) f.items f fs edits os back.2 fit.2 (omega (arith, back.1, few))))

told_back : (s : State) (edits : List (Option CodeSpan)) (os : List Single) → HoldBack (items_of s.layout) s.formers edits → FitAll (present s) os s.formers → take (kept_formers 1 s) os ≡ take 31 os
unfolding kept_formers
told_back s edits os back fit = told_kept 31 127 (items_of s.layout) (present s) s.formers edits os back fit (omega arith)

fewer_told : (n : ℕ) (is : List Inverse) (os : List Single) → AreSingle is os → AreSingle (take n is) (take n os)
fewer_told zero is os single = tt
fewer_told (suc n) [] [] single = tt
fewer_told (suc n) [] (o ∷ os) single = absurd single
fewer_told (suc n) (i ∷ is) [] single = absurd single
fewer_told (suc n) (i ∷ is) (o ∷ os) single = (single.0, fewer_told n is os single.1)

-- the lists of a document of an engine are within their limits
few_there : (x : EngineState) (o : Origin) (bytes : List ℕ) (live : Live) (s : State) → HasState o bytes live s x → few_items s.document ≡ true
few_there x o bytes live s has =
    let tiles : length s.document.subblocks ≤ 2 ^ 20 = omega (arith, as_many_tiles x o bytes live s has, x.index.few_tiles, x.index.tiles.ok) in
    let attachments : length s.document.attachments ≤ 2 ^ 12 = omega (arith, as_many_attachments x o bytes live s has, x.index.few_attachments, x.index.attachments.ok) in
    and_from _ _ (le-leb _ _ tiles) (le-leb _ _ attachments)

-- a state that lies in an engine
pub lies_in : (o : Origin) (bytes : List ℕ) (live : Live) (s : State) (x : EngineState) → HasState o bytes live s x → HasItsMap x → LiesIn bytes live s x.index x.map
lies_in o bytes live s x has own = record { loosely = has.stands.lies; holds = has.holds; lies = has.lies; space = same_space o bytes live s x has own }

-- a plan that does what an edit does is that command of the machine
pub plan_means : (x : Engine) (c : Edit) (task : Task) (inverse : Inverse) → HasItsMap x.state → InverseUndoes task x.state.index inverse → Means x.state c (Ok (effect_of task x.state.index))
    → IsPlan x.state.index x.state.map x.scratch.region x.scratch.plan → Does x.state.index x.state.map x.scratch.region x.scratch.plan (effect_of task x.state.index)
    → (o : Origin) (bytes : List ℕ) (live : Live) (s : State) → HasState o bytes live s x.state → GoesBy (λ s. after_edit s c) bytes live s x (edits_after inverse x.state)
plan_means x c task inverse own undoes leads plan does o' bytes live s has =
    let p = x.scratch.plan in
    let e : DocumentEffect = effect_of task x.state.index in
    let turn : LiveChange = live_change_of p.change x.state.index in
    let d : DoesIn bytes live s x.state.index x.scratch.region p e = does bytes live s (lies_in o' bytes live s x.state has own) in
    let l' : Layout = layout_by p s in
    let s' : State = edited s 1 (after e s.document) l' in
    let next : after_effect s e ≡ Ok s' = ap (λ (r : Result Layout Full). with_fault as_refusal r >>= λ l. Ok (edited s 1 (after e s.document) l)) d.goes in
    let fits : FitsEffect s e turn = fits_in_order s e turn _ d.fits d.order in
    let spans = spans_follow s.layout l' live turn has.stands.lies.extents (fits_turn s s' e turn fits next) in
    let o : Single = undoes.0 in
    let returns : undoing 1 turn live s.layout ≡ return_of_single o =
    undone_by x.state.index live s.layout has.holds has.lies task o.part turn undoes.2 (d.order.tiles, d.order.attachments, d.order.metadata) ∙ ap (λ n. return_of n o.part) (sym undoes.3) in
    let first : Former = record { document = s.document; items = items_of s.layout; edits = 1 } in
    let kept : first ∷ take (kept_formers 1 s) s.formers ≡ first ∷ take 31 s.formers = ap (λ fs. first ∷ fs) (formers_kept s (spans_held x.state) has.edits) in
    let spans_kept : map holds_of (edits_after inverse x.state) ≡ holds_of inverse ∷ take 31 (spans_held x.state) = ap (λ es. holds_of inverse ∷ es) (take_map holds_of 31 x.state.edits) in
    let leaves : map span_of (option_to_list (holds_of inverse)) ≡ spans_of (filter can_be_used (not_among (item_spans (items_of l')) (item_places (items_of s.layout)))) =
    holds_usable inverse o undoes.1 ∙ ap (λ ps. spans_of (filter can_be_used ps)) (ap return_places (sym returns) ∙ (places_left x.state.index live s.layout has.holds has.lies p.change ∙ sym d.leaves)) in
    let told = has.back.told in
    let os_kept : take (kept_formers 1 s) told ≡ take 31 told = told_back s (spans_held x.state) told has.edits has.back.back.fit in
    record {
      state = s';
      goes = ap (λ r. r >>= after_effect s) (leads o' bytes live s has) ∙ next;
      leads = inl (e, next);
      effect = e;
      document = refl;
      layout = refl;
      spans = spans;
      plans = d.plans;
      apart = in_order_apart bytes live s x.state e p has.stands.lies has.stands.tidy has.lies plan.apart d.order;
      holds = subst (λ (fs : List Former). HoldBack (items_of l') fs (map holds_of (edits_after inverse x.state))) (sym kept)
          (subst (HoldBack (items_of l') (first ∷ take 31 s.formers)) (sym spans_kept) (leaves, refl, fewer_back 31 (items_of s.layout) s.formers (spans_held x.state) has.edits));
      back = λ other wrote long. record {
        told = o ∷ take 31 told;
        single = (undoes.1, fewer_told 31 x.state.edits told has.back.single);
        back = subst (λ os. LiesBefore other (changed_live turn live) s' (o ∷ os)) os_kept
            (edits_lie bytes other s s' live e turn _ o told has.back.back (few_there x.state o' bytes live s has) next spans d.plans wrote long returns
            (in_range_after x.state.index s.document task o.part (as_many_tiles x.state o' bytes live s has) (as_many_attachments x.state o' bytes live s has) undoes.2));
      };
      number = refl;
    }

-- where there is no plan the machine refuses the edit, or memory was wanting
pub no_place_for : (x : EngineState) (c : Edit) (e : DocumentEffect) (fault : PlanFault) → HasItsMap x → Means x c (Ok e) → HasNoPlan x.index x.map e fault
    → (o : Origin) (bytes : List ℕ) (live : Live) (s : State) → HasState o bytes live s x → Refuses (λ s. after_edit s c) s (edit_fault (unplanned fault))
no_place_for x c e NoMemory own leads none o bytes live s has = tt
no_place_for x c e (NoPlaceIn need n) own leads none o bytes live s has =
    ap (λ r. r >>= after_effect s) (leads o bytes live s has) ∙ full_in_order s e (record { need = need; length = n }) (none bytes live s (lies_in o bytes live s x has own))

no_device : (fault : Fault) (r : Refusal) → refusal_in fault ≡ Some r → IsFalse (is_device fault)
no_device (of_refusal refusal) r is = refl
no_device of_memory r is = refl
no_device (of_device device) r is = absurd (cc (is))

unplanned_device : (f : PlanFault) → IsFalse (is_device (edit_fault (unplanned f)))
unplanned_device NoMemory = refl
unplanned_device (NoPlaceIn need n) = refl

-- an error with which an edit isn't prepared
unprepared : (go : Goes) (x y : Engine) (r : Result Inverse EditError) (error : EditError) → AsBefore x.state y.state → IsFalse (is_device (edit_fault error))
    → ((o : Origin) (bytes : List ℕ) (live : Live) (s : State) → HasState o bytes live s x.state → Refuses go s (edit_fault error)) → IsErrAnd r (λ e. e ≡ error) → Prepares go x y r
unprepared go x y (Ok inverse) error was device refuses none = absurd none
unprepared go x y (Err e) error was device refuses is = record {
  same = was;
  ready = tt;
  refusal = subst (λ (z : EditError). IsFalse (is_device (edit_fault z)) × ((o : Origin) (bytes : List ℕ) (live : Live) (s : State) → HasState o bytes live s x.state → Refuses go s (edit_fault z))) (sym is) (device, refuses);
}

-- there is no plan
pub no_plan : (x y : Engine) (c : Edit) (e : DocumentEffect) (r : Result Inverse EditError) (fault : PlanFault) → AsBefore x.state y.state → HasItsMap x.state → Means x.state c (Ok e) → HasNoPlan x.state.index x.state.map e fault
    → IsErrAnd r (λ z. z ≡ unplanned fault) → Prepares (λ s. after_edit s c) x y r
no_plan x y c e r fault was own leads none is = unprepared (λ s. after_edit s c) x y r (unplanned fault) was (unplanned_device fault) (no_place_for x.state c e fault own leads none) is

-- the edit is refused before it is planned
pub refused : (x : Engine) (c : Edit) (r : Result Inverse EditError) (error : EditError) (refusal : Refusal) → refusal_of error ≡ Some refusal → Means x.state c (Err refusal) → IsErrAnd r (λ z. z ≡ error) → Prepares (λ s. after_edit s c) x x r
refused x c r error refusal tells is same =
    unprepared (λ s. after_edit s c) x x r error (before_here x.state) (no_device (edit_fault error) refusal tells)
    (λ o bytes live s has. subst (λ (z : Option Refusal). IfSome z (λ w. after_edit s c ≡ Err w)) (sym tells) (ap (λ z. z >>= after_effect s) (is o bytes live s has))) same
