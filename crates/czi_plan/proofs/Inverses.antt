-- What an inverse that fits gives the code: its place is in range, and what it brings is a segment that isn't live.
use Rattle.std.proofs.Common.{◌≡◌, ℕ, ◌+◌, ◌<◌, ◌≤◌, ◌^◌, List, [], ◌∷◌, ◌++◌, true, false, map, length, length-append, take, drop, refl, ap, sym, ◌∙◌, subst, arith}
use Rattle.std.specs.List.{AllByRecursion}
use Rattle.std.proofs.lemmas.List.{length-drop, length-take-le}
use Rattle.czi_doc.specs.View.{info_of}
use Rattle.czi_doc.specs.declared.items.AttInfo.{AttInfo as CodeAttInfo}
use Rattle.czi_doc.specs.declared.items.EntryInfo.{EntryInfo as CodeEntryInfo}
use Rattle.czi_format.specs.Document.{Subblock}
use Rattle.czi_format.specs.Entry.{info_len}
use Rattle.czi_format.specs.Layout.{Place}
use Rattle.czi_format.specs.Segment.{attachment_id, metadata_id, subblock_id}
use Rattle.czi_image.specs.Change.{AreWithin}
use Rattle.czi_image.specs.Holds.{att_item_place, meta_item_place, tile_place}
use Rattle.czi_image.specs.declared.change.Act.{Act as CodeAct}
use Rattle.czi_image.specs.declared.change.Act.TheVariants.{Into, Out, Put}
use Rattle.czi_image.specs.declared.change.Change.{Change as CodeChange}
use Rattle.czi_image.specs.declared.change.DirectoryChange.{DirectoryChange}
use Rattle.czi_image.specs.declared.change.Setting.{Setting as CodeSetting}
use Rattle.czi_image.specs.declared.index.Index.{Index}
use Rattle.czi_image.specs.declared.types.AttItem.{AttItem}
use Rattle.czi_image.specs.declared.types.MetaItem.{MetaItem}
use Rattle.czi_image.specs.declared.types.Tile.{Tile}
use Rattle.czi_machine.specs.Change.{Change}
use Rattle.czi_num.specs.Span.{span_of}
use Rattle.czi_region.specs.declared.block.Region.{Region}
use Rattle.czi_space.specs.State.{MapState, space_of}
use Rattle.czi_undo.specs.declared.held.HeldSegment.{HeldSegment}
use Rattle.czi_undo.specs.declared.inverse.Part.{Part}
use Rattle.czi_undo.specs.declared.inverse.Part.TheVariants.{DropAtt, DropSub, InsertAtt, InsertSub, NoMeta, PutAtt, PutMeta, PutSub, Same as Unchanged}
use Rattle.czi_plan.specs.Bringing.{AreSizesOf, IsSeat, act_at}
use Rattle.czi_plan.specs.Changing.{Begins, IsBack, Origin, Starts, back_entries, front_entries, middle_entries, range_after, returned, size_after, tiles_before, tiles_behind, tiles_brought, used_in}
use Rattle.czi_plan.specs.Conditions.{IsLeft, IsMapOf}
use Rattle.czi_plan.specs.Kind.{Kind, of_attachments, of_subblocks}
use Rattle.czi_plan.specs.Listing.{AreSizes, IsPlace}
use Rattle.czi_plan.specs.Need.{of_subblocks as is_of_subblocks}
use Rattle.czi_plan.specs.Plan.{usable_of}
use Rattle.czi_plan.specs.Setting.{IsMetadataBack, metadata_brought}
use Rattle.czi_plan.specs.Undoing.{HeldFits, IsAttachmentAct, IsAttachmentBack, IsMetadataOf, IsMetadataSetting, IsTileAct, IsTileBack, PartFits, place_of}
use Rattle.czi_plan.specs.declared.bringing.Seat.{Seat}
use Rattle.czi_plan.specs.declared.bringing.Seat.TheVariants.{Before, Over}
use Rattle.czi_plan.specs.declared.plan.EditPlan.{EditPlan}
use Rattle.czi_plan.specs.declared.tiles.Sizes.{Sizes}
use Rattle.czi_plan.proofs.Brought.{few_at, sizes_at, within_at}
use Rattle.czi_plan.proofs.ItemsBack.{held_tile}
use Rattle.czi_plan.proofs.KindLaws.{Laws}
use Rattle.czi_plan.proofs.Parts.{all_within, brought_by}

-- it ends below 2^62
pub held_ends : (id : List ℕ) (x : Index) (m : MapState) (h : HeldSegment) → HeldFits id x m h → h.span.at + h.span.len ≤ 2 ^ 62
held_ends id x m h fits = omega (arith, fits.left.inside, x.small)

-- the place of a held segment is that of its item
left_as : (x : Index) (m : MapState) (h : HeldSegment) (p : Place) → p ≡ place_of h → IsLeft x m (place_of h) → IsLeft x m p
left_as x m h p same left = subst (IsLeft x m) (sym same) left

pub tile_is_back : (x : Index) (m : MapState) (info : CodeEntryInfo) (h : HeldSegment) (t : Tile) → HeldFits subblock_id x m h → IsTileBack info h t → IsBack of_subblocks x m t
tile_is_back x m info h t fits is = (is.own, left_as x m h (tile_place t) (λ j. record { span = span_of (is.span j); walked = is.walked j }) fits.left)

pub attachment_is_back : (x : Index) (m : MapState) (info : CodeAttInfo) (h : HeldSegment) (i : AttItem) → HeldFits attachment_id x m h → IsAttachmentBack info h i → IsBack of_attachments x m i
attachment_is_back x m info h i fits is = (is.own, left_as x m h (att_item_place i) (λ j. record { span = span_of (is.span j); walked = is.walked j }) fits.left)

pub metadata_is_back : (x : Index) (m : MapState) (h : HeldSegment) (i : MetaItem) → HeldFits metadata_id x m h → IsMetadataOf h i → IsMetadataBack x m i
metadata_is_back x m h i fits is = (is.own, left_as x m h (meta_item_place i) (λ j. record { span = span_of (is.span j); walked = is.walked j }) fits.left)

-- What the act of an inverse that fits brings comes back,
pub tiles_back : (x : Index) (m : MapState) (part : Part) (a : CodeAct Tile) → PartFits x m part → IsTileAct part a → AllByRecursion (IsBack of_subblocks x m) (tiles_brought a)
tiles_back x m (DropSub place) a fits act = subst (λ z. AllByRecursion (IsBack of_subblocks x m) (tiles_brought z)) (sym act) tt
tiles_back x m (PutSub place info h) a fits act = subst (λ z. AllByRecursion (IsBack of_subblocks x m) (tiles_brought z)) (sym act.1) (tile_is_back x m info h act.0 fits.1 act.2, tt)
tiles_back x m (InsertSub place info h) a fits act = subst (λ z. AllByRecursion (IsBack of_subblocks x m) (tiles_brought z)) (sym act.1) (tile_is_back x m info h act.0 fits.2 act.2, tt)
tiles_back x m (DropAtt place) a fits act = absurd act
tiles_back x m (PutAtt place info h) a fits act = absurd act
tiles_back x m (InsertAtt place info h) a fits act = absurd act
tiles_back x m NoMeta a fits act = absurd act
tiles_back x m (PutMeta h) a fits act = absurd act
tiles_back x m Unchanged a fits act = absurd act

pub attachments_back : (x : Index) (m : MapState) (part : Part) (a : CodeAct AttItem) → PartFits x m part → IsAttachmentAct part a → AllByRecursion (IsBack of_attachments x m) (tiles_brought a)
attachments_back x m (DropSub place) a fits act = absurd act
attachments_back x m (PutSub place info h) a fits act = absurd act
attachments_back x m (InsertSub place info h) a fits act = absurd act
attachments_back x m (DropAtt place) a fits act = subst (λ z. AllByRecursion (IsBack of_attachments x m) (tiles_brought z)) (sym act) tt
attachments_back x m (PutAtt place info h) a fits act = subst (λ z. AllByRecursion (IsBack of_attachments x m) (tiles_brought z)) (sym act.1) (attachment_is_back x m info h act.0 fits.1 act.2, tt)
attachments_back x m (InsertAtt place info h) a fits act = subst (λ z. AllByRecursion (IsBack of_attachments x m) (tiles_brought z)) (sym act.1) (attachment_is_back x m info h act.0 fits.2 act.2, tt)
attachments_back x m NoMeta a fits act = absurd act
attachments_back x m (PutMeta h) a fits act = absurd act
attachments_back x m Unchanged a fits act = absurd act

pub metadata_back : (x : Index) (m : MapState) (part : Part) (z : CodeSetting MetaItem) → PartFits x m part → IsMetadataSetting part z → AllByRecursion (IsMetadataBack x m) (metadata_brought z)
metadata_back x m (DropSub place) z fits sets = absurd sets
metadata_back x m (PutSub place info h) z fits sets = absurd sets
metadata_back x m (InsertSub place info h) z fits sets = absurd sets
metadata_back x m (DropAtt place) z fits sets = absurd sets
metadata_back x m (PutAtt place info h) z fits sets = absurd sets
metadata_back x m (InsertAtt place info h) z fits sets = absurd sets
metadata_back x m NoMeta z fits sets = subst (λ y. AllByRecursion (IsMetadataBack x m) (metadata_brought y)) (sym sets) tt
metadata_back x m (PutMeta h) z fits sets = subst (λ y. AllByRecursion (IsMetadataBack x m) (metadata_brought y)) (sym sets.1) (metadata_is_back x m h sets.0 fits.0 sets.2, tt)
metadata_back x m Unchanged z fits sets = subst (λ y. AllByRecursion (IsMetadataBack x m) (metadata_brought y)) (sym sets) tt

-- and so it begins, where nothing else is planned: its span is used where it can be used again.
pub begins_back : {C E S : Type 0} {k : Kind C E S} (L : Laws k) (x : Index) (m : MapState) (region : Region) (a : CodeAct C) (d : DirectoryChange) (p q : EditPlan) → IsMapOf x m → AllByRecursion (IsBack k x m) (tiles_brought a) → Starts k m [] p
    → q.writes.items ≡ [] → map span_of q.used.items ≡ used_in k a (let o : Origin (Change S) = returned in o) → q.change ≡ p.change → q.links ≡ p.links → q.freed ≡ p.freed → q.held ≡ p.held → q.dead ≡ p.dead → q.length ≡ p.length
    → IsPlace x (k.directory x) (size_after k a x) (range_after k a x) (space_of m) d → Begins k x m region a returned d q
begins_back {S = S} {k = k} L x m region a d p q is backs starts writes used change links freed held dead long place =
    let o : Origin (Change S) = returned in
    let brought = brought_by L x m region a o [] is (backs, refl) in
    record {
      brings = (backs, writes);
      starts = record {
        tiles = ap (λ (v : CodeChange). v.tiles.items) change ∙ starts.tiles;
        attachments = ap (λ (v : CodeChange). v.attachments.items) change ∙ starts.attachments;
        metadata = ap (λ (v : CodeChange). v.metadata) change ∙ starts.metadata;
        other = ap k.other change ∙ starts.other;
        links = ap (λ v. v.links) links ∙ starts.links;
        freed = ap (λ v. v.items) freed ∙ starts.freed;
        held = ap (λ v. v.items) held ∙ starts.held;
        dead = ap (λ v. v.items) dead ∙ starts.dead;
        used = used;
        length = long ∙ (starts.length ∙ sym (all_within (space_of m) (used_in k a o) brought.ends));
      };
      place = place;
    }

-- what one item uses
pub used_at : {C E S : Type 0} (k : Kind C E S) (seat : Seat) (t : C) → used_in k (act_at seat t) (let o : Origin (Change S) = returned in o) ≡ usable_of (k.place t ∷ [])
used_at k (Over i) t = refl
used_at k (Before i) t = refl

-- the sizes of a directory that lists a subblock again
pub sizes_back : (sizes : Sizes) (seat : Seat) (t : Tile) (items : List Tile) (entry : ℕ) → ((s : Subblock) → info_len s.info ≡ entry → AreSizesOf of_subblocks sizes (act_at seat s) items) → info_len (info_of t.info) ≡ entry
    → AreSizes of_subblocks sizes (front_entries of_subblocks (act_at seat t) items) (middle_entries of_subblocks (act_at seat t) items) (back_entries of_subblocks (act_at seat t) items)
sizes_back sizes seat t items entry are long =
    let s : Subblock = record { info = info_of t.info; meta = []; pixels = []; tail = [] } in
    sizes_at of_subblocks sizes seat s t items refl (are s long)

-- The sizes after any act of an inverse: what it takes away, and what it brings.
abbrev pub AreSizesAfter : Sizes → List Tile → CodeAct Tile → Type 0
AreSizesAfter sizes items a = AreSizes of_subblocks sizes (front_entries of_subblocks a items) (middle_entries of_subblocks a items) (back_entries of_subblocks a items)

pub sizes_dropped : (sizes : Sizes) (items : List Tile) (place : ℕ) (a : CodeAct Tile) → AreSizesOf of_subblocks sizes (Out place) items → a ≡ Out place → AreSizesAfter sizes items a
sizes_dropped sizes items place a are is = subst (AreSizesAfter sizes items) (sym is) (are [] refl)

pub sizes_brought : (sizes : Sizes) (items : List Tile) (seat : Seat) (info : CodeEntryInfo) (h : HeldSegment) (entry : ℕ) (a : CodeAct Tile) → ((s : Subblock) → info_len s.info ≡ entry → AreSizesOf of_subblocks sizes (act_at seat s) items) → entry ≡ info_len (info_of info)
    → (t : Tile) × (a ≡ act_at seat t) × IsTileBack info h t → AreSizesAfter sizes items a
sizes_brought sizes items seat info h entry a are long act = subst (AreSizesAfter sizes items) (sym act.1) (sizes_back sizes seat act.0 items entry are (ap info_len act.2.says ∙ sym long))

-- Its place is in range, and the list that it gives is within its limit.
abbrev pub IsInRange : {C E S : Type 0} → Kind C E S → Index → CodeAct C → Type 0
IsInRange k x a = AreWithin (a ∷ []) (length (k.items x)) × (length (tiles_before a (k.items x) ++ (tiles_brought a ++ tiles_behind a (k.items x))) ≤ k.most)

out_few : {C : Type 0} (i : ℕ) (items : List C) (most : ℕ) → i < length items → length items ≤ most → (let a : CodeAct C = Out i in length (tiles_before a items ++ (tiles_brought a ++ tiles_behind a items)) ≤ most)
out_few {C = C} i items most h few = omega (arith, length-append (take i items) (drop (i + 1) items), length-take-le i items (omega (arith, h)), length-drop (i + 1) items, few)

in_range_at : {C E S : Type 0} (k : Kind C E S) (x : Index) (seat : Seat) (t : C) → IsSeat seat (length (k.items x)) k.most → length (k.items x) ≤ k.most → IsInRange k x (act_at seat t)
in_range_at k x seat t is few = (within_at seat t (length (k.items x)) k.most is, few_at k.most seat t (k.items x) is few)

pub tiles_in_range : (x : Index) (m : MapState) (part : Part) (a : CodeAct Tile) → PartFits x m part → IsTileAct part a → IsInRange of_subblocks x a
tiles_in_range x m (DropSub place) a fits act = subst (IsInRange of_subblocks x) (sym act) ((fits, tt), out_few place x.tiles.items (2 ^ 20) fits (omega (arith, x.few_tiles, x.tiles.ok)))
tiles_in_range x m (PutSub place info h) a fits act = subst (IsInRange of_subblocks x) (sym act.1) (in_range_at of_subblocks x (Over place) act.0 fits.0 (omega (arith, x.few_tiles, x.tiles.ok)))
tiles_in_range x m (InsertSub place info h) a fits act = subst (IsInRange of_subblocks x) (sym act.1) (in_range_at of_subblocks x (Before place) act.0 (fits.0, fits.1) (omega (arith, x.few_tiles, x.tiles.ok)))
tiles_in_range x m (DropAtt place) a fits act = absurd act
tiles_in_range x m (PutAtt place info h) a fits act = absurd act
tiles_in_range x m (InsertAtt place info h) a fits act = absurd act
tiles_in_range x m NoMeta a fits act = absurd act
tiles_in_range x m (PutMeta h) a fits act = absurd act
tiles_in_range x m Unchanged a fits act = absurd act

pub attachments_in_range : (x : Index) (m : MapState) (part : Part) (a : CodeAct AttItem) → PartFits x m part → IsAttachmentAct part a → IsInRange of_attachments x a
attachments_in_range x m (DropSub place) a fits act = absurd act
attachments_in_range x m (PutSub place info h) a fits act = absurd act
attachments_in_range x m (InsertSub place info h) a fits act = absurd act
attachments_in_range x m (DropAtt place) a fits act = subst (IsInRange of_attachments x) (sym act) ((fits, tt), out_few place x.attachments.items (2 ^ 12) fits (omega (arith, x.few_attachments, x.attachments.ok)))
attachments_in_range x m (PutAtt place info h) a fits act = subst (IsInRange of_attachments x) (sym act.1) (in_range_at of_attachments x (Over place) act.0 fits.0 (omega (arith, x.few_attachments, x.attachments.ok)))
attachments_in_range x m (InsertAtt place info h) a fits act = subst (IsInRange of_attachments x) (sym act.1) (in_range_at of_attachments x (Before place) act.0 (fits.0, fits.1) (omega (arith, x.few_attachments, x.attachments.ok)))
attachments_in_range x m NoMeta a fits act = absurd act
attachments_in_range x m (PutMeta h) a fits act = absurd act
attachments_in_range x m Unchanged a fits act = absurd act

-- An inverse of the subblocks that fits has an act.
pub act_of_tiles : (x : Index) (m : MapState) (part : Part) → PartFits x m part → is_of_subblocks part ≡ true → (a : CodeAct Tile) × IsTileAct part a
act_of_tiles x m (DropSub place) fits kind = (Out place, refl)
act_of_tiles x m (PutSub place info h) fits kind = let t = held_tile info h fits.1.own (held_ends subblock_id x m h fits.1) in (Put place t.0, (t.0, refl, t.1))
act_of_tiles x m (InsertSub place info h) fits kind = let t = held_tile info h fits.2.own (held_ends subblock_id x m h fits.2) in (Into place t.0, (t.0, refl, t.1))
act_of_tiles x m (DropAtt place) fits kind = absurd (let no : false ≡ true = kind in cc (no))
act_of_tiles x m (PutAtt place info h) fits kind = absurd (let no : false ≡ true = kind in cc (no))
act_of_tiles x m (InsertAtt place info h) fits kind = absurd (let no : false ≡ true = kind in cc (no))
act_of_tiles x m NoMeta fits kind = absurd (let no : false ≡ true = kind in cc (no))
act_of_tiles x m (PutMeta h) fits kind = absurd (let no : false ≡ true = kind in cc (no))
act_of_tiles x m Unchanged fits kind = absurd (let no : false ≡ true = kind in cc (no))
