-- The newest inverse of any state fits, where the map holds what the state does.
use Rattle.std.proofs.Common.{◌≡◌, ℕ, suc, ◌+◌, ◌<◌, ◌≤◌, ◌^◌, List, [], ◌∷◌, map, filter, length, length-append, take, drop, not, slice_index_or, Bool, true, false, Option, Some, None, option_map, nat_le, refl, ap, sym, ◌∙◌, subst, arith, inl, inr}
use Rattle.std.specs.List.{AllByRecursion, list_any}
use Rattle.std.specs.Option.{IsSome}
use Rattle.std.proofs.lemmas.Bool.{and_parts, cases_Bool, leb-true, ltb-true}
use Rattle.std.proofs.lemmas.List.{length-drop, length-map, length-take-le}
use Rattle.czi_doc.specs.declared.items.AttInfo.{AttInfo as CodeAttInfo}
use Rattle.czi_doc.specs.declared.items.EntryInfo.{EntryInfo as CodeEntryInfo}
use Rattle.czi_format.specs.Contents.{att_size, meta_end, meta_head, sub_end, sub_head}
use Rattle.czi_format.specs.Document.{Document, Metadata}
use Rattle.czi_format.specs.Entry.{A1, Entry}
use Rattle.czi_format.specs.Layout.{Place}
use Rattle.czi_format.specs.Live.{AttItem, Live, MetaItem, Tile, att_item, attachment_of, meta_item, metadata_of, subblock_of, tile}
use Rattle.czi_format.specs.Segment.{Segment, attachment_id, data_of, extent, header_at, metadata_id, subblock_id}
use Rattle.czi_format.specs.Space.{same_span}
use Rattle.czi_format.specs.Span.{Span, LiesInOne, end_of}
use Rattle.czi_format.proofs.Local.{All-append}
use Rattle.czi_format.proofs.Readings.{bind_some, given_some}
use Rattle.czi_image.specs.View.{att_item_of, meta_item_of, tile_of}
use Rattle.czi_image.specs.declared.index.Index.{Index}
use Rattle.czi_image.specs.declared.types.MetaItem.{MetaItem as CodeMetaItem}
use Rattle.czi_machine.specs.Change.{bring, changed, mapped, omit}
use Rattle.czi_machine.proofs.Changing.{changed-into, changed-put}
use Rattle.czi_machine.specs.Cover.{between, cover}
use Rattle.czi_machine.specs.Formers.{BringBack, LiesHeld, Lain, attachment_place, brought_back, metadata_place, present, tile_place}
use Rattle.czi_machine.specs.Places.{can_be_used}
use Rattle.czi_machine.specs.Sound.{IsDisjointState, dead_held, live_spans, usable_held}
use Rattle.czi_machine.specs.State.{Former, Items, State, held_by, item_places, item_spans, items_of, not_among, spans_of}
use Rattle.czi_machine.proofs.Placing.{covers_own, in_one_covers}
use Rattle.czi_num.specs.Span.{span_of}
use Rattle.czi_space.specs.State.{MapState}
use Rattle.czi_undo.specs.Laws.{LiesBefore}
use Rattle.czi_undo.specs.Parts.{LainPart, ListPart, change_of, drops, in_attachments, in_range, in_tiles, inserts, is_there, puts, return_of}
use Rattle.czi_undo.specs.Stands.{IsAttachment, IsHeld, IsMetadata, IsPart, IsSingle, IsTile}
use Rattle.czi_undo.specs.Told.{FitAll, Single, few_items, return_of_single}
use Rattle.czi_undo.specs.declared.held.HeldSegment.{HeldSegment}
use Rattle.czi_undo.specs.declared.inverse.Inverse.{Inverse}
use Rattle.czi_undo.specs.declared.inverse.Part.{Part}
use Rattle.czi_undo.specs.declared.inverse.Part.TheVariants.{DropAtt, DropSub, InsertAtt, InsertSub, NoMeta, PutAtt, PutMeta, PutSub, Same}
use Rattle.czi_undo.proofs.ToldAgain.{header_told, id_long}
use Rattle.czi_plan.specs.Conditions.{IsLeft, IsMapOf, LiesIn, live_of}
use Rattle.czi_plan.specs.Kind.{IsOfKind}
use Rattle.czi_plan.specs.Undoing.{BeginsAsKind, HeldFits, InverseFits, IsSoundHeld, PartFits, place_of}
use Rattle.czi_plan.proofs.Doing.{places_are, places_spans}
use Rattle.czi_plan.proofs.Order.{at_place}
use Rattle.czi_plan.proofs.Undone.{brought_part, mapped_past, part_items, put_same}
use Rattle.czi_plan.proofs.Parts.{ends_all, in_one_ends, live_once, map_extents, meets_none}

-- Of places those that can be used again, and the others.
usable_all : (P : Span → Type 0) (ps : List Place) → AllByRecursion P (spans_of (filter can_be_used ps)) → AllByRecursion (λ (p : Place). can_be_used p ≡ true → P p.span) ps
usable_all P [] all = tt
usable_all P (p ∷ ps) all = elim (cases_Bool (can_be_used p)) [
  | inl e ↦ let here = rw e at all in ((λ t. here.0), usable_all P ps here.1)
  | inr e ↦ ((λ t. absurd (let clash : false ≡ true = sym e ∙ t in cc (clash))), usable_all P ps (rw e at all))
]

dead_all : (P : Span → Type 0) (ps : List Place) → AllByRecursion P (spans_of (filter (λ (p : Place). not (can_be_used p)) ps)) → AllByRecursion (λ (p : Place). can_be_used p ≡ false → P p.span) ps
dead_all P [] all = tt
dead_all P (p ∷ ps) all = elim (cases_Bool (can_be_used p)) [
  | inl e ↦ ((λ t. absurd (let clash : true ≡ false = sym e ∙ t in cc (clash))), dead_all P ps (rw e at all))
  | inr e ↦ let here = rw e at all in ((λ t. here.0), dead_all P ps here.1)
]

all_three : (P Q R T : Place → Type 0) → ((p : Place) → P p → Q p → R p → T p) → (ps : List Place) → AllByRecursion P ps → AllByRecursion Q ps → AllByRecursion R ps → AllByRecursion T ps
all_three P Q R T f [] a b c = tt
all_three P Q R T f (p ∷ ps) a b c = (f p a.0 b.0 c.0, all_three P Q R T f ps a.1 b.1 c.1)

both_of : (P Q R : Span → Type 0) → ((s : Span) → P s → Q s → R s) → (xs : List Span) → AllByRecursion P xs → AllByRecursion Q xs → AllByRecursion R xs
both_of P Q R f [] a b = tt
both_of P Q R f (x ∷ xs) a b = (f x a.0 b.0, both_of P Q R f xs a.1 b.1)

-- what holds of those of some places that aren't among spans
others_all : (P : Place → Type 0) (spans : List Span) (ps : List Place) → AllByRecursion P (not_among spans ps) → AllByRecursion (λ (p : Place). list_any (same_span p.span) spans ≡ false → P p) ps
others_all P spans [] all = tt
others_all P spans (p ∷ ps) all = elim (cases_Bool (list_any (same_span p.span) spans)) [
  | inl e ↦ ((λ t. absurd (let clash : true ≡ false = sym e ∙ t in cc (clash))), others_all P spans ps (rw e at all))
  | inr e ↦ let here = rw e at all in ((λ t. here.0), others_all P spans ps here.1)
]

-- an item that an inverse brings is one of the list afterwards
part_all : {Y : Type 0} (P : Place → Type 0) (f : Y → Place) (p : ListPart Y) (ps : List Place) → AllByRecursion P (changed (mapped f (change_of p)) ps) → AllByRecursion (λ y. P (f y)) (part_items p)
part_all P f (drops i) ps all = tt
part_all P f (puts i y) ps all =
    let is = ap (λ c. changed c ps) (mapped_past f i (bring y ∷ omit ∷ [])) ∙ (put_same i (f y) ps ∙ changed-put i (f y) ps) in
    ((All-append P (take i ps) (f y ∷ drop (suc i) ps) (subst (AllByRecursion P) is all)).1.0, tt)
part_all P f (inserts i y) ps all =
    let is = ap (λ c. changed c ps) (mapped_past f i (bring y ∷ [])) ∙ changed-into i (f y) ps in
    ((All-append P (take i ps) (f y ∷ drop i ps) (subst (AllByRecursion P) is all)).1.0, tt)

-- What a state holds isn't live, and lies in the map as that says.
module _ {image : List ℕ} {live : Live} {s : State} {x : Index} {m : MapState} (lies : LiesIn image live s x m) (is : IsMapOf x m) (tidy : IsDisjointState s) (holds : (q : ℕ) → 1 ≤ cover (usable_held s) q → 1 ≤ cover m.held q) where
  extents_are : m.extents ≡ s.layout.deleted
  extents_are = sym is.extents ∙ lies.lies.deleted

  live_covers : (q : ℕ) → cover (live_spans s.layout) q ≡ cover (live_of x) q
  live_covers q = (λ j. cover (spans_of (sym lies.lies.header j ∷ places_are s.layout x lies.lies j)) q) ∙ ap (λ l. cover l q) (places_spans x)

  abbrev IsUsable : Span → Type 0
  IsUsable t = LiesInOne t s.layout.deleted × ((q : ℕ) → between t.at (end_of t) q ≤ cover (usable_held s) q)

  abbrev IsDead : Span → Type 0
  IsDead t = (q : ℕ) → between t.at (end_of t) q ≤ cover (dead_held s) q

  left_of_state : (p : Place) → 0 < p.span.len → (can_be_used p ≡ true → IsUsable p.span) → (can_be_used p ≡ false → IsDead p.span) → IsLeft x m p
  left_of_state p some usable dead = elim (cases_Bool (can_be_used p)) [
    | inl e ↦
        let its = usable e in
        let one : LiesInOne p.span m.extents = subst (LiesInOne p.span) (sym extents_are) its.0 in
        record {
          inside = omega (arith, in_one_ends 0 m.length m.extents p.span (map_extents x m is) one, is.length);
          apart = meets_none p.span (live_of x) (λ q. omega (arith, in_one_covers p.span m.extents q one, live_once x m q is));
          among = ((λ t. (one, λ q low high. holds q (omega (arith, its.1 q, at_place, low, high)))), λ t. absurd (let clash : true ≡ false = sym e ∙ t in cc (clash)));
        }
    | inr e ↦
        let its = dead e in
        record {
          inside = (ends_all x.length (p.span ∷ []) (some, tt) (λ q past'. omega (arith, its q, tidy.inside q (omega (arith, past', lies.lies.length))))).0;
          apart = meets_none p.span (live_of x) (λ q. omega (arith, its q, tidy.once q, live_covers q));
          among = (
            (λ t. absurd (let clash : false ≡ true = sym e ∙ t in cc (clash))),
            λ t. meets_none p.span m.extents (λ q. omega (arith, its q, tidy.once q, ap (λ l. cover l q) extents_are)),
          );
        }
  ]

  pub held_left : AllByRecursion (IsLeft x m) (held_by (items_of s.layout) s.formers)
  held_left =
      let G : List Place = held_by (items_of s.layout) s.formers in
      all_three (λ (p : Place). 0 < p.span.len) (λ (p : Place). can_be_used p ≡ true → IsUsable p.span) (λ (p : Place). can_be_used p ≡ false → IsDead p.span) (IsLeft x m) left_of_state G tidy.held.some
      (usable_all IsUsable G (both_of (λ t. LiesInOne t s.layout.deleted) (λ (t : Span). (q : ℕ) → between t.at (end_of t) q ≤ cover (usable_held s) q) IsUsable (λ t a b. (a, b)) (usable_held s) tidy.held_in (covers_own (usable_held s))))
      (dead_all IsDead G (covers_own (dead_held s)))

  -- and so does what the newest former document has and the present one hasn't
  pub newest_left : (f : Former) (formers : List Former) → s.formers ≡ f ∷ formers → AllByRecursion (λ (p : Place). list_any (same_span p.span) (item_spans (items_of s.layout)) ≡ false → IsLeft x m p) (item_places f.items)
  newest_left f formers newest =
      let i : Items = items_of s.layout in
      let all : AllByRecursion (IsLeft x m) (held_by i (f ∷ formers)) = subst (λ fs. AllByRecursion (IsLeft x m) (held_by i fs)) newest held_left in
      others_all (IsLeft x m) (item_spans i) (item_places f.items) (All-append (IsLeft x m) (not_among (item_spans i) (item_places f.items)) (held_by f.items formers) all).0

-- The contents of what is read end within its segment.
tile_ends : (e : Entry) (s : Segment) (bytes : List ℕ) (y : Tile) → tile e s bytes ≡ Some y → sub_end y.head ≤ s.allocated
unfolding tile
tile_ends e s bytes y found = let h = bind_some (sub_head bytes) _ y found in let g = given_some _ _ y h.2 in subst (λ z. sub_end z.head ≤ s.allocated) g.1 (leb-true _ _ g.0)

attachment_ends : (e : A1) (s : Segment) (bytes : List ℕ) (y : AttItem) → att_item e s bytes ≡ Some y → 256 + y.size ≤ s.allocated
unfolding att_item
attachment_ends e s bytes y found = let h = bind_some (att_size bytes) _ y found in let g = given_some _ _ y h.2 in subst (λ z. 256 + z.size ≤ s.allocated) g.1 (leb-true _ _ g.0)

metadata_ends : (s : Segment) (bytes : List ℕ) (y : MetaItem) → meta_item s bytes ≡ Some y → meta_end y.head ≤ s.allocated
unfolding meta_item
metadata_ends s bytes y found = let h = bind_some (meta_head bytes) _ y found in let g = given_some _ _ y h.2 in subst (λ z. meta_end z.head ≤ s.allocated) g.1 (leb-true _ _ g.0)

-- A held segment of the code is that of the item.
sound_by : (id : List ℕ) (h : HeldSegment) (s : Segment) (on : Bool) → length id ≡ 16 → IsHeld h s on → IsOfKind id s → h.span.at + h.span.len ≤ 2 ^ 62 → h.span.at + 32 ≤ h.begin → h.begin + slice_index_or h.sizes 0 0 + slice_index_or h.sizes 1 0 + slice_index_or h.sizes 2 0 ≤ end_of (span_of h.span) → IsSoundHeld id h
sound_by id h s on long is kind ends begins contents =
    let at : h.span.at ≡ s.at = ap (λ z. z.at) is.span in
    let len : h.span.len ≡ 32 + s.allocated = ap (λ z. z.len) is.span in
    record {
      segment = record { at = 0; id = s.id; allocated = s.allocated; used = s.used };
      head = ap (λ z. header_at z 0) is.head ∙ header_told s (ap (length {A = ℕ}) kind.0 ∙ long) (omega (arith, len, ends)) (omega (arith, len, ends, kind.1));
      named = kind.0;
      sound = kind.1;
      extent = len;
      begins = begins;
      contents = contents;
    }

place_is : (h : HeldSegment) (s : Segment) (on : Bool) → IsHeld h s on → (let p : Place = record { span = extent s; walked = on } in p) ≡ place_of h
place_is h s on is = λ j. record { span = sym is.span j; walked = sym is.walked j }

left_ends : (x : Index) (m : MapState) (h : HeldSegment) → IsLeft x m (place_of h) → h.span.at + h.span.len ≤ 2 ^ 62
left_ends x m h left = omega (arith, left.inside, x.small)

tile_fits : (image : List ℕ) (x : Index) (m : MapState) (i : CodeEntryInfo) (h : HeldSegment) (y : Lain Tile) → IsTile i h y → tile y.item.entry y.item.segment (data_of image y.item.segment) ≡ Some y.item → IsOfKind subblock_id y.item.segment → IsLeft x m (tile_place y) → HeldFits subblock_id x m h
tile_fits image x m i h y is reads kind left =
    let left' : IsLeft x m (place_of h) = subst (IsLeft x m) (place_is h y.item.segment y.walked is.held) left in
    let at : h.span.at ≡ y.item.segment.at = ap (λ z. z.at) is.held.span in
    let len : h.span.len ≡ 32 + y.item.segment.allocated = ap (λ z. z.len) is.held.span in
    let sizes = λ (n : ℕ). ap (λ z. slice_index_or z n 0) is.sizes in
    record { own = sound_by subblock_id h y.item.segment y.walked id_long.0 is.held kind (left_ends x m h left') (omega (arith, is.begin, at)) (omega (arith, is.begin, at, len, tile_ends _ _ _ y.item reads, sizes 0, sizes 1, sizes 2)); left = left' }

attachment_fits : (image : List ℕ) (x : Index) (m : MapState) (i : CodeAttInfo) (h : HeldSegment) (y : Lain AttItem) → IsAttachment i h y → att_item y.item.entry y.item.segment (data_of image y.item.segment) ≡ Some y.item → IsOfKind attachment_id y.item.segment → IsLeft x m (attachment_place y)
    → HeldFits attachment_id x m h × BeginsAsKind h
attachment_fits image x m i h y is reads kind left =
    let left' : IsLeft x m (place_of h) = subst (IsLeft x m) (place_is h y.item.segment y.walked is.held) left in
    let at : h.span.at ≡ y.item.segment.at = ap (λ z. z.at) is.held.span in
    let len : h.span.len ≡ 32 + y.item.segment.allocated = ap (λ z. z.len) is.held.span in
    let sizes = λ (n : ℕ). ap (λ z. slice_index_or z n 0) is.sizes in (
      record { own = sound_by attachment_id h y.item.segment y.walked id_long.1 is.held kind (left_ends x m h left') (omega (arith, is.begin, at)) (omega (arith, is.begin, at, len, attachment_ends _ _ _ y.item reads, sizes 0, sizes 1, sizes 2)); left = left' },
      omega (arith, is.begin, at),
    )

metadata_fits : (image : List ℕ) (x : Index) (m : MapState) (h : HeldSegment) (y : Lain MetaItem) → IsMetadata h y → meta_item y.item.segment (data_of image y.item.segment) ≡ Some y.item → IsOfKind metadata_id y.item.segment → IsLeft x m (metadata_place y) → HeldFits metadata_id x m h × BeginsAsKind h
metadata_fits image x m h y is reads kind left =
    let left' : IsLeft x m (place_of h) = subst (IsLeft x m) (place_is h y.item.segment y.walked is.held) left in
    let at : h.span.at ≡ y.item.segment.at = ap (λ z. z.at) is.held.span in
    let len : h.span.len ≡ 32 + y.item.segment.allocated = ap (λ z. z.len) is.held.span in
    let sizes = λ (n : ℕ). ap (λ z. slice_index_or z n 0) is.sizes in (
      record { own = sound_by metadata_id h y.item.segment y.walked id_long.2 is.held kind (left_ends x m h left') (omega (arith, is.begin, at)) (omega (arith, is.begin, at, len, metadata_ends _ _ y.item reads, sizes 0, sizes 1, sizes 2)); left = left' },
      omega (arith, is.begin, at),
    )

-- How many items there are, and how many there were.
tiles_many : {image : List ℕ} {live : Live} {s : State} {x : Index} {m : MapState} → LiesIn image live s x m → length s.document.subblocks ≡ length x.tiles.items
tiles_many {image = image} {live = live} {s = s} {x = x} lies =
    omega (arith, ap (λ (d : Document). length d.subblocks) lies.loosely.document, length-map live.tiles (subblock_of image), ap (length {A = Tile}) lies.holds.tiles, length-map x.tiles.items tile_of)

attachments_many : {image : List ℕ} {live : Live} {s : State} {x : Index} {m : MapState} → LiesIn image live s x m → length s.document.attachments ≡ length x.attachments.items
attachments_many {image = image} {live = live} {s = s} {x = x} lies =
    omega (arith, ap (λ (d : Document). length d.attachments) lies.loosely.document, length-map live.attachments (attachment_of image), ap (length {A = AttItem}) lies.holds.attachments, length-map x.attachments.items att_item_of)

-- one more
one_more : {Y Z : Type 0} (f : Y → Z) (i : ℕ) (y : Y) (zs : List Z) → i ≤ length zs → length (changed (mapped f (change_of (inserts i y))) zs) ≡ length zs + 1
one_more {Z = Z} f i y zs h =
    let is = ap (λ c. changed c zs) (mapped_past f i (bring y ∷ [])) ∙ changed-into i (f y) zs in
    omega (arith, ap (length {A = Z}) is, length-append (take i zs) (f y ∷ drop i zs), length-take-le i zs h, length-drop i zs, h)

metadata_there : (o : Option CodeMetaItem) (d : Option Metadata) (live : Option MetaItem) (image : List ℕ) → option_map meta_item_of o ≡ live → d ≡ option_map (metadata_of image) live → is_there d ≡ true → IsSome o
metadata_there None d live image a b there = absurd (let none : d ≡ None = b ∙ ap (option_map (metadata_of image)) (sym a) in let clash : false ≡ true = sym (ap is_there none) ∙ there in cc (clash))
metadata_there (Some i) d live image a b there = refl

-- So the newest inverse fits.
module _ {image : List ℕ} {live : Live} {s : State} {x : Index} {m : MapState} (lies : LiesIn image live s x m) (is : IsMapOf x m) (holds : (q : ℕ) → 1 ≤ cover (usable_held s) q → 1 ≤ cover m.held q) (f : Former) (formers : List Former) (newest : s.formers ≡ f ∷ formers) (tidy : IsDisjointState s) where
  abbrev IsOther : Place → Type 0
  IsOther p = list_any (same_span p.span) (item_spans (items_of s.layout)) ≡ false → IsLeft x m p

  others : AllByRecursion IsOther (item_places f.items)
  others = newest_left lies is tidy holds f formers newest

  one_tile : (n : ℕ) (p : ListPart (Lain Tile)) (y : Lain Tile) → part_items p ≡ y ∷ [] → f ≡ brought_back image (return_of n (in_tiles p)) (present s) → LiesHeld image (items_of s.layout) (return_of n (in_tiles p))
      → (tile y.item.entry y.item.segment (data_of image y.item.segment) ≡ Some y.item) × IsOfKind subblock_id y.item.segment × IsLeft x m (tile_place y)
  one_tile n p y one back held =
      let i : Items = items_of s.layout in
      let h = (subst (AllByRecursion _) (brought_part p ∙ one) held.tiles).0 in
      let all = subst (λ z. AllByRecursion IsOther (item_places z.items)) back others in
      let place = (subst (AllByRecursion (λ y. IsOther (tile_place y))) one (part_all IsOther tile_place p i.subblocks (All-append IsOther (changed (mapped tile_place (change_of p)) i.subblocks) _ all).0)).0 in
      (h.0, (h.1, h.3), place h.4)

  one_attachment : (n : ℕ) (p : ListPart (Lain AttItem)) (y : Lain AttItem) → part_items p ≡ y ∷ [] → f ≡ brought_back image (return_of n (in_attachments p)) (present s) → LiesHeld image (items_of s.layout) (return_of n (in_attachments p))
      → (att_item y.item.entry y.item.segment (data_of image y.item.segment) ≡ Some y.item) × IsOfKind attachment_id y.item.segment × IsLeft x m (attachment_place y)
  one_attachment n p y one back held =
      let i : Items = items_of s.layout in
      let h = (subst (AllByRecursion _) (brought_part p ∙ one) held.attachments).0 in
      let all = subst (λ z. AllByRecursion IsOther (item_places z.items)) back others in
      let behind = All-append IsOther i.subblocks _ all in
      let place = (subst (AllByRecursion (λ y. IsOther (attachment_place y))) one (part_all IsOther attachment_place p i.attachments (All-append IsOther (changed (mapped attachment_place (change_of p)) i.attachments) _ behind.1).0)).0 in
      (h.0, (h.1, h.3), place h.4)

  few_then : few_items f.document ≡ true → (length f.document.subblocks ≤ 2 ^ 20) × (length f.document.attachments ≤ 2 ^ 12)
  few_then few = let both = and_parts (nat_le (length f.document.subblocks) (2 ^ 20)) (nat_le (length f.document.attachments) (2 ^ 12)) few in (leb-true _ _ both.0, leb-true _ _ both.1)

  part_fits : (part : Part) (q : LainPart) (n : ℕ) → IsPart part q → f ≡ brought_back image (return_of n q) (present s) → LiesHeld image (items_of s.layout) (return_of n q) → in_range q s.document ≡ true → few_items f.document ≡ true → PartFits x m part
  part_fits (DropSub place) q n its back held range few = omega (arith, ltb-true _ _ (ap (λ z. in_range z s.document) (sym its) ∙ range), tiles_many lies)
  part_fits (PutSub place info h) q n its back held range few =
      let p = puts place its.0 in
      let one = one_tile n p its.0 refl (back ∙ ap (λ z. brought_back image (return_of n z) (present s)) its.1) (subst (λ z. LiesHeld image (items_of s.layout) (return_of n z)) its.1 held) in
      (omega (arith, ltb-true _ _ (ap (λ z. in_range z s.document) (sym its.1) ∙ range), tiles_many lies), tile_fits image x m info h its.0 its.2 one.0 one.1 one.2)
  part_fits (InsertSub place info h) q n its back held range few =
      let p = inserts place its.0 in
      let back' = back ∙ ap (λ z. brought_back image (return_of n z) (present s)) its.1 in
      let one = one_tile n p its.0 refl back' (subst (λ z. LiesHeld image (items_of s.layout) (return_of n z)) its.1 held) in
      let low : place ≤ length s.document.subblocks = leb-true _ _ (ap (λ z. in_range z s.document) (sym its.1) ∙ range) in
      let more = one_more (λ (y : Lain Tile). subblock_of image y.item) place its.0 s.document.subblocks low in
      (omega (arith, low, tiles_many lies), omega (arith, (few_then few).0, ap (λ z. length z.document.subblocks) back', more, tiles_many lies), tile_fits image x m info h its.0 its.2 one.0 one.1 one.2)
  part_fits (DropAtt place) q n its back held range few = omega (arith, ltb-true _ _ (ap (λ z. in_range z s.document) (sym its) ∙ range), attachments_many lies)
  part_fits (PutAtt place info h) q n its back held range few =
      let p = puts place its.0 in
      let one = one_attachment n p its.0 refl (back ∙ ap (λ z. brought_back image (return_of n z) (present s)) its.1) (subst (λ z. LiesHeld image (items_of s.layout) (return_of n z)) its.1 held) in
      let fits = attachment_fits image x m info h its.0 its.2 one.0 one.1 one.2 in
      (omega (arith, ltb-true _ _ (ap (λ z. in_range z s.document) (sym its.1) ∙ range), attachments_many lies), fits.0, fits.1)
  part_fits (InsertAtt place info h) q n its back held range few =
      let p = inserts place its.0 in
      let back' = back ∙ ap (λ z. brought_back image (return_of n z) (present s)) its.1 in
      let one = one_attachment n p its.0 refl back' (subst (λ z. LiesHeld image (items_of s.layout) (return_of n z)) its.1 held) in
      let low : place ≤ length s.document.attachments = leb-true _ _ (ap (λ z. in_range z s.document) (sym its.1) ∙ range) in
      let more = one_more (λ (y : Lain AttItem). attachment_of image y.item) place its.0 s.document.attachments low in
      let fits = attachment_fits image x m info h its.0 its.2 one.0 one.1 one.2 in
      (omega (arith, low, attachments_many lies), omega (arith, (few_then few).1, ap (λ z. length z.document.attachments) back', more, attachments_many lies), fits.0, fits.1)
  part_fits NoMeta q n its back held range few =
      metadata_there x.metadata s.document.metadata live.metadata image lies.holds.metadata (ap (λ (d : Document). d.metadata) lies.loosely.document) (ap (λ z. in_range z s.document) (sym its) ∙ range)
  part_fits (PutMeta h) q n its back held range few =
      let i : Items = items_of s.layout in
      let h' = (subst (λ z. LiesHeld image i (return_of n z)) its.1 held).metadata.0 in
      let all = subst (λ z. AllByRecursion IsOther (item_places z.items)) (back ∙ ap (λ z. brought_back image (return_of n z) (present s)) its.1) others in
      let behind = All-append IsOther i.attachments _ (All-append IsOther i.subblocks _ all).1 in
      metadata_fits image x m h its.0 its.2 h'.0 (h'.1, h'.2) (behind.1.0 h'.3)
  part_fits Same q n its back held range few = tt

-- The newest inverse of a state, where the map holds whatever an undo may use again.
pub newest_fits : (image : List ℕ) (live : Live) (s : State) (x : Index) (m : MapState) (i : Inverse) (o : Single) (os : List Single) → LiesIn image live s x m → IsMapOf x m → LiesBefore image live s (o ∷ os) → IsSingle i o → ((q : ℕ) → 1 ≤ cover (usable_held s) q → 1 ≤ cover m.held q) → InverseFits x m i
newest_fits image live s x m i o os lies is before single holds = by s.formers refl before.with'.back before.fit
  where
    by : (fs : List Former) → s.formers ≡ fs → BringBack image (present s) (map return_of_single (o ∷ os)) fs → FitAll (present s) (o ∷ os) fs → InverseFits x m i
    by [] newest back fit = absurd back
    by (f ∷ formers) newest back fit = record { part = single.part; only = single.only; fits = part_fits lies is holds f formers newest before.with'.tidy single.part o.part o.edits single.is back.0 back.1 fit.0 fit.1 }
